use Rattle.std.proofs.Common.{◌≡◌, ◌<◌, ℕ, ◌*◌, ◌+◌, List, length, subst, sym, ap, ◌∙◌, arith, length-append, inl, inr}
use Rattle.std.proofs.lemmas.Bool.{cases_eq}
use Rattle.base_model.specs.Flash.{Told, raised}
use Rattle.base_model.proofs.PowerLemmas.{lit_then}
use Rattle.record_model.specs.Records.{slot_at, head_at, tail_at}
use Rattle.record_slots.specs.declared.found.Look.{Look}
use Rattle.record_slots.specs.Looks.{AreSeen}
use Rattle.record_slots.proofs.LookLemmas.{seen_here, seen_push}
use Rattle.record_slots.proofs.looking.look_at_slots.Goals as goal

-- two reads more
one_look : (n old mid new : ℕ) → (n ≡ 0 → mid ≡ old) → (0 < n → mid ≡ raised (2 * n) old) → new ≡ raised 2 mid → new ≡ raised (2 * (n + 1)) old
one_look n old mid new none some more = elim (cases_eq n 0) [
  | inl first ↦ let same : mid ≡ old = none first in omega arith
  | inr later ↦ let so_far : mid ≡ raised (2 * n) old = some (omega arith) in omega arith
]

pub loop-slot-preserved : goal.loop-slot-preserved
loop-slot-preserved g c =
    let size = c.args.geometry.now.slot_size in
    let before = c.loop-slot.invariant in
    let count = c.in_ok-head.ensures.stays.counted in
    record {
      long =
          let so_far = before.long in
          let grown : length c.push_reserved.new.self.items ≡ length c.loop-slot.looks.items + 1 = ap length c.push_reserved.ensures.items ∙ length-append c.loop-slot.looks.items _ in
          omega arith;
      capacity = c.push_reserved.ensures.capacity ∙ before.capacity;
      told = λ tells. c.look.ensures.stays.told tells ∙ before.told tells;
      flash_size = c.look.ensures.stays.size ∙ before.flash_size;
      sector_size = c.look.ensures.stays.sector_size ∙ before.sector_size;
      steps = c.look.ensures.stays.steps ∙ before.steps;
      power = c.look.ensures.stays.power ∙ before.power;
      reads = let first = before.reads in let second = c.look.ensures.stays.reads in omega arith;
      unread = λ none. absurd (omega arith);
      counted = λ some. one_look c.loop-slot.slot (g.F.Flash.state c.args.flash.now).reads (g.F.Flash.state c.loop-slot.flash).reads
          (g.F.Flash.state c.look.new.flash).reads before.unread before.counted count;
      powered = λ some. c.in_ok-head.ensures.stays.powered;
      lit = lit_then _ _ _ before.power before.lit c.look.ensures.stays.lit;
      faults = c.in_ok-head.ensures.stays.cause.ok ∙ before.faults;
      seen = λ tells.
          let image = (g.F.Flash.state c.args.flash.now).told.image in
          let look : Look = record { head = c.in_ok-head.head; tail = c.in_ok-head.tail } in
          subst (λ (xs : List Look). AreSeen (slot_at size image) (c.loop-slot.slot + 1) xs) (sym c.push_reserved.ensures.items)
          (seen_push (slot_at size image) c.loop-slot.slot c.loop-slot.looks.items look before.long
          (seen_here size c.loop-slot.slot image look
          (c.in_ok-head.ensures.head tells ∙ ap (λ (t : Told). head_at t.image (c.loop-slot.slot * size)) (before.told tells))
          (c.in_ok-head.ensures.tail tells ∙ ap (λ (t : Told). tail_at t.image (c.loop-slot.slot * size) size) (before.told tells)))
          (before.seen tells));
    }
