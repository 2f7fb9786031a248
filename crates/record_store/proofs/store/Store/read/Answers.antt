use Rattle.std.proofs.Common.{◌≡◌, ℕ, ◌-◌, ◌<◌, ◌≤◌, true, List, ◌++◌, length, drop, Some, refl, sym, ap, subst, ◌∙◌, arith}
use Rattle.std.specs.Prelude.{vec_len}
use Rattle.std.specs.FinMap.{get, len}
use Rattle.std.proofs.lemmas.Bool.{eqb-true, eqb-false}
use Rattle.base_model.specs.Layout.{Layout, reach_of}
use Rattle.record_model.specs.Records.{Stored, entry_at}
use Rattle.record_model.proofs.RefusalLemmas.{read_empty, read_missing}
use Rattle.record_store.specs.Store.{StoreView, stored}
use Rattle.flash_model.specs.Layouts.{layout_of}
use Rattle.record_store.specs.Kept.{IsStore, pending_of}
use Rattle.record_store.proofs.AnswerLemmas.{count_before, none_before, stored_at, record_before}
use Rattle.record_store.proofs.BeginLemmas.{written_back}
use Rattle.record_store.proofs.PartLemmas.{bytes_are}
use Rattle.record_store.proofs.StoreLemmas.{looked, of_old, read_store, read_leaves, read_failed_leaves, read_still, read_reads}
use Rattle.record_store.proofs.Words.{IsStoredAt}
use Rattle.record_store.proofs.store.Store.read.Goals as goal

pub returns-then-is_empty-clause-answer : goal.returns-then-is_empty-clause-answer
returns-then-is_empty-clause-answer g c tells =
    let ids = c.self.inside.found.ids in
    let none : vec_len ids ≡ 0 = eqb-true (vec_len ids) 0 (sym c.if-is_empty.ensures) in
    let long : len (stored c.args.self.now) ≡ length ids.items = count_before (looked c.self.invariant c.self.view_is c.in_ok-settle.ensures.leaves) tells in
    (read_empty c.args.self.now.layout c.args.id (stored c.args.self.now) (omega (arith, ids.ok.0)), refl)

pub returns-in_default-clause-answer : goal.returns-in_default-clause-answer
returns-in_default-clause-answer g c tells =
    let ids = c.self.inside.found.ids in
    let is = looked c.self.invariant c.self.view_is c.in_ok-settle.ensures.leaves in
    let some = eqb-false (vec_len ids) 0 (sym c.if-is_empty.ensures) in
    let long : len (stored c.args.self.now) ≡ length ids.items = count_before is tells in (
      read_missing c.args.self.now.layout c.args.id (stored c.args.self.now) (λ none. some (omega (arith, ids.ok.0))) c.place_of.ensures.allowed
          (none_before c.args.id is tells c.in_default.ensures.place),
      refl,
    )

pub returns-then-out-size-clause-answer : goal.returns-then-out-size-clause-answer
returns-then-out-size-clause-answer g c tells =
    let had = record_before c.args.id c.in-Some.place (looked c.self.invariant c.self.view_is c.in_ok-settle.ensures.leaves) tells c.in-Some.ensures.place in (
      (had.0, had.1, c.from.ensures ∙ had.2),
      subst (λ (n : ℕ). length c.args.out.now < n) (sym c.from.ensures) c.if-out-size.true,
      refl,
    )

pub returns-in-Ok-clause-answer : goal.returns-in-Ok-clause-answer
returns-in-Ok-clause-answer g c tells =
    let i = c.self.inside in
    let is = looked c.self.invariant c.self.view_is c.in_ok-settle.ensures.leaves in
    let had = stored_at c.args.id c.in-Some.place is tells c.in-Some.ensures.place in
    let inside = subst (λ (v : StoreView). IsStoredAt (entry_at v.layout.slot_size v.layout.slots v.flash.told.image) v.layout.slots c.args.id c.in-Some.place had.0) (sym c.self.view_is) had.1 in
    of_old g.F.Flash.tells c.args.self.now c.settle.new.self i.found
    (λ (layout : Layout) (s : Stored). (body : List ℕ) × ((generation : ℕ) × (get s c.args.id ≡ Some (body, generation))) × (c.in-Some.place.len ≡ length body)
    × (c.read_record.new.out ≡ body ++ drop c.in-Some.place.len c.args.out.now)) is tells (
      (had.0).body,
      (c.in-Some.place.generation, (had.1).stored),
      sym (had.1).is.len,
      c.in-Ok.ensures.bytes tells
          ∙ ap (λ (xs : List ℕ). xs ++ drop c.in-Some.place.len c.args.out.now)
          (bytes_are i.geometry (g.F.Flash.state i.flash).told.image c.args.id c.in-Some.place had.0 (g.met.F.Flash.sized i.flash tells ∙ c.self.invariant.fits.size) inside.chosen.here inside.is),
    )

pub returns-in-Ok-clause-least : goal.returns-in-Ok-clause-least
returns-in-Ok-clause-least g c =
    let i = c.self.inside in
    (c.in-Some.ensures.within i.geometry.slots i.geometry.slot_size c.self.invariant.listing.index).least

pub returns-in-Ok-clause-leaves : goal.returns-in-Ok-clause-leaves
returns-in-Ok-clause-leaves g c =
    let i = c.self.inside in
    read_leaves g.F.Flash.tells i.geometry (g.F.Flash.state i.flash) (g.F.Flash.state c.read_record.new.flash) i.buffer.items _ i.in_doubt i.work c.args.self.now c.settle.new.self _ _ _ _
    c.self.view_is c.in_ok-settle.ensures.leaves c.in-Ok.ensures.stays

pub returns-in-Err-clause-leaves : goal.returns-in-Err-clause-leaves
returns-in-Err-clause-leaves g c =
    let i = c.self.inside in
    read_failed_leaves g.F.Flash.tells i.geometry (g.F.Flash.state i.flash) (g.F.Flash.state c.read_record.new.flash) i.buffer.items _ i.in_doubt i.work c.args.self.now c.settle.new.self _ _ _
    c.self.view_is c.in_ok-settle.ensures.leaves c.in-Err.ensures.stays

pub read_record-requires-clause-within : goal.read_record-requires-clause-within
read_record-requires-clause-within g c =
    let i = c.self.inside in
    c.in-Some.ensures.within i.geometry.slots i.geometry.slot_size c.self.invariant.listing.index

pub read_record-requires-clause-buffer : goal.read_record-requires-clause-buffer
read_record-requires-clause-buffer g c =
    let i = c.self.inside in
    let within = c.in-Some.ensures.within i.geometry.slots i.geometry.slot_size c.self.invariant.listing.index in
    let lent : length c.deref_mut.result.now ≡ length i.buffer.items = ap (λ (xs : List ℕ). length xs) c.deref_mut.ensures.value in
    let room : length i.buffer.items ≡ reach_of (i.geometry.slot_size - 64) = c.self.invariant.room in
    let most : c.in-Some.place.len ≤ reach_of (i.geometry.slot_size - 64) = within.most in
    omega arith

pub invariant_of-self : goal.invariant_of-self
invariant_of-self g c =
    let i = c.self.inside in
    let new = c.read_record.new.buffer in
    let long : length new ≡ length i.buffer.items = c.read_record.auto.buffer ∙ ap (λ (xs : List ℕ). length xs) c.deref_mut.ensures.value in
    subst (λ (xs : List ℕ). IsStore g.F.Flash.tells i.geometry (g.F.Flash.state c.read_record.new.flash) i.found xs i.in_doubt i.work)
    (sym (written_back i.buffer.len new i.buffer.items long i.buffer.ok.0))
    (read_store g.F.Flash.tells i.geometry (g.F.Flash.state i.flash) (g.F.Flash.state c.read_record.new.flash) i.found i.buffer.items new i.in_doubt i.in_doubt i.work c.settle.new.self
    c.self.invariant c.self.view_is c.in_ok-settle.ensures.leaves.doubt long
    c.in-Ok.ensures.stays.told c.in-Ok.ensures.stays.size c.in-Ok.ensures.stays.sector_size)

pub invariant_of-self-in-Err : goal.invariant_of-self-in-Err
invariant_of-self-in-Err g c =
    let i = c.self.inside in
    let new = c.read_record.new.buffer in
    let long : length new ≡ length i.buffer.items = c.read_record.auto.buffer ∙ ap (λ (xs : List ℕ). length xs) c.deref_mut.ensures.value in
    subst (λ (xs : List ℕ). IsStore g.F.Flash.tells i.geometry (g.F.Flash.state c.read_record.new.flash) i.found xs true i.work)
    (sym (written_back i.buffer.len new i.buffer.items long i.buffer.ok.0))
    (read_store g.F.Flash.tells i.geometry (g.F.Flash.state i.flash) (g.F.Flash.state c.read_record.new.flash) i.found i.buffer.items new i.in_doubt true i.work c.settle.new.self
    c.self.invariant c.self.view_is c.in_ok-settle.ensures.leaves.doubt long
    c.in-Err.ensures.stays.told c.in-Err.ensures.stays.size c.in-Err.ensures.stays.sector_size)

pub returns-in-Ok-clause-still : goal.returns-in-Ok-clause-still
returns-in-Ok-clause-still g c sure =
    let i = c.self.inside in
    read_still g.F.Flash.tells i.geometry (g.F.Flash.state i.flash) (g.F.Flash.state c.read_record.new.flash) i.in_doubt
    (pending_of (layout_of i.geometry) i.buffer.items i.work) c.args.self.now c.in-Some.place.len _
    (c.self.view_is ∙ c.in_ok-settle.ensures.still sure) c.in-Ok.ensures.stays

pub returns-in-Ok-clause-reads : goal.returns-in-Ok-clause-reads
returns-in-Ok-clause-reads g c =
    let i = c.self.inside in
    read_reads i.geometry (g.F.Flash.state i.flash) (g.F.Flash.state c.read_record.new.flash) i.in_doubt (pending_of (layout_of i.geometry) i.buffer.items
    i.work) c.args.self.now c.settle.new.self c.in-Some.place.len
    c.self.view_is c.in_ok-settle.ensures.leaves.equivalent.layout c.in_ok-settle.ensures.reads c.in-Ok.ensures.stays.counted
