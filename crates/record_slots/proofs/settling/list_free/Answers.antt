use Rattle.std.proofs.Common.{◌≡◌, ◌-◌, ◌∙◌, ℕ, Bool, false, List, get_or, not, ap, sym, refl, length, arith}
use Rattle.std.specs.List.{list_any}
use Rattle.record_slots.specs.declared.found.SlotOf.{SlotOf}
use Rattle.record_slots.specs.Listed.{takes, list_below, with_number}
use Rattle.record_slots.proofs.SettledLemmas.{list_below-none, list_below-more}
use Rattle.record_slots.proofs.settling.list_free.Goals as goal

pub loop-slot-init : goal.loop-slot-init
loop-slot-init c = record {
  ids = refl;
  places = refl;
  looks = refl;
  capacity = refl;
  few = omega (arith, ap length c.requires.free);
  free = c.requires.free ∙ sym (list_below-none (λ slot. not (list_any (λ place. takes (c.args.geometry.now.slot_size - 64) place slot) c.args.found.now.places.items)));
}

pub loop-slot-preserved : goal.loop-slot-preserved
loop-slot-preserved c =
    let test = λ (slot : ℕ). not (list_any (λ place. takes (c.args.geometry.now.slot_size - 64) place slot) c.args.found.now.places.items) in
    let marks : c.deref.result.now ≡ c.args.found.now.places.items = c.deref.ensures.value in
    record {
      ids = c.loop-slot.invariant.ids;
      places = c.loop-slot.invariant.places;
      looks = c.loop-slot.invariant.looks;
      capacity = c.list_if_free.ensures.capacity ∙ c.loop-slot.invariant.capacity;
      few = let more = c.list_if_free.ensures.few in let so_far = c.loop-slot.invariant.few in omega arith;
      free = c.list_if_free.ensures.items
          ∙ ap (λ (numbers : List ℕ). with_number (not (get_or c.mark_taken.new.marks c.loop-slot.slot false)) c.loop-slot.slot numbers) c.loop-slot.invariant.free
          ∙ ap (λ (b : Bool). with_number (not b) c.loop-slot.slot (list_below test c.loop-slot.slot)) (c.mark_taken.ensures c.loop-slot.slot false c.loop-slot-test.true)
          ∙ ap (λ (ps : List SlotOf). with_number (not (list_any (λ place. takes (c.args.geometry.now.slot_size - 64) place c.loop-slot.slot) ps))
          c.loop-slot.slot (list_below test c.loop-slot.slot)) marks
          ∙ sym (list_below-more test c.loop-slot.slot);
    }
