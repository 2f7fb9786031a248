use Rattle.std.proofs.Common.{◌≤◌, ◌-◌, false, [], arith}
use Rattle.std.proofs.lemmas.List.{get_or-replicate}
use Rattle.record_slots.specs.declared.found.SlotOf.{SlotOf}
use Rattle.record_slots.specs.Listed.{takes}
use Rattle.record_slots.proofs.Marks.{marked_more}
use Rattle.record_slots.proofs.marking.mark_taken.Goals as goal

pub loop-place-init : goal.loop-place-init
loop-place-init c k d h =
    let many : c.args.geometry.now.slots ≤ 1024 = c.args.geometry.now.many_slots in
    rw c.requires.none (get_or-replicate 1024 k false d (omega arith))

pub loop-place-preserved : goal.loop-place-preserved
loop-place-preserved c =
    let n : SlotOf = record { slot = 0; generation = 0; len = 0; next = [] } in
    marked_more c.args.geometry.now.slots c.loop-place.place-index (λ p k. takes (c.args.geometry.now.slot_size - 64) p k) c.args.places.now n c.loop-place.marks _
    c.loop-place-test.true c.loop-place.invariant c.mark_place.ensures
