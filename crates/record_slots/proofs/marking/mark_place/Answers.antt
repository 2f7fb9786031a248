use Rattle.std.proofs.Common.{◌≡◌, ◌<◌, ◌≤◌, ◌-◌, ℕ, ◌∷◌, length, take, get_or, ap, ◌∙◌, arith}
use Rattle.std.specs.Prelude.{◌==◌, ◌||◌}
use Rattle.std.specs.List.{list_any}
use Rattle.record_model.specs.Records.{parts_of}
use Rattle.record_slots.proofs.LookLemmas.{place_parts}
use Rattle.record_slots.proofs.Marks.{mark_first, mark_again}
use Rattle.record_slots.proofs.marking.mark_place.Goals as goal

pub overflow_sub-at-end : goal.overflow_sub-at-end
overflow_sub-at-end c =
    let some = (place_parts c.args.geometry.now c.args.place.now c.requires.within).0 in omega (arith, c.parts_of-at-end.ensures)

pub bounds-place-at : goal.bounds-place-at
bounds-place-at c =
    let few = (place_parts c.args.geometry.now c.args.place.now c.requires.within).1 in omega (arith, c.parts_of-at-end.ensures)

pub loop-at-init : goal.loop-at-init
loop-at-init c k d h =
    let low = c.requires.within.slot in
    let many : c.args.geometry.now.slots ≤ 1024 = c.args.geometry.now.many_slots in
    let long : length c.args.marks.now ≡ 1024 = omega arith in
    mark_first c.args.marks.now c.args.place.now.slot c.args.place.now.next k d (omega arith)

pub loop-at-preserved : goal.loop-at-preserved
loop-at-preserved c k d h =
    let few = (place_parts c.args.geometry.now c.args.place.now c.requires.within).1 in
    let many : c.args.geometry.now.slots ≤ 1024 = c.args.geometry.now.many_slots in
    let three : length c.args.place.now.next ≡ 3 = omega arith in
    let long : length c.loop-at.marks ≡ 1024 = omega arith in
    let low : get_or c.args.place.now.next c.loop-at.at 0 < c.args.geometry.now.slots = c.requires.within.below c.loop-at.at (omega (arith, c.parts_of-at-end.ensures)) in
    mark_again c.loop-at.marks c.args.marks.now c.args.place.now.slot c.args.place.now.next c.loop-at.at k d (omega (arith, c.parts_of-at-end.ensures)) (omega arith) (c.loop-at.invariant k d h)

pub returns : goal.returns
returns c k d h =
    let some = (place_parts c.args.geometry.now c.args.place.now c.requires.within).0 in
    let all : c.loop-at.at ≡ parts_of (c.args.geometry.now.slot_size - 64) c.args.place.now.len - 1 = omega (arith, c.parts_of-at-end.ensures) in
    c.loop-at.invariant k d h ∙ ap (λ (m : ℕ). get_or c.args.marks.now k d || list_any (λ n. k == n) (c.args.place.now.slot ∷ take m c.args.place.now.next)) all
