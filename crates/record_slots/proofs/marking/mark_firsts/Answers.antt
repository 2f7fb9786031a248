use Rattle.std.proofs.Common.{◌≡◌, ◌<◌, ◌≤◌, true, false, [], length, get_or, sym, ◌∙◌, arith}
use Rattle.std.specs.Prelude.{◌==◌}
use Rattle.std.proofs.lemmas.Bool.{eq-eqb, ne_eqb}
use Rattle.std.proofs.lemmas.List.{get_or-replicate, length-replicate}
use Rattle.std.proofs.Math.ListN.{length-set}
use Rattle.record_slots.specs.declared.found.SlotOf.{SlotOf}
use Rattle.record_slots.proofs.Marks.{marked_more, mark_or}
use Rattle.record_slots.proofs.marking.mark_firsts.Goals as goal

pub loop-place-init : goal.loop-place-init
loop-place-init c =
    let many : c.args.geometry.now.slots ≤ 1024 = c.args.geometry.now.many_slots in
    record { long = length-replicate 1024 false; marked = λ k d h. get_or-replicate 1024 k false d (omega arith) }

pub loop-place-preserved : goal.loop-place-preserved
loop-place-preserved c =
    let n : SlotOf = record { slot = 0; generation = 0; len = 0; next = [] } in
    let i = c.loop-place.place-index in
    let place = get_or c.args.places.now i n in
    let low : place.slot < c.args.geometry.now.slots = (c.requires.within i n c.loop-place-test.true).slot in
    let long : length c.loop-place.marks ≡ 1024 = c.loop-place.invariant.long in
    record {
      long = length-set c.loop-place.marks place.slot true ∙ long;
      marked =
          marked_more c.args.geometry.now.slots i (λ p k. p.slot == k) c.args.places.now n c.loop-place.marks _ c.loop-place-test.true c.loop-place.invariant.marked
          (λ k d h. mark_or c.loop-place.marks place.slot k d (place.slot == k) (omega arith) (λ here. eq-eqb place.slot k (sym here)) (λ apart. ne_eqb place.slot k (λ here. apart (sym here))));
    }
