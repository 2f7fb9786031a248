use Rattle.std.proofs.Common.{sym, arith}
use Rattle.flash_model.specs.Layouts.{layout_of}
use Rattle.erst_device.proofs.TimingLemmas.{no_part, sum_fits, parts_at_most, len_is, so_far_more, few_more, all_parts}
use Rattle.erst_device.proofs.timings.most_changes.Goals as goal

pub overflow_add-parts : goal.overflow_add-parts
overflow_add-parts c = let fits = sum_fits (layout_of c.args.geometry.now) c.reach-reach.result c.room-room.result c.reach-reach.ensures c.room-room.ensures in omega arith

pub loop-part-init : goal.loop-part-init
loop-part-init c = record {
  parts = parts_at_most (layout_of c.args.geometry.now) c.reach-reach.result c.room-room.result c.reach-reach.ensures c.room-room.ensures;
  so_far = sym (no_part (layout_of c.args.geometry.now) c.reach-reach.result);
  few = omega arith;
}

pub loop-part-preserved : goal.loop-part-preserved
loop-part-preserved c =
    let is = len_is (layout_of c.args.geometry.now) c.reach-reach.result c.room-room.result c.loop-part.part c.min-len.result c.saturating_sub.result
    c.min-len.ensures c.saturating_sub.ensures c.room-room.ensures in
    record {
      parts = c.loop-part.invariant.parts;
      so_far = rw c.per_slot.ensures (so_far_more (layout_of c.args.geometry.now) c.reach-reach.result c.loop-part.part c.min-len.result c.loop-part.changes c.loop-part.invariant.so_far is);
      few = rw c.per_slot.ensures (few_more (layout_of c.args.geometry.now) c.reach-reach.result c.loop-part.part c.min-len.result c.loop-part.changes
          (let most = c.args.geometry.now.greatest_slot in omega arith) c.args.geometry.now.many_sectors is c.loop-part.invariant.few);
    }

pub returns-clause-value : goal.returns-clause-value
returns-clause-value c =
    all_parts (layout_of c.args.geometry.now) c.reach-reach.result c.room-room.result c.loop-part.part c.loop-part.changes c.reach-reach.ensures c.room-room.ensures
    (let over = c.loop-part-test.false in let within = c.loop-part.auto.part-end in omega arith) c.loop-part.invariant.so_far
