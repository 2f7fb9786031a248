use Rattle.std.proofs.Common.{◌<◌, ap, ◌∙◌, arith}
use Rattle.record_model.specs.Records.{one_if}
use Rattle.image_survey.proofs.CountLemmas.{counted-none, counted-more, totals_are}
use Rattle.image_survey.proofs.totals.count_slots.Goals as goal

pub loop-slot-init : goal.loop-slot-init
loop-slot-init c = record {
  free = omega arith;
  records = omega arith;
  second_copies = omega arith;
  bytes = omega arith;
  counted = λ image shown. counted-none c.args.geometry.now.slot_size c.args.geometry.now.slots image;
}

pub loop-slot-preserved : goal.loop-slot-preserved
loop-slot-preserved c =
    let size = c.args.geometry.now.slot_size in
    let slots = c.args.geometry.now.slots in
    let slot = c.loop-slot.slot in
    let low : slot < slots = omega arith in
    let before = c.loop-slot.invariant in
    record {
      free = let had = before.free in let few = c.one_if-is_free.ensures.few in omega arith;
      records = let had = before.records in let few = c.one_if-is_record.ensures.few in omega arith;
      second_copies = let had = before.second_copies in let few = c.one_if-is_copy.ensures.few in omega arith;
      bytes = let had = before.bytes in let few = c.bytes_of-bytes.ensures.few in omega arith;
      counted = λ image shown.
          counted-more size slots image slot _ _ _ _ _ _ _ _ _ (shown slot _ low) (before.counted image shown)
          (c.one_if-is_free.ensures.value ∙ ap one_if c.is_free.ensures)
          (c.one_if-is_record.ensures.value ∙ ap one_if c.is_record.ensures)
          (c.one_if-is_copy.ensures.value ∙ ap one_if c.is_second_copy.ensures)
          c.bytes_of-bytes.ensures.value;
    }

pub returns : goal.returns
returns c image shown =
    totals_are c.args.geometry.now.slot_size c.args.geometry.now.slots image c.loop-slot.slot c.loop-slot.free c.loop-slot.records c.loop-slot.second_copies c.loop-slot.bytes
    (omega arith) (c.loop-slot.invariant.counted image shown)
