use Rattle.std.proofs.Common.{◌-◌, ◌<◌, true, false, sym, ◌∙◌, arith}
use Rattle.record_model.specs.Records.{entry_of}
use Rattle.record_slots.specs.Listed.{first_records}
use Rattle.image_survey.proofs.SlotLemmas.{taken_none, taken_more, taken_here, first_holds, later_holds}
use Rattle.image_survey.proofs.further.is_taken.Goals as goal
use Rattle.image_survey.proofs.further.is_taken.Goals.{else-firsts-first-via-then-firsts-first+else-has_slot, else-firsts-first-via-else-firsts-first}

pub loop-first-init : goal.loop-first-init
loop-first-init c seen all marked =
    taken_none (first_records (entry_of (c.args.geometry.now.slot_size - 64) c.args.geometry.now.slots seen) c.args.geometry.now.slots) c.args.slot

pub returns-then-has_slot : goal.returns-then-has_slot
returns-then-has_slot c seen all marked =
    let first = c.loop-first.first in
    let low : first < c.args.geometry.now.slots = omega arith in
    sym (taken_here _ first _ c.args.slot low
    (first_holds _ _ seen first c.args.slot _ true low (sym (marked first _ low) ∙ c.if-firsts-first.true) (all first _ low).head c.if-has_slot.ensures))

pub loop-first-preserved : goal.loop-first-preserved
loop-first-preserved c seen all marked =
    let room = c.args.geometry.now.slot_size - 64 in
    let slots = c.args.geometry.now.slots in
    let first = c.loop-first.first in
    let low : first < slots = omega arith in
    elim c.else-firsts-first.branch [
      | else-firsts-first-via-then-firsts-first+else-has_slot w ↦
          taken_more (first_records (entry_of room slots seen) slots) first c.args.slot (c.loop-first.invariant seen all marked)
          (first_holds room slots seen first c.args.slot _ false low (sym (marked first _ low) ∙ w.if-firsts-first.true) (all first _ low).head w.if-has_slot.ensures)
      | else-firsts-first-via-else-firsts-first w ↦
          taken_more (first_records (entry_of room slots seen) slots) first c.args.slot (c.loop-first.invariant seen all marked)
          (later_holds (entry_of room slots seen) slots first c.args.slot (sym (marked first _ low) ∙ w.if-firsts-first.false))
    ]
