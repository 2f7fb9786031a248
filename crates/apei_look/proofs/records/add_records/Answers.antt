use Rattle.apei_look.proofs.RecordTextLemmas.{next_slot}
use Rattle.apei_look.proofs.records.add_records.Goals as goal

pub loop-slot-preserved : goal.loop-slot-preserved
loop-slot-preserved c = next_slot _ _ _ _ c.loop-slot.invariant c.in_ok-add_record.ensures
