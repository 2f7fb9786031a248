use Rattle.apei_look.proofs.ObjectLemmas.{next_object}
use Rattle.apei_look.proofs.json_records.add_records.Goals as goal

pub loop-slot-preserved : goal.loop-slot-preserved
loop-slot-preserved c =
    next_object _ _ _ _ _ _ c.loop-slot.invariant c.in_ok-is_first.ensures.object c.in_ok-is_first.ensures.next
