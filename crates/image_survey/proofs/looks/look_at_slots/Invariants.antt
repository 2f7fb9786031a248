use Rattle.std.proofs.Common.{◌≡◌, length}
use Rattle.record_model.specs.Records.{slot_at}
use Rattle.record_slots.specs.Looks.{AreSeen}
use Rattle.image_survey.proofs.looks.look_at_slots.Given as goal

abbrev pub invariant-loop-slot : goal.invariant-loop-slot
invariant-loop-slot l = record {
  long : length l.looks.items ≡ l.slot;
  seen : AreSeen (slot_at l.geometry.slot_size l.image) l.slot l.looks.items;
}
