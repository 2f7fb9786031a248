use Rattle.std.proofs.Common.{◌-◌, take}
use Rattle.std.specs.List.{list_any}
use Rattle.record_slots.specs.Listed.{takes}
use Rattle.record_slots.specs.Looks.{AreMarked}
use Rattle.record_slots.proofs.marking.mark_taken.Given as goal

abbrev pub invariant-loop-place : goal.invariant-loop-place
invariant-loop-place l = AreMarked l.geometry.slots (λ slot. list_any (λ place. takes (l.geometry.slot_size - 64) place slot) (take l.place-index l.places)) l.marks
