use Rattle.std.proofs.Common.{take}
use Rattle.std.specs.Prelude.{◌==◌}
use Rattle.std.specs.List.{list_any}
use Rattle.record_slots.proofs.Passes.{HasMarked}
use Rattle.record_slots.proofs.marking.mark_firsts.Given as goal

abbrev pub invariant-loop-place : goal.invariant-loop-place
invariant-loop-place l = HasMarked l.geometry.slots (λ slot. list_any (λ place. place.slot == slot) (take l.place-index l.places)) l.marks
