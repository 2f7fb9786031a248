use Rattle.std.specs.Prelude.{vec_capacity}
use Rattle.record_slots.proofs.Passes.{HasLooked}
use Rattle.record_slots.proofs.looking.look_at_slots.Given as goal

abbrev pub invariant-loop-slot : goal.invariant-loop-slot
invariant-loop-slot g l =
    HasLooked g.F.Flash.tells l.geometry.slot_size l.slot (vec_capacity l.fn.looks) (vec_capacity l.looks) l.looks.items (g.F.Flash.state l.fn.flash) (g.F.Flash.state l.flash)
