use Rattle.record_slots.proofs.Passes.{HasSettled}
use Rattle.record_slots.proofs.settling.settle_slots.Given as goal

abbrev pub invariant-loop-slot : goal.invariant-loop-slot
invariant-loop-slot g l =
    HasSettled g.F.Flash.tells l.geometry.slots l.geometry.slot_size l.slot l.found (g.F.Flash.state l.fn.flash) (g.F.Flash.state l.flash)
