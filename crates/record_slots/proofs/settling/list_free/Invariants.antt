use Rattle.record_slots.proofs.Passes.{HasFreed}
use Rattle.record_slots.proofs.settling.list_free.Given as goal

abbrev pub invariant-loop-slot : goal.invariant-loop-slot
invariant-loop-slot l = HasFreed l.geometry.slot_size l.slot l.fn.found l.found
