use Rattle.record_store.proofs.StartLemmas.{HasMarks}
use Rattle.record_store.proofs.starting.look_at_marks.Given as goal

abbrev pub invariant-loop-at : goal.invariant-loop-at
invariant-loop-at g l = HasMarks g.F.Flash.tells l.geometry.slot_size l.at (g.F.Flash.state l.fn.flash) (g.F.Flash.state l.flash) l.slots l.marked
