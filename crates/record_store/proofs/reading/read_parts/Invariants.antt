use Rattle.record_store.proofs.PartLemmas.{HasReadParts}
use Rattle.record_store.proofs.reading.read_parts.Given as goal

abbrev pub invariant-loop-number : goal.invariant-loop-number
invariant-loop-number g l =
    HasReadParts g.F.Flash.tells l.geometry l.place l.number (g.F.Flash.state l.fn.flash) (g.F.Flash.state l.flash) l.buffer
