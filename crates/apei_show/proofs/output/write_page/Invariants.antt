use Rattle.std.proofs.Common.{◌≡◌, List, ◌++◌, ℕ, length}
use Rattle.std.specs.Io.KnownBytes.{Appends}
use Rattle.apei_show.proofs.output.write_page.Given as goal

-- a part of the page was written, and the rest is left
abbrev pub invariant-loop-rest : goal.invariant-loop-rest
invariant-loop-rest g l = (part : List ℕ) × Appends (g.W.Write.contents l.initial.writer) (g.W.Write.contents l.writer) part × (l.page ≡ part ++ l.rest)

abbrev pub decreases-loop-rest : goal.decreases-loop-rest
decreases-loop-rest g l = length l.rest
