use Rattle.erst_interp.specs.Runs.{Walk, HasProgram}
use Rattle.erst_interp.proofs.runs.walk.Given as goal

abbrev pub invariant-instructions : goal.invariant-instructions
invariant-instructions g l = record {
  walked : Walk g.S.Space.allows l.program l.given l.fn.budget (g.S.Space.state l.fn.space) l.budget l.at (g.S.Space.state l.space);
  has : HasProgram l.program;
}

abbrev pub decreases-instructions : goal.decreases-instructions
decreases-instructions g l = l.budget
