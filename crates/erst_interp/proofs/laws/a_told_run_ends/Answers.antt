use Rattle.erst_interp.proofs.BoundLemmas.{bound_first, bound_comes, bound_falls}
use Rattle.erst_interp.proofs.laws.a_told_run_ends.Goals as goal

pub returns-clause-begins : goal.returns-clause-begins
returns-clause-begins c program budget = bound_first program budget

pub returns-clause-comes : goal.returns-clause-comes
returns-clause-comes c program given old before state left came = bound_comes program given old before state left came

pub returns-clause-answered : goal.returns-clause-answered
returns-clause-answered c task awaited left answer = bound_falls task awaited left answer
