use Rattle.erst_interp.proofs.ToldLemmas.{stands_first, stands_comes, stands_answered}
use Rattle.erst_interp.proofs.laws.a_told_run_is_a_run.Goals as goal

pub returns-clause-begins : goal.returns-clause-begins
returns-clause-begins g c program given budget first = stands_first g.S.Space.allows program given budget first

pub returns-clause-comes : goal.returns-clause-comes
returns-clause-comes g c program given budget first now old before state left came so = stands_comes g.S.Space.allows program given budget first now old before state left came so

pub returns-clause-answered : goal.returns-clause-answered
returns-clause-answered g c program given budget first task awaited left now answer last so h = stands_answered g.S.Space.allows program given budget first task awaited left now answer last so h
