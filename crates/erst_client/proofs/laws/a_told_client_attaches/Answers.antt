use Rattle.erst_client.proofs.FindingLemmas.{finding_begins, finding_moves, finding_answers, finding_ends}
use Rattle.erst_client.proofs.laws.a_told_client_attaches.Goals as goal

pub returns-clause-begins : goal.returns-clause-begins
returns-clause-begins g c erst steps first = finding_begins g.S.Space.allows erst steps first

pub returns-clause-moves : goal.returns-clause-moves
returns-clause-moves g c erst steps first old at now moves so = finding_moves g.S.Space.allows erst steps first old at now moves so

pub returns-clause-answered : goal.returns-clause-answered
returns-clause-answered g c erst steps first at now answer last so made = finding_answers g.S.Space.allows erst steps first at now answer last so made

pub returns-clause-ends : goal.returns-clause-ends
returns-clause-ends g c erst steps first at now result is so = finding_ends g.S.Space.allows erst steps first at now result is so
