use Rattle.erst_client.proofs.WritingLemmas.{write_begins, write_moves, write_answers, write_ends}
use Rattle.erst_client.proofs.laws.a_told_write_is_a_write.Goals as goal

pub returns-clause-begins : goal.returns-clause-begins
returns-clause-begins g c erst found bytes steps first = write_begins g.S.Space.allows erst found bytes steps first

pub returns-clause-moves : goal.returns-clause-moves
returns-clause-moves g c client bytes steps first old at now moves so = write_moves g.S.Space.allows client bytes steps first old at now moves so

pub returns-clause-answered : goal.returns-clause-answered
returns-clause-answered g c client bytes steps first at now answer last so made = write_answers g.S.Space.allows client bytes steps first at now answer last so made

pub returns-clause-ends : goal.returns-clause-ends
returns-clause-ends g c client bytes steps first at now result is so = write_ends g.S.Space.allows client bytes steps first at now result is so
