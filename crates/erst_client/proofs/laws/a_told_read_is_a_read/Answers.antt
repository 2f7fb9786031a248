use Rattle.erst_client.proofs.ReadingLemmas.{read_begins, read_moves, read_answers, read_ends}
use Rattle.erst_client.proofs.laws.a_told_read_is_a_read.Goals as goal

pub returns-clause-begins : goal.returns-clause-begins
returns-clause-begins g c client id out steps first = read_begins g.S.Space.allows client id out steps first

pub returns-clause-moves : goal.returns-clause-moves
returns-clause-moves g c client id out steps first old at held now moves so = read_moves g.S.Space.allows client id out steps first old at held now moves so

pub returns-clause-answered : goal.returns-clause-answered
returns-clause-answered g c client id out steps first at held now answer after last so made = read_answers g.S.Space.allows client id out steps first at held now answer after last so made

pub returns-clause-ends : goal.returns-clause-ends
returns-clause-ends g c client id out steps first at held now result is so = read_ends g.S.Space.allows client id out steps first at held now result is so
