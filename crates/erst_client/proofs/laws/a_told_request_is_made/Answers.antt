use Rattle.erst_client.proofs.AskingLemmas.{asking_begins, asking_moves, asking_answers, asking_performs, asking_counts, asking_names}
use Rattle.erst_client.proofs.laws.a_told_request_is_made.Goals as goal

pub returns-clause-begins : goal.returns-clause-begins
returns-clause-begins g c entries action steps first = asking_begins g.S.Space.allows entries action steps first

pub returns-clause-moves : goal.returns-clause-moves
returns-clause-moves g c entries action steps first old at now moves so = asking_moves g.S.Space.allows entries action steps first old at now moves so

pub returns-clause-answered : goal.returns-clause-answered
returns-clause-answered g c entries action steps first at now answer last so made = asking_answers g.S.Space.allows entries action steps first at now answer last so made

pub returns-clause-performs : goal.returns-clause-performs
returns-clause-performs g c entries action steps first at now answer is so = asking_performs g.S.Space.allows entries action steps first at now answer is so

pub returns-clause-counts : goal.returns-clause-counts
returns-clause-counts g c entries steps first at now result is so = asking_counts g.S.Space.allows entries steps first at now result is so

pub returns-clause-names : goal.returns-clause-names
returns-clause-names g c entries steps first at now result is so = asking_names g.S.Space.allows entries steps first at now result is so
