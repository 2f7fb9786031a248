use Rattle.erst_client.proofs.PositionLemmas.{at_first, at_moves, in_answered, at_result}
use Rattle.erst_client.proofs.laws.a_told_command_is_a_sequence.Goals as goal

pub returns-clause-begins : goal.returns-clause-begins
returns-clause-begins g c entries command timings budget first = at_first g.S.Space.allows entries command timings budget first

pub returns-clause-moves : goal.returns-clause-moves
returns-clause-moves g c entries command timings budget first old at now moves so = at_moves g.S.Space.allows entries command timings budget first old at now moves so

pub returns-clause-answered : goal.returns-clause-answered
returns-clause-answered g c entries command timings budget first at now answer last so made =
    in_answered g.S.Space.allows entries command timings budget first at.stage at.state at.left at.kept now answer last so made

pub returns-clause-ends : goal.returns-clause-ends
returns-clause-ends g c entries command timings budget first at now result is so = at_result g.S.Space.allows entries command timings budget first at now result is so
