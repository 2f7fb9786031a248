use Rattle.erst_client.specs.declared.stages.Part.TheVariants.{Begin}
use Rattle.erst_client.proofs.BoundLemmas.{of_requesting, moves_fall, answered_falls}
use Rattle.erst_client.proofs.laws.a_told_command_ends.Goals as goal

pub returns-clause-begins : goal.returns-clause-begins
returns-clause-begins c entries command budget = of_requesting entries command Begin budget

pub returns-clause-moves : goal.returns-clause-moves
returns-clause-moves c entries command timings old at moves = moves_fall entries command timings old at moves

pub returns-clause-answered : goal.returns-clause-answered
returns-clause-answered c entries command timings at answer demand told = answered_falls entries command timings at.stage at.state at.left at.kept answer demand told
