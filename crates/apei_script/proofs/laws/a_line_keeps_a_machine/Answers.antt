use Rattle.apei_script.proofs.LineLemmas.{line_keeps, line_divides, line_own}
use Rattle.apei_script.proofs.laws.a_line_keeps_a_machine.Goals as goal

pub returns-clause-machine : goal.returns-clause-machine
returns-clause-machine g c = λ counts old played. line_keeps g.F.Flash.tells counts old played.line played.said played.blocks played.steps played.left

pub returns-clause-layout : goal.returns-clause-layout
returns-clause-layout g c = λ counts old played. line_divides g.F.Flash.tells counts old played.line played.said played.blocks played.steps played.left

pub returns-clause-own : goal.returns-clause-own
returns-clause-own g c = λ counts old played plays. (line_own g.F.Flash.tells counts old played.line played.said played.blocks played.steps played.left plays).0

pub returns-clause-steps : goal.returns-clause-steps
returns-clause-steps g c = λ counts old played plays. (line_own g.F.Flash.tells counts old played.line played.said played.blocks played.steps played.left plays).1
