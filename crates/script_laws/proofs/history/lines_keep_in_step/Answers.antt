use Rattle.script_laws.proofs.OrderLemmas.{line_order, history_order}
use Rattle.script_laws.proofs.GivenBack.{history_gives_back}
use Rattle.script_laws.proofs.history.lines_keep_in_step.Goals as goal

pub returns-clause-line : goal.returns-clause-line
returns-clause-line g c = λ counts old played. line_order g.F.Flash.tells counts old played.line played.said played.blocks played.steps played.left

pub returns-clause-lines : goal.returns-clause-lines
returns-clause-lines g c = λ lines machine. history_order g.F.Flash.tells lines.wants lines.counts lines.first lines.played lines.last machine lines.follows

pub returns-clause-given_back : goal.returns-clause-given_back
returns-clause-given_back g c = λ lines machine. history_gives_back g.F.Flash.tells lines.wants lines.counts lines.first lines.played lines.last machine lines.follows
