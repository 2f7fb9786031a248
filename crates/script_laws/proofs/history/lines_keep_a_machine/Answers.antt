use Rattle.script_laws.proofs.HistoryLemmas.{history_keeps, history_divides, history_own}
use Rattle.script_laws.proofs.history.lines_keep_a_machine.Goals as goal

pub returns-clause-machine : goal.returns-clause-machine
returns-clause-machine g c = λ lines. history_keeps g.F.Flash.tells lines.wants lines.counts lines.first lines.played lines.last lines.follows

pub returns-clause-layout : goal.returns-clause-layout
returns-clause-layout g c = λ lines. history_divides g.F.Flash.tells lines.wants lines.counts lines.first lines.played lines.last lines.follows

pub returns-clause-own : goal.returns-clause-own
returns-clause-own g c = λ lines. (history_own g.F.Flash.tells lines.wants lines.counts lines.first lines.played lines.last lines.follows).0

pub returns-clause-steps : goal.returns-clause-steps
returns-clause-steps g c = λ lines. (history_own g.F.Flash.tells lines.wants lines.counts lines.first lines.played lines.last lines.follows).1
