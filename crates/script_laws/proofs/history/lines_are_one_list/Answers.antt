use Rattle.script_laws.proofs.HistoryLemmas.{history_happens, history_is_shown}
use Rattle.script_laws.proofs.history.lines_are_one_list.Goals as goal

pub returns-clause-happened : goal.returns-clause-happened
returns-clause-happened g c = λ lines. history_happens g.F.Flash.tells lines.wants lines.counts lines.first lines.played lines.last lines.follows

pub returns-clause-shown : goal.returns-clause-shown
returns-clause-shown g c = λ told lines. history_is_shown g.F.Flash.tells told lines.wants lines.counts lines.first lines.played lines.last lines.follows
