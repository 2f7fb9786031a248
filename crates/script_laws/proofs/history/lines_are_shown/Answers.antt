use Rattle.script_laws.proofs.HistoryLemmas.{history_ends_later, history_in_order, history_shows}
use Rattle.script_laws.proofs.history.lines_are_shown.Goals as goal

pub returns-clause-ends : goal.returns-clause-ends
returns-clause-ends g c = λ told lines. history_ends_later g.F.Flash.tells told lines.wants lines.counts lines.first lines.played lines.last lines.follows

pub returns-clause-in_order : goal.returns-clause-in_order
returns-clause-in_order g c = λ told lines. history_in_order g.F.Flash.tells told lines.wants lines.counts lines.first lines.played lines.last lines.follows

pub returns-clause-crash : goal.returns-clause-crash
returns-clause-crash g c = λ told lines uses. history_shows g.F.Flash.tells told lines.wants lines.counts lines.first lines.played lines.last uses.own uses.no_other uses.own_lines lines.follows
