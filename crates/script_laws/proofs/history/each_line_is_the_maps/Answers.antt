use Rattle.script_laws.proofs.HistoryLemmas.{history_is_mapped, history_says_no_hardware, history_goes_through, history_uses_either}
use Rattle.script_laws.proofs.history.each_line_is_the_maps.Goals as goal

pub returns-clause-mapped : goal.returns-clause-mapped
returns-clause-mapped g c = λ told lines. history_is_mapped g.F.Flash.tells told lines.wants lines.counts lines.first lines.played lines.last lines.follows

pub returns-clause-no_fault : goal.returns-clause-no_fault
returns-clause-no_fault g c = λ lines. history_says_no_hardware g.F.Flash.tells lines.wants lines.counts lines.first lines.played lines.last lines.follows

pub returns-clause-enough : goal.returns-clause-enough
returns-clause-enough g c = λ lines. history_goes_through g.F.Flash.tells lines.wants lines.counts lines.first lines.played lines.last lines.follows

pub returns-clause-either : goal.returns-clause-either
returns-clause-either g c = λ lines uses. history_uses_either g.F.Flash.tells lines.wants lines.counts lines.first lines.played lines.last uses.own uses.no_other uses.own_lines lines.follows
