use Rattle.script_laws.proofs.KeptLines.{kept_lines, all_kept, crash_in_any}
use Rattle.script_laws.proofs.history.stored_blocks_stay.Goals as goal

pub returns-clause-records : goal.returns-clause-records
returns-clause-records g c = λ told lines machine uses. kept_lines g.F.Flash.tells c.own_programs_run_through.ensures told lines.wants lines.counts lines.first
    lines.played lines.last machine uses.own uses.no_other uses.own_lines lines.follows

pub returns-clause-stored : goal.returns-clause-stored
returns-clause-stored g c = λ told lines machine uses. all_kept g.F.Flash.tells c.own_programs_run_through.ensures told lines.wants lines.counts lines.first
    lines.played lines.last machine uses.own uses.no_other uses.own_lines lines.follows

pub returns-clause-in_any : goal.returns-clause-in_any
returns-clause-in_any g c = λ told lines machine own. crash_in_any g.F.Flash.tells c.own_programs_run_through.ensures told lines.wants lines.counts lines.first
    lines.played lines.last machine own lines.follows
