use Rattle.script_laws.proofs.KeptCauses.{all_causes}
use Rattle.script_laws.proofs.history.kept_blocks_have_causes.Goals as goal

pub returns : goal.returns
returns g c = λ lines machine own. all_causes g.F.Flash.tells c.own_programs_run_through.ensures lines.wants lines.counts lines.first lines.played lines.last machine own lines.follows
