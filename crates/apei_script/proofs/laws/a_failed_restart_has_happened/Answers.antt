use Rattle.apei_script.proofs.LineLemmas.{failed_restart}
use Rattle.apei_script.proofs.laws.a_failed_restart_has_happened.Goals as goal

pub returns : goal.returns
returns g c = failed_restart g.F.Flash.tells
