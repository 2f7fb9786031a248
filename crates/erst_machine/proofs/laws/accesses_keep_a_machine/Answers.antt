use Rattle.erst_machine.proofs.CrashTrail.{reached_is_machine}
use Rattle.erst_machine.proofs.laws.accesses_keep_a_machine.Goals as goal

pub returns : goal.returns
returns g c = reached_is_machine g.F.Flash.tells
