use Rattle.erst_machine.proofs.FaultLemmas.{reached_low}
use Rattle.erst_machine.proofs.laws.accesses_never_lower_the_faults.Goals as goal

pub returns : goal.returns
returns g c = reached_low g.F.Flash.tells
