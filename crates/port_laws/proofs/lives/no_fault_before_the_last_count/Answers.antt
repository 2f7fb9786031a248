use Rattle.port_laws.proofs.FaultLemmas.{no_fault}
use Rattle.port_laws.proofs.lives.no_fault_before_the_last_count.Goals as goal

pub returns : goal.returns
returns c = no_fault
