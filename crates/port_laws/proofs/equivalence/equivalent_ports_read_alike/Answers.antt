use Rattle.port_laws.proofs.PortLemmas.{reads_alike, gets_alike}
use Rattle.port_laws.proofs.equivalence.equivalent_ports_read_alike.Goals as goal

pub returns-clause-numbers : goal.returns-clause-numbers
returns-clause-numbers c = reads_alike

pub returns-clause-bytes : goal.returns-clause-bytes
returns-clause-bytes c = gets_alike
