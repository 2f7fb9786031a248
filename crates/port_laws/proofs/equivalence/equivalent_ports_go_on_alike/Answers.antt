use Rattle.port_laws.proofs.GoingOnLemmas.{go_on_alike}
use Rattle.port_laws.proofs.equivalence.equivalent_ports_go_on_alike.Goals as goal

pub returns : goal.returns
returns c = go_on_alike
