use Rattle.port_laws.proofs.PortLemmas.{resets_alike}
use Rattle.port_laws.proofs.equivalence.equivalent_ports_reset_alike.Goals as goal

pub returns : goal.returns
returns c = λ one other equivalent made also_made answer also one_after other_after. resets_alike one other answer also one_after other_after equivalent made also_made
