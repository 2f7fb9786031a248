use Rattle.port_laws.proofs.PortLemmas.{goes_on_alike}
use Rattle.port_laws.proofs.equivalence.a_loaded_port_is_equivalent.Goals as goal

pub returns : goal.returns
returns c = goes_on_alike
