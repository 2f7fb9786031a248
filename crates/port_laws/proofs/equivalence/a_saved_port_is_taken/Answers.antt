use Rattle.port_laws.proofs.PortLemmas.{is_taken}
use Rattle.port_laws.proofs.equivalence.a_saved_port_is_taken.Goals as goal

pub returns : goal.returns
returns c = is_taken
