use Rattle.port_laws.proofs.LifeLemmas.{loaded_begins}
use Rattle.port_laws.proofs.lives.a_loading_begins.Goals as goal

pub returns : goal.returns
returns c = loaded_begins
