use Rattle.port_laws.proofs.TrailLemmas.{opened_begins}
use Rattle.port_laws.proofs.durability.an_opening_begins.Goals as goal

pub returns : goal.returns
returns c = opened_begins
