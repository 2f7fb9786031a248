use Rattle.ghes_port.proofs.RunLemmas.{seen}
use Rattle.ghes_port.proofs.laws.an_acknowledgement_is_seen.Goals as goal

pub returns : goal.returns
returns c = seen
