use Rattle.ghes_port.proofs.BesideLemmas.{access_elsewhere}
use Rattle.ghes_port.proofs.laws.an_access_of_another_is_elsewhere.Goals as goal

pub returns : goal.returns
returns c = access_elsewhere
