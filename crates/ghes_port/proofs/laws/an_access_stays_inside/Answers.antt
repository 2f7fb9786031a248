use Rattle.ghes_port.proofs.BesideLemmas.{stays_inside}
use Rattle.ghes_port.proofs.laws.an_access_stays_inside.Goals as goal

pub returns : goal.returns
returns c = stays_inside
