use Rattle.ghes_hub.proofs.OpenLemmas.{from_opening}
use Rattle.ghes_hub.proofs.laws.a_hub_from_its_opening.Goals as goal

pub returns : goal.returns
returns g c = from_opening g.L.Listener.hearing
