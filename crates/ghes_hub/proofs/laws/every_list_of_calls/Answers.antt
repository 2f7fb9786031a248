use Rattle.ghes_hub.proofs.HubLemmas.{serves, stays}
use Rattle.ghes_hub.proofs.laws.every_list_of_calls.Goals as goal

pub returns-clause-serves : goal.returns-clause-serves
returns-clause-serves g c = serves g.L.Listener.hearing

pub returns-clause-layouts : goal.returns-clause-layouts
returns-clause-layouts g c = stays g.L.Listener.hearing
