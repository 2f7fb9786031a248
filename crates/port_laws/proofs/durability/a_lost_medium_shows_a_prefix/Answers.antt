use Rattle.port_laws.proofs.DurabilityLemmas.{loss_shows, loss_found, loss_first}
use Rattle.port_laws.proofs.durability.a_lost_medium_shows_a_prefix.Goals as goal

pub returns-clause-shown : goal.returns-clause-shown
returns-clause-shown c = λ origin geometry run left. loss_shows origin geometry run.first run.calls run.last left run.begins run.happened

pub returns-clause-found : goal.returns-clause-found
returns-clause-found c = λ origin geometry run next. loss_found origin geometry run.first run.calls run.last next run.begins run.happened

pub returns-clause-commands : goal.returns-clause-commands
returns-clause-commands c = λ origin geometry run next. loss_first origin geometry run.first run.calls run.last next run.begins run.happened
