use Rattle.port_laws.proofs.DurabilityLemmas.{loss_is, loss_front, loss_medium}
use Rattle.port_laws.proofs.durability.lost_power_leaves_a_crash_image.Goals as goal

pub returns-clause-crash : goal.returns-clause-crash
returns-clause-crash c = λ origin geometry run left. loss_is origin geometry run.first run.calls run.last left run.begins run.happened

pub returns-clause-front : goal.returns-clause-front
returns-clause-front c = λ origin geometry run left. loss_front origin geometry run.first run.calls run.last left run.begins run.happened

pub returns-clause-medium : goal.returns-clause-medium
returns-clause-medium c = λ geometry run left. loss_medium geometry run.first run.calls run.last left run.begins run.happened
