use Rattle.port_laws.proofs.DurabilityLemmas.{keeps_step, holds_all, keeps_front}
use Rattle.port_laws.proofs.durability.a_medium_keeps_step.Goals as goal

pub returns-clause-step : goal.returns-clause-step
returns-clause-step c = λ origin geometry run. keeps_step origin geometry run.first run.calls run.last run.begins run.happened

pub returns-clause-all : goal.returns-clause-all
returns-clause-all c = λ origin geometry run. holds_all origin geometry run.first run.calls run.last run.begins run.happened

pub returns-clause-front : goal.returns-clause-front
returns-clause-front c = λ origin geometry run. keeps_front origin geometry run.first run.calls run.last run.begins run.happened
