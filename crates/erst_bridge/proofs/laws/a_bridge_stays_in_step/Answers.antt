use Rattle.erst_bridge.proofs.InStepLemmas.{stays, order}
use Rattle.erst_bridge.proofs.laws.a_bridge_stays_in_step.Goals as goal

pub returns-clause-order : goal.returns-clause-order
returns-clause-order c = order

pub returns-clause-stays : goal.returns-clause-stays
returns-clause-stays c = stays
