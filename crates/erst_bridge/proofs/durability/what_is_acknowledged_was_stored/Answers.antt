use Rattle.erst_bridge.proofs.MachinesInStepLemmas.{turns_in_step}
use Rattle.erst_bridge.proofs.SumLemmas.{turns_balance}
use Rattle.erst_bridge.proofs.durability.what_is_acknowledged_was_stored.Goals as goal

pub returns-clause-order : goal.returns-clause-order
returns-clause-order g c = λ run are m. turns_in_step g.F.Flash.tells run.client run.budget run.bridge run.first run.steps run.next run.last m are

pub returns-clause-sums : goal.returns-clause-sums
returns-clause-sums g c = λ run are. turns_balance g.F.Flash.tells run.client run.budget run.bridge run.first run.steps run.next run.last are
