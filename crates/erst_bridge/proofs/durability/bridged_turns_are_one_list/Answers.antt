use Rattle.erst_bridge.proofs.TrailLemmas.{turns_trail}
use Rattle.erst_bridge.proofs.durability.bridged_turns_are_one_list.Goals as goal

pub returns : goal.returns
returns g c = λ run. turns_trail g.F.Flash.tells run.client run.budget run.bridge run.first run.steps run.next run.last
