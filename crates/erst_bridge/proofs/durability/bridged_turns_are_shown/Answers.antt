use Rattle.erst_bridge.proofs.ShownLemmas.{turns_show}
use Rattle.erst_bridge.proofs.durability.bridged_turns_are_shown.Goals as goal

pub returns : goal.returns
returns g c = λ told run by.
    turns_show g.F.Flash.tells run.client run.budget c.own_programs_run_through.ensures told run.bridge run.first run.steps run.next run.last by.own by.machine
