use Rattle.erst_bridge.proofs.PrefixLemmas.{turns_show_prefix}
use Rattle.erst_bridge.proofs.durability.bridged_turns_show_a_prefix.Goals as goal

pub returns : goal.returns
returns g c = λ told run by are m.
    turns_show_prefix g.F.Flash.tells c.own_programs_run_through.ensures told run.client run.budget run.bridge run.first run.steps run.next run.last m by.own by.machine are
