use Rattle.erst_commands.proofs.LookLemmas.{count_command}
use Rattle.erst_commands.proofs.laws.a_count_is_the_maps.Goals as goal

pub returns : goal.returns
returns g c = λ told first run.
    count_command g.F.Flash.tells c.own_programs_run_through.ensures told run.budget first run.answer run.left run.last
