use Rattle.erst_commands.proofs.LookLemmas.{count_command}
use Rattle.erst_shadow.proofs.ProgramLemmas.{own_count}
use Rattle.erst_shadow.proofs.laws.a_count_is_the_maps.Goals as goal

pub returns : goal.returns
returns g c = λ told pieces first run counts.
    count_command g.F.Flash.tells c.own_programs_run_through.ensures told run.budget first run.answer run.left run.last
    (own_count g.F.Flash.tells pieces run.budget first run.answer run.left run.last counts)
