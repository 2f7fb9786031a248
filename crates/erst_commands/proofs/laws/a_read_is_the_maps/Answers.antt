use Rattle.erst_commands.proofs.ReadLemmas.{read_command}
use Rattle.erst_commands.proofs.laws.a_read_is_the_maps.Goals as goal

pub returns : goal.returns
returns g c = λ told first machine id small timings run.
    read_command g.F.Flash.tells c.own_programs_run_through.ensures told first machine id small timings run.budget run.answer run.left run.last
