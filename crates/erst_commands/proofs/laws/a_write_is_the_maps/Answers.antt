use Rattle.erst_commands.proofs.StartLemmas.{write_command}
use Rattle.erst_commands.proofs.laws.a_write_is_the_maps.Goals as goal

pub returns : goal.returns
returns g c = λ told first id bytes holds fits run.
    write_command g.F.Flash.tells c.own_programs_run_through.ensures told first id bytes holds fits run.budget run.answer run.left run.last
