use Rattle.erst_commands.proofs.StartLemmas.{clear_command}
use Rattle.erst_commands.proofs.laws.a_clear_is_the_maps.Goals as goal

pub returns : goal.returns
returns g c = λ told first id small run.
    clear_command g.F.Flash.tells c.own_programs_run_through.ensures told first id small run.budget run.answer run.left run.last
