use Rattle.erst_commands.proofs.StartLemmas.{dummy_command}
use Rattle.erst_commands.proofs.laws.a_dummy_write_changes_nothing.Goals as goal

pub returns : goal.returns
returns g c = λ first run.
    dummy_command g.F.Flash.tells c.own_programs_run_through.ensures first run.budget run.answer run.left run.last
