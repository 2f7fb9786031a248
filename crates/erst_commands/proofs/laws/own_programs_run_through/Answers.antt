use Rattle.erst_commands.proofs.OwnProgramLemmas.{own_programs_run}
use Rattle.erst_commands.proofs.laws.own_programs_run_through.Goals as goal

pub returns : goal.returns
returns g c = own_programs_run g.F.Flash.tells c.a_straight_program_runs_through.ensures
