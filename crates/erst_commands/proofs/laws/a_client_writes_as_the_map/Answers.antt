use Rattle.erst_commands.proofs.WriteLemmas.{written}
use Rattle.erst_commands.proofs.laws.a_client_writes_as_the_map.Goals as goal

pub returns : goal.returns
returns g c = λ told first machine bytes run.
    written g.F.Flash.tells c.own_programs_run_through.ensures told bytes run.budget first run.answer run.left run.last machine
