use Rattle.erst_shadow.proofs.CommandLemmas.{writes_as_map}
use Rattle.erst_shadow.proofs.laws.a_client_writes_as_the_map.Goals as goal

pub returns : goal.returns
returns g c = λ told first machine bytes run.
    writes_as_map g.F.Flash.tells c.own_programs_run_through.ensures told bytes run.budget first run.answer run.left run.last machine
