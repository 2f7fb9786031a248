use Rattle.erst_shadow.proofs.CommandLemmas.{reads_as_map}
use Rattle.erst_shadow.proofs.laws.a_client_reads_as_the_map.Goals as goal

pub returns : goal.returns
returns g c = λ told first machine id small out after run.
    reads_as_map g.F.Flash.tells c.own_programs_run_through.ensures told id out run.budget first machine small run.answer after run.left run.last
