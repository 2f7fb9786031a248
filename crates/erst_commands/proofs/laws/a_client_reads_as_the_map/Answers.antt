use Rattle.erst_commands.proofs.CopyLemmas.{read_out}
use Rattle.erst_commands.proofs.LimitLemmas.{reach-least}
use Rattle.erst_commands.proofs.laws.a_client_reads_as_the_map.Goals as goal

pub returns : goal.returns
returns g c = λ told first machine id small out after run.
    read_out g.F.Flash.tells c.own_programs_run_through.ensures told id out run.budget first run.answer after run.left run.last machine small
    (reach-least first.device.store.layout)
