use Rattle.erst_commands.proofs.OperationLemmas.{operation_through}
use Rattle.erst_commands.proofs.ThroughLemmas.{count_through, next_through, client_write_through, client_read_through}
use Rattle.erst_commands.proofs.laws.enough_steps_go_through.Goals as goal

pub returns-clause-sequence : goal.returns-clause-sequence
returns-clause-sequence g c = operation_through g.F.Flash.tells c.own_programs_run_through.ensures

pub returns-clause-count : goal.returns-clause-count
returns-clause-count g c = λ first run enough. count_through g.F.Flash.tells c.own_programs_run_through.ensures first run.budget enough run.answer run.left run.last

pub returns-clause-next : goal.returns-clause-next
returns-clause-next g c = λ first run enough. next_through g.F.Flash.tells c.own_programs_run_through.ensures first run.budget enough run.answer run.left run.last

pub returns-clause-write : goal.returns-clause-write
returns-clause-write g c = λ first machine bytes run enough. client_write_through g.F.Flash.tells c.own_programs_run_through.ensures first machine run.budget enough bytes run.answer run.left run.last

pub returns-clause-read : goal.returns-clause-read
returns-clause-read g c = λ first machine id small out after run enough.
    client_read_through g.F.Flash.tells c.own_programs_run_through.ensures first machine run.budget enough id small out run.answer after run.left run.last
