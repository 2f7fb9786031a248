use Rattle.erst_commands.proofs.CauseLemmas.{count_cause, next_cause}
use Rattle.erst_commands.proofs.CallCauses.{client_write_cause, client_read_cause}
use Rattle.erst_commands.proofs.OperationLemmas.{operation_cause}
use Rattle.erst_commands.proofs.laws.hardware_has_its_cause.Goals as goal

pub returns-clause-sequence : goal.returns-clause-sequence
returns-clause-sequence g c = operation_cause g.F.Flash.tells c.own_programs_run_through.ensures

pub returns-clause-count : goal.returns-clause-count
returns-clause-count g c = λ first run. count_cause g.F.Flash.tells c.own_programs_run_through.ensures run.budget first run.answer run.left run.last

pub returns-clause-next : goal.returns-clause-next
returns-clause-next g c = λ first run. next_cause g.F.Flash.tells c.own_programs_run_through.ensures run.budget first run.answer run.left run.last

pub returns-clause-write : goal.returns-clause-write
returns-clause-write g c = λ first bytes run. client_write_cause g.F.Flash.tells c.own_programs_run_through.ensures bytes run.budget first run.answer run.left run.last

pub returns-clause-read : goal.returns-clause-read
returns-clause-read g c = λ first id out after run. client_read_cause g.F.Flash.tells c.own_programs_run_through.ensures id out run.budget first run.answer after run.left run.last
