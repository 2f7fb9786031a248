use Rattle.erst_commands.proofs.CauseLemmas.{count_cause, next_cause}
use Rattle.erst_shadow.proofs.CauseLemmas.{client_write_cause, client_read_cause}
use Rattle.erst_shadow.proofs.OperationLemmas.{operation_cause}
use Rattle.erst_shadow.proofs.ProgramLemmas.{own_count, own_next}
use Rattle.erst_shadow.proofs.laws.hardware_has_its_cause.Goals as goal

pub returns-clause-sequence : goal.returns-clause-sequence
returns-clause-sequence g c = operation_cause g.F.Flash.tells c.own_programs_run_through.ensures

pub returns-clause-count : goal.returns-clause-count
returns-clause-count g c = λ pieces first run counts.
    count_cause g.F.Flash.tells c.own_programs_run_through.ensures run.budget first run.answer run.left run.last
    (own_count g.F.Flash.tells pieces run.budget first run.answer run.left run.last counts)

pub returns-clause-next : goal.returns-clause-next
returns-clause-next g c = λ pieces first run names.
    next_cause g.F.Flash.tells c.own_programs_run_through.ensures run.budget first run.answer run.left run.last
    (own_next g.F.Flash.tells pieces run.budget first run.answer run.left run.last names)

pub returns-clause-write : goal.returns-clause-write
returns-clause-write g c = λ first machine bytes run. client_write_cause g.F.Flash.tells c.own_programs_run_through.ensures first machine bytes run.budget run.answer run.left run.last

pub returns-clause-read : goal.returns-clause-read
returns-clause-read g c = λ first machine id out after run. client_read_cause g.F.Flash.tells c.own_programs_run_through.ensures first machine id out run.budget run.answer after run.left run.last
