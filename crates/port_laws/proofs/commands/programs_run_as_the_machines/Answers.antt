use Rattle.port_laws.proofs.ProgramLemmas.{performed}
use Rattle.port_laws.proofs.CommandLemmas.{sequence_own}
use Rattle.port_laws.proofs.commands.programs_run_as_the_machines.Goals as goal

pub returns-clause-program : goal.returns-clause-program
returns-clause-program c = λ addresses action shared given first run. performed addresses action shared given run.budget first run.answer run.left run.last

pub returns-clause-sequence : goal.returns-clause-sequence
returns-clause-sequence c = λ addresses timings requests are first run. sequence_own addresses timings requests are run.budget first run.answer run.left run.last
