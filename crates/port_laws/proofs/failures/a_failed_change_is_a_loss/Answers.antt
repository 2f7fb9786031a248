use Rattle.port_laws.proofs.FailureLemmas.{loss_begins, failure_shows, failure_shows_first}
use Rattle.port_laws.proofs.failures.a_failed_change_is_a_loss.Goals as goal

pub returns-clause-begins : goal.returns-clause-begins
returns-clause-begins c = λ origin geometry run next. loss_begins origin geometry run.first run.calls run.last next run.begins run.happened

pub returns-clause-found : goal.returns-clause-found
returns-clause-found c = λ origin geometry run next. failure_shows origin geometry run.first run.calls run.last next run.begins run.happened

pub returns-clause-commands : goal.returns-clause-commands
returns-clause-commands c = λ origin geometry run next no_fault lost fails.
    failure_shows_first origin geometry run.first run.calls run.last next run.begins run.happened lost fails no_fault
