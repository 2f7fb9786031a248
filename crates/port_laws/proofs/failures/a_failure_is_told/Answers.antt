use Rattle.port_laws.proofs.FailureLemmas.{has_failed, failure_stays, failure_told}
use Rattle.port_laws.proofs.failures.a_failure_is_told.Goals as goal

pub returns-clause-failed : goal.returns-clause-failed
returns-clause-failed c = has_failed

pub returns-clause-stays : goal.returns-clause-stays
returns-clause-stays c = failure_stays

pub returns-clause-told : goal.returns-clause-told
returns-clause-told c = failure_told
