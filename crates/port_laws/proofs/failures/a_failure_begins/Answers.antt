use Rattle.port_laws.proofs.FailureLemmas.{failure_begins}
use Rattle.port_laws.proofs.failures.a_failure_begins.Goals as goal

pub returns : goal.returns
returns c = failure_begins
