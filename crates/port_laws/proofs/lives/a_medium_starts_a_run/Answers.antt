use Rattle.port_laws.proofs.OneGeometry.{opened_starts, loaded_starts, failed_starts}
use Rattle.port_laws.proofs.lives.a_medium_starts_a_run.Goals as goal

pub returns-clause-opened : goal.returns-clause-opened
returns-clause-opened c = opened_starts

pub returns-clause-loaded : goal.returns-clause-loaded
returns-clause-loaded c = loaded_starts

pub returns-clause-failed : goal.returns-clause-failed
returns-clause-failed c = failed_starts
