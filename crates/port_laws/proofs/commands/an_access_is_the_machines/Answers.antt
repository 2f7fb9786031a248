use Rattle.port_laws.proofs.MachineLemmas.{is_machine}
use Rattle.port_laws.proofs.AccessLemmas.{value_read, value_written, wait_made}
use Rattle.port_laws.proofs.CommandLawLemmas.{code_written, range_read, range_written}
use Rattle.port_laws.proofs.commands.an_access_is_the_machines.Goals as goal

pub returns-clause-machine : goal.returns-clause-machine
returns-clause-machine c = is_machine

pub returns-clause-value_read : goal.returns-clause-value_read
returns-clause-value_read c = λ addresses old answer new. value_read addresses old new answer

pub returns-clause-value_written : goal.returns-clause-value_written
returns-clause-value_written c = λ addresses old number answer new. value_written addresses old new number answer

pub returns-clause-code_written : goal.returns-clause-code_written
returns-clause-code_written c = code_written

pub returns-clause-bytes_read : goal.returns-clause-bytes_read
returns-clause-bytes_read c = range_read

pub returns-clause-bytes_written : goal.returns-clause-bytes_written
returns-clause-bytes_written c = range_written

pub returns-clause-wait : goal.returns-clause-wait
returns-clause-wait c = λ addresses old micros new. wait_made addresses old new micros
