use Rattle.port_laws.proofs.CommandLawLemmas.{sequence_caused, count_caused, next_caused, write_caused, read_caused}
use Rattle.port_laws.proofs.commands.hardware_has_its_cause.Goals as goal

pub returns-clause-sequence : goal.returns-clause-sequence
returns-clause-sequence c = sequence_caused

pub returns-clause-count : goal.returns-clause-count
returns-clause-count c = count_caused

pub returns-clause-next : goal.returns-clause-next
returns-clause-next c = next_caused

pub returns-clause-write : goal.returns-clause-write
returns-clause-write c = write_caused

pub returns-clause-read : goal.returns-clause-read
returns-clause-read c = read_caused
