use Rattle.port_laws.proofs.CommandLawLemmas.{sequence_goes, count_goes, next_goes, write_goes, read_goes}
use Rattle.port_laws.proofs.commands.enough_steps_go_through.Goals as goal

pub returns-clause-sequence : goal.returns-clause-sequence
returns-clause-sequence c = sequence_goes

pub returns-clause-count : goal.returns-clause-count
returns-clause-count c = count_goes

pub returns-clause-next : goal.returns-clause-next
returns-clause-next c = next_goes

pub returns-clause-write : goal.returns-clause-write
returns-clause-write c = write_goes

pub returns-clause-read : goal.returns-clause-read
returns-clause-read c = read_goes
