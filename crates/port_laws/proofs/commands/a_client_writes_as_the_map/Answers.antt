use Rattle.port_laws.proofs.CommandLawLemmas.{writes_as_the_map, write_made}
use Rattle.port_laws.proofs.commands.a_client_writes_as_the_map.Goals as goal

pub returns-clause-answered : goal.returns-clause-answered
returns-clause-answered c = writes_as_the_map

pub returns-clause-records : goal.returns-clause-records
returns-clause-records c = write_made
