use Rattle.port_laws.proofs.CommandLawLemmas.{reads_as_the_map}
use Rattle.port_laws.proofs.commands.a_client_reads_as_the_map.Goals as goal

pub returns : goal.returns
returns c = reads_as_the_map
