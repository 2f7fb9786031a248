use Rattle.port_laws.proofs.CommandLawLemmas.{read_is_the_maps}
use Rattle.port_laws.proofs.commands.a_read_is_the_maps.Goals as goal

pub returns : goal.returns
returns c = read_is_the_maps
