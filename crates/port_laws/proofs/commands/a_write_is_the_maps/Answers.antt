use Rattle.port_laws.proofs.CommandLawLemmas.{write_is_the_maps}
use Rattle.port_laws.proofs.commands.a_write_is_the_maps.Goals as goal

pub returns : goal.returns
returns c = write_is_the_maps
