use Rattle.port_laws.proofs.CommandLawLemmas.{count_is_the_maps}
use Rattle.port_laws.proofs.commands.a_count_is_the_maps.Goals as goal

pub returns : goal.returns
returns c = count_is_the_maps
