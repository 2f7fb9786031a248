use Rattle.port_laws.proofs.CommandLawLemmas.{clear_is_the_maps, clear_made}
use Rattle.port_laws.proofs.commands.a_clear_is_the_maps.Goals as goal

pub returns-clause-answered : goal.returns-clause-answered
returns-clause-answered c = clear_is_the_maps

pub returns-clause-records : goal.returns-clause-records
returns-clause-records c = clear_made
