use Rattle.port_laws.proofs.TrailLemmas.{is_history}
use Rattle.port_laws.proofs.durability.records_change_by_commands.Goals as goal

pub returns : goal.returns
returns c = is_history
