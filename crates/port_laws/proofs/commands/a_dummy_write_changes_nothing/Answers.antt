use Rattle.port_laws.proofs.CommandLawLemmas.{dummy_changes_nothing}
use Rattle.port_laws.proofs.commands.a_dummy_write_changes_nothing.Goals as goal

pub returns : goal.returns
returns c = dummy_changes_nothing
