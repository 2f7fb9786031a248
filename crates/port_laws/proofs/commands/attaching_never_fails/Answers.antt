use Rattle.port_laws.proofs.AttachLemmas.{attaches_port}
use Rattle.port_laws.proofs.commands.attaching_never_fails.Goals as goal

pub returns : goal.returns
returns c = attaches_port
