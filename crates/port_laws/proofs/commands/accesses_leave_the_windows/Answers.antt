use Rattle.port_laws.proofs.OtherLemmas.{is_port, keeps_others}
use Rattle.port_laws.proofs.commands.accesses_leave_the_windows.Goals as goal

pub returns-clause-port : goal.returns-clause-port
returns-clause-port c = is_port

pub returns-clause-others : goal.returns-clause-others
returns-clause-others c = keeps_others
