use Rattle.std.proofs.Common.{refl}
use Rattle.erst_port.proofs.port.Port.settle.Goals as goal

pub returns : goal.returns
returns c = (c.if-not-runs.ensures.runs refl, c.in_ok-poll.ensures)
