use Rattle.std.proofs.Common.{inr, refl}
use Rattle.port_laws.proofs.settling.a_settled_step_is_a_poll.Goals as goal

pub returns : goal.returns
returns c = λ old new settles. (settles.1.1.0, inr (refl, settles.1.0, settles.1.1.1), (refl, settles.1.1.2))
