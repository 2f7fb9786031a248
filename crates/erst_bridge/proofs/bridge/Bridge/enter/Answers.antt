use Rattle.erst_bridge.proofs.IdentifierLemmas.{from_one}
use Rattle.erst_bridge.proofs.bridge.Bridge.enter.Goals as goal

pub invariant_of-self : goal.invariant_of-self
invariant_of-self c = (c.self.invariant.0, c.self.invariant.1, from_one c.get-self-inside.result c.get-self-inside.ensures.allowed)
