use Rattle.erst_machine.proofs.KeptLemmas.{kept_turn}
use Rattle.erst_machine.proofs.machine.Machine.turn.Goals as goal

pub invariant_of-self : goal.invariant_of-self
invariant_of-self g c =
    kept_turn _ _ _ _ _ c.self.invariant c.turn.ensures.map c.turn.ensures.elsewhere.windows c.turn.ensures.turned
