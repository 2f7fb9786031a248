use Rattle.erst_machine.proofs.KeptLemmas.{kept_copied_at}
use Rattle.erst_machine.proofs.machine.MachineSpace.copy.Goals as goal

pub invariant_of-self : goal.invariant_of-self
invariant_of-self g c =
    kept_copied_at _ _ _ _ _ _ _ _ c.self.view_is (c.copy_bytes.ensures c.self.inside.device c.self.inside.handover c.self.inside.waited).1
    c.location-target.ensures.placed c.self.invariant
