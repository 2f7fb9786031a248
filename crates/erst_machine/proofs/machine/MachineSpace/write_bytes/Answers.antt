use Rattle.erst_machine.proofs.KeptLemmas.{kept_stored_at}
use Rattle.erst_machine.proofs.machine.MachineSpace.write_bytes.Goals as goal

pub invariant_of-self : goal.invariant_of-self
invariant_of-self g c =
    kept_stored_at _ _ _ _ _ _ c.self.view_is (c.write_bytes.ensures c.self.inside.device c.self.inside.handover c.self.inside.waited).1
    c.location-location.ensures.placed c.self.invariant
