use Rattle.erst_machine.specs.Allowed.{write_of}
use Rattle.erst_machine.proofs.KeptLemmas.{kept_written_at}
use Rattle.erst_machine.proofs.machine.MachineSpace.write.Goals as goal

pub invariant_of-self : goal.invariant_of-self
invariant_of-self g c =
    kept_written_at _ _ _ _ _ _ (write_of _ c.args.width _ _) c.self.view_is c.bytes_of.ensures.value
    (c.write_number.ensures c.self.inside.handover c.self.inside.waited) c.location-location.ensures.placed c.self.invariant
