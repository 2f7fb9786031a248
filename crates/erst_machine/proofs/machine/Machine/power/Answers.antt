use Rattle.std.proofs.Common.{ap, refl, ◌∙◌, arith}
use Rattle.std.proofs.lemmas.List.{with_items_is}
use Rattle.ghes_ack.specs.Handovers.{HandoverState}
use Rattle.erst_device.specs.DeviceState.{DeviceState}
use Rattle.erst_machine.specs.Memories.{memory_of}
use Rattle.erst_machine.proofs.KeptLemmas.{kept_power}
use Rattle.erst_machine.proofs.machine.Machine.power.Goals as goal

pub invariant_of-self : goal.invariant_of-self
invariant_of-self g c =
    kept_power _ c.count_records.new.device (memory_of c.clear.new.self) _ _ c.restart.new.self c.self.inside.waited c.self.invariant
    (ap (λ (d : DeviceState). d.store.layout) c.count_records.ensures.same ∙ c.power-looked.ensures.leaves.equivalent.layout)
    c.clear.ensures (with_items_is c.clear.new.self.range c.count_records.new.range (omega arith) ∙ c.count_records.ensures.range ∙ c.deref_mut.ensures.value) c.restart.ensures.elsewhere.windows
    (ap (λ (h : HandoverState). h.map) c.restart.ensures.fresh) (_, c.restart.ensures.stands)

pub invariant_of-self-in-Err : goal.invariant_of-self-in-Err
invariant_of-self-in-Err g c =
    kept_power _ c.power-looked.new.self (memory_of c.clear.new.self) _ _ c.restart.new.self c.self.inside.waited c.self.invariant c.power-looked.ensures.leaves.equivalent.layout
    c.clear.ensures refl c.restart.ensures.elsewhere.windows (ap (λ (h : HandoverState). h.map) c.restart.ensures.fresh) (_, c.restart.ensures.stands)
