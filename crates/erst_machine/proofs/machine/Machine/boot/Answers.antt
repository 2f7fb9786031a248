use Rattle.std.proofs.Common.{◌≤◌, ℕ, subst, sym, refl}
use Rattle.base_model.proofs.CrashLemmas.{Leaves-none}
use Rattle.record_store.specs.Store.{IsSettled}
use Rattle.erst_device.specs.DeviceState.{DeviceState}
use Rattle.erst_machine.proofs.BootLemmas.{is_booted}
use Rattle.erst_machine.proofs.KeptLemmas.{reach_small}
use Rattle.erst_machine.proofs.machine.Machine.boot.Goals as goal

pub begin-requires : goal.begin-requires
begin-requires g c = subst (λ (n : ℕ). n ≤ 65536) (sym c.reach.ensures) (reach_small _)

pub returns-in-Some-clause-back : goal.returns-in-Some-clause-back
returns-in-Some-clause-back g c = λ told. Leaves-none _ _ refl

pub returns-in_default-begin-clause-back : goal.returns-in_default-begin-clause-back
returns-in_default-begin-clause-back g c = λ told. Leaves-none _ _ refl

pub returns-in-Err-clause-refused : goal.returns-in-Err-clause-refused
returns-in-Err-clause-refused g c = c.refused_boot.ensures.why _ _ c.in-Err.ensures.refused

pub invariant_of-result : goal.invariant_of-result
invariant_of-result g c =
    (is_booted _ _ _ _ _ _ c.new.ensures c.in-Ok-attach.ensures.opened c.reach.ensures c.in-Ok.ensures.sizes c.in-Ok.ensures.memory c.in-Ok.ensures.handover c.in-Ok.ensures.stands).machine

pub returns-in-Ok-attach-clause-booted : goal.returns-in-Ok-attach-clause-booted
returns-in-Ok-attach-clause-booted g c =
    is_booted _ _ _ _ _ _ c.new.ensures c.in-Ok-attach.ensures.opened c.reach.ensures c.in-Ok.ensures.sizes c.in-Ok.ensures.memory c.in-Ok.ensures.handover c.in-Ok.ensures.stands

pub returns-in-Err-clause-once : goal.returns-in-Err-clause-once
returns-in-Err-clause-once g c = c.refused_boot.ensures.once (g.F.Flash.state c.args.flash) c.in-Err.ensures.once

pub returns-in-Ok-attach-clause-settled : goal.returns-in-Ok-attach-clause-settled
returns-in-Ok-attach-clause-settled g c = λ told. subst (λ (device : DeviceState). IsSettled device.store) (sym c.new.ensures) (c.in-Ok-attach.ensures.settled told)
