use Rattle.std.proofs.Common.{rules, sym, subst, arith}
use Rattle.std.proofs.lemmas.Grind.{common_steps}
use Rattle.record_store.specs.Store.{IsSettled}
use Rattle.erst_device.specs.DeviceState.{DeviceState}
use Rattle.erst_machine.proofs.machine.Machine.warm.Goals as goal

pub returns-in-Ok : goal.returns-in-Ok
returns-in-Ok g c = record {
  count = search rules;
  error = search rules;
  registers = search rules;
  settled = λ told. subst (λ (device : DeviceState). IsSettled device.store) (sym c.count_records.ensures.same) (c.in-Ok.ensures.settled told);
  reads = search rules;
  powered = search rules;
  lit = search rules;
  leaves = search rules;
  copies = search rules;
  memory_is = grind (arith, common_steps);
  handover = search rules;
  stands = rw (← c.self.view_is) c.restart.ensures.stands;
  waited = search rules;
}
