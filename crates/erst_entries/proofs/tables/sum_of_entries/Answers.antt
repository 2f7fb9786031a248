use Rattle.std.proofs.Common.{refl}
use Rattle.erst_entries.proofs.TableBytes.{sum-next}
use Rattle.erst_entries.proofs.tables.sum_of_entries.Goals as goal

pub loop-entry-preserved : goal.loop-entry-preserved
loop-entry-preserved c =
    sum-next c.args.entries.now c.loop-entry.entry-index (record {
      action = 0;
      code = 0;
      flags = 0;
      spare = 0;
      region =
          record { space = 0; width = 0; offset = 0; access = 0; address = 0 };
      value = 0;
      mask = 0;
    }) c.loop-entry.total _ c.sum_of-total.result
    c.loop-entry-test.true c.loop-entry.invariant (rw c.spell.ensures at c.sum_of-total.ensures) refl
