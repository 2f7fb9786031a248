use Rattle.std.proofs.Common.{◌∙◌}
use Rattle.erst_entries.proofs.Listing.{skip-next, other_test}
use Rattle.erst_entries.proofs.programs.skipped.Goals as goal

pub loop-index-preserved : goal.loop-index-preserved
loop-index-preserved c =
    skip-next c.args.action c.args.entries.now c.loop-index.index (record {
      action = 0;
      code = 0;
      flags = 0;
      spare = 0;
      region =
          record { space = 0; width = 0; offset = 0; access = 0; address = 0 };
      value = 0;
      mask = 0;
    }) c.loop-index-test.true
    (other_test _ _ c.if-entry-action.false) ∙ c.loop-index.invariant
