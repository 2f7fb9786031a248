use Rattle.std.proofs.Common.{sym, ◌∙◌}
use Rattle.cper_frame.proofs.Whole.{misplaced_step}
use Rattle.cper_frame.proofs.record.first_outside.Goals as goal

pub loop-index-preserved : goal.loop-index-preserved
loop-index-preserved c =
    misplaced_step c.args.bytes.now c.args.first c.args.last c.args.sections c.loop-index.index c.loop-index-test.true (sym c.is_outside.ensures ∙ c.if-is_outside.false)
    ∙ c.loop-index.invariant
