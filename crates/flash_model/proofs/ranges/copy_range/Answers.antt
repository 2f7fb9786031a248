use Rattle.std.proofs.Common.{length, refl, ◌∙◌}
use Rattle.flash_model.proofs.Telling.{part-range}
use Rattle.flash_model.proofs.ranges.copy_range.Goals as goal

pub returns : goal.returns
returns c =
    c.copy_from_slice.ensures.after
    ∙ part-range c.args.image.now c.args.image.now c.args.at (length c.args.buf.now) (length c.args.buf.now) refl refl
