use Rattle.std.proofs.Common.{length, refl}
use Rattle.flash_model.proofs.Telling.{put_mid-put_at}
use Rattle.flash_model.proofs.ranges.put_range.Goals as goal

pub returns : goal.returns
returns c =
    put_mid-put_at c.args.image.now _ c.args.bytes.now c.args.at (length c.args.bytes.now) c.copy_from_slice.ensures.after refl
