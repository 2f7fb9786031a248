use Rattle.std.proofs.Common.{◌∙◌, ap}
use Rattle.base_model.specs.Bytes.{put_at}
use Rattle.apei_space.proofs.BytePlaces.{spelled-low_1, spelled-low_2, spelled-low_4}
use Rattle.apei_space.proofs.bytes.put_number.Goals as goal

pub returns-in-B8 : goal.returns-in-B8
returns-in-B8 c = rw c.in-B8.is (c.put_u8.ensures ∙ ap (put_at c.args.bytes.now c.args.at) (spelled-low_1 c.args.value))

pub returns-in-B16 : goal.returns-in-B16
returns-in-B16 c = rw c.in-B16.is (c.put_u16.ensures.written ∙ ap (put_at c.args.bytes.now c.args.at) (spelled-low_2 c.args.value))

pub returns-in-B32 : goal.returns-in-B32
returns-in-B32 c = rw c.in-B32.is (c.put_u32.ensures.written ∙ ap (put_at c.args.bytes.now c.args.at) (spelled-low_4 c.args.value))
