use Rattle.std.proofs.Common.{◌∙◌}
use Rattle.apei_bytes.proofs.Parts.{between-part}
use Rattle.apei_bytes.proofs.read.array_at.Goals as goal

pub returns : goal.returns
returns g c = c.copy_from_slice.ensures.after ∙ between-part c.args.bytes.now c.args.at g.row.N
