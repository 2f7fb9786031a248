use Rattle.std.proofs.Common.{ap, ◌∙◌}
use Rattle.std.proofs.Common.{length}
use Rattle.base_model.proofs.BytesLemmas.{length-part}
use Rattle.apei_bytes.proofs.Parts.{between-part}
use Rattle.apei_bytes.proofs.read.bytes_at.Goals as goal

pub returns : goal.returns
returns c =
    let e = between-part c.args.bytes.now c.args.at c.args.count in
    record { value = e; len = ap length e ∙ length-part c.args.bytes.now c.args.at c.args.count c.requires }
