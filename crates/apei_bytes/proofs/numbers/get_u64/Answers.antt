use Rattle.std.proofs.Common.{◌∙◌}
use Rattle.apei_bytes.proofs.Fields.{reads}
use Rattle.apei_bytes.proofs.numbers.get_u64.Goals as goal

pub returns : goal.returns
returns c = c.read_u64.ensures ∙ reads 8 c.args.at c.args.bytes.now c.requires
