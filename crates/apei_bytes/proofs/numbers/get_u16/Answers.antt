use Rattle.std.proofs.Common.{◌∙◌}
use Rattle.apei_bytes.proofs.Fields.{reads}
use Rattle.apei_bytes.proofs.numbers.get_u16.Goals as goal

pub returns : goal.returns
returns c = c.read_u16.ensures ∙ reads 2 c.args.at c.args.bytes.now c.requires
