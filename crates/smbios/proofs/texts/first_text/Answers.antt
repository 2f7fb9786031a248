use Rattle.std.proofs.Common.{arith}
use Rattle.smbios.proofs.TextLemmas.{first_is, none_without_zero}
use Rattle.smbios.proofs.texts.first_text.Goals as goal

pub returns-in_default : goal.returns-in_default
returns-in_default c = none_without_zero c.args.bytes.now c.in_default.ensures

pub returns : goal.returns
returns c = first_is c.args.bytes.now c.in-Some.len c.behind.result.now c.in-Some.ensures (omega arith) c.behind.ensures
