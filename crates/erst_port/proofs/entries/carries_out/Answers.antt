use Rattle.std.proofs.Common.{refl}
use Rattle.erst_port.proofs.entries.carries_out.Goals as goal

pub returns : goal.returns
returns c = let is = c.entry_of.ensures 0x3 refl in cc
