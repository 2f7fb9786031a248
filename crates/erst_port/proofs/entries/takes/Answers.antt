use Rattle.std.proofs.Common.{refl}
use Rattle.erst_port.proofs.entries.takes.Goals as goal

pub returns : goal.returns
returns c = let is = c.entry_of.ensures 0x0 refl in cc
