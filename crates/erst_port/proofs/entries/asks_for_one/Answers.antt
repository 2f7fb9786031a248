use Rattle.std.proofs.Common.{refl}
use Rattle.erst_port.proofs.entries.asks_for_one.Goals as goal

pub returns : goal.returns
returns c = let is = c.entry_of.ensures 0x1 refl in cc
