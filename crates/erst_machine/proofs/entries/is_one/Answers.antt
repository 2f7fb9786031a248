use Rattle.std.proofs.Common.{refl}
use Rattle.erst_machine.proofs.entries.is_one.Goals as goal

pub returns : goal.returns
returns c = let is = c.entry_of.ensures 0x1 refl in cc
