use Rattle.std.proofs.Common.{refl}
use Rattle.erst_shadow.proofs.entries.put_number.Goals as goal

pub returns : goal.returns
returns c = let is = c.entry_of.ensures 0x3 refl in cc
