use Rattle.std.proofs.Common.{refl}
use Rattle.erst_shadow.proofs.entries.entries_behind.Goals as goal

pub returns : goal.returns
returns c =
    let address = c.use_register.ensures 0x00 refl in
    let length = c.use_register-2.ensures 0x00 refl in
    let attributes = c.use_register-3.ensures 0x00 refl in
    cc
