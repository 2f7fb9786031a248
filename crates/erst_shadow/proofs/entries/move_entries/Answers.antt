use Rattle.std.proofs.Common.{refl}
use Rattle.erst_shadow.specs.MoveEntries.{move_entries}
use Rattle.erst_shadow.proofs.entries.move_entries.Goals as goal

pub returns : goal.returns
unfolding move_entries
returns c =
    let source = c.use_register.ensures 0x10 refl in
    let target = c.use_register-2.ensures 0x11 refl in
    let length = c.use_register-3.ensures 0x06 refl in
    let copies = c.use_register-4.ensures 0x12 refl in
    let loads = c.use_register-5.ensures 0x05 refl in
    let adds = c.entry_of.ensures 0x08 refl in
    let stores = c.use_register-6.ensures 0x07 refl in
    let skips = c.entry_of-2.ensures 0x0E refl in
    let goes = c.entry_of-3.ensures 0x0F refl in
    cc
