use Rattle.std.proofs.Common.{refl}
use Rattle.erst_entries.proofs.EntryBytes.{spell-spelling}
use Rattle.std.proofs.Common.{replicate}
use Rattle.erst_entries.proofs.entries.Entry.spell.Goals as goal

pub returns : goal.returns
returns c =
    let head = c.write_array.ensures.wrote.put in
    let region = c.write_array-2.ensures.wrote.put in
    let all = spell-spelling (replicate 32 0) c.args.self.now refl in
    cc
