use Rattle.std.proofs.Common.{◌≡◌, ◌++◌, take}
use Rattle.erst_entries.proofs.Terms.{entries_spelling}
use Rattle.erst_entries.proofs.tables.spell_entries.Given as goal

abbrev pub invariant-loop-entry : goal.invariant-loop-entry
invariant-loop-entry l = l.bytes.items ≡ l.fn.bytes.items ++ entries_spelling (take l.entry-index l.entries)
