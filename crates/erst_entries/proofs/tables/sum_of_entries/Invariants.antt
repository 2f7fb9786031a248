use Rattle.std.proofs.Common.{◌≡◌, ◌%◌, take, sum}
use Rattle.erst_entries.proofs.Terms.{entries_spelling}
use Rattle.erst_entries.proofs.tables.sum_of_entries.Given as goal

abbrev pub invariant-loop-entry : goal.invariant-loop-entry
invariant-loop-entry l = l.total ≡ sum (entries_spelling (take l.entry-index l.entries)) % 256
