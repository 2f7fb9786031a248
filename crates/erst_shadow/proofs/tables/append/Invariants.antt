use Rattle.std.proofs.Common.{◌≡◌, ◌++◌, take}
use Rattle.erst_shadow.proofs.tables.append.Given as goal

abbrev pub invariant-loop-entry : goal.invariant-loop-entry
invariant-loop-entry l = l.table ≡ record l.initial.table { entries = l.initial.table.entries ++ take l.entry-index l.entries }
