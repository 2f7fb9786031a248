use Rattle.erst_entries.specs.Tables.{AreRead}
use Rattle.erst_entries.proofs.tables.read_entries.Given as goal

abbrev pub invariant-loop-index : goal.invariant-loop-index
invariant-loop-index l = AreRead l.table l.index l.entries.items
