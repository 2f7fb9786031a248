use Rattle.std.proofs.Common.{◌-◌, ◌≤◌, List, ◌++◌, length}
use Rattle.show_items.specs.Blocks.{ArePartsBehind}
use Rattle.show_items.specs.declared.parts.Part.{Part}
use Rattle.show_items.proofs.parts.parts_of_entries.Given as goal

-- the parts of the entries that are left, behind those that were found, are all
abbrev pub invariant-loop-entry : goal.invariant-loop-entry
invariant-loop-entry l = record {
  below : l.index ≤ l.at;
  whole : (more : List Part) → ArePartsBehind l.table l.bytes (length l.bytes - l.index) l.index l.at more
      → ArePartsBehind l.table l.bytes (length l.bytes) 0 20 (l.parts.items ++ more);
}

abbrev pub decreases-loop-entry : goal.decreases-loop-entry
decreases-loop-entry l = length l.bytes - l.at
