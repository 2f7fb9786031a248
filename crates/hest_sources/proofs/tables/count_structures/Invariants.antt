use Rattle.std.proofs.Common.{◌≡◌, ◌-◌, ◌≤◌, length, drop}
use Rattle.apei_bytes.specs.Walk.{item_count}
use Rattle.hest_sources.specs.Walk.{structure_walk, source_count}
use Rattle.hest_sources.proofs.tables.count_structures.Given as goal

abbrev pub invariant-loop-at : goal.invariant-loop-at
invariant-loop-at l = record {
  low : 40 ≤ l.at;
  within : l.at ≤ length l.table;
  few : l.count ≤ l.at;
  same : item_count structure_walk (length l.table) l.count l.at (drop l.at l.table) ≡ source_count l.table;
}

abbrev pub decreases-loop-at : goal.decreases-loop-at
decreases-loop-at l = length l.table - l.at
