use Rattle.std.proofs.Common.{◌≡◌, ◌-◌, ◌≤◌, ◌++◌, length, drop, Ok}
use Rattle.std.specs.Prelude.{vec_capacity}
use Rattle.apei_bytes.specs.Walk.{items_in, item_count}
use Rattle.hest_sources.specs.Walk.{structure_walk}
use Rattle.hest_sources.proofs.Terms.{sources_in}
use Rattle.hest_sources.proofs.tables.read_sources.Given as goal

abbrev pub invariant-loop-at : goal.invariant-loop-at
invariant-loop-at l = record {
  low : 40 ≤ l.at;
  within : l.at ≤ length l.table;
  room : l.count ≤ vec_capacity l.sources;
  left : item_count structure_walk (length l.table) (length l.sources.items) l.at (drop l.at l.table) ≡ Ok l.count;
  list : l.sources.items ++ items_in structure_walk (length l.table) (length l.sources.items) l.at (drop l.at l.table) ≡ sources_in l.table;
}

abbrev pub decreases-loop-at : goal.decreases-loop-at
decreases-loop-at l = length l.table - l.at
