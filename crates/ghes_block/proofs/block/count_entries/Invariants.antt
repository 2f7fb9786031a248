use Rattle.std.proofs.Common.{◌≡◌, ◌+◌, ◌-◌, ◌*◌, ◌≤◌, length, drop}
use Rattle.apei_bytes.specs.Walk.{item_count}
use Rattle.ghes_block.specs.Reading.{entry_walk}
use Rattle.ghes_block.proofs.Terms.{count_in}
use Rattle.ghes_block.proofs.block.count_entries.Given as goal

abbrev pub invariant-loop-at : goal.invariant-loop-at
invariant-loop-at l = record {
  within : l.at ≤ length l.content;
  few : 64 * l.index ≤ l.at;
  same : item_count entry_walk (length l.content) l.index (20 + l.at) (drop l.at l.content) ≡ count_in l.content;
}

abbrev pub decreases-loop-at : goal.decreases-loop-at
decreases-loop-at l = length l.content - l.at
