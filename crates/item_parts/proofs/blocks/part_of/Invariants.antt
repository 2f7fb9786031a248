use Rattle.std.proofs.Common.{◌≡◌, ◌≤◌, length}
use Rattle.ghes_block.specs.Entries.{place_of}
use Rattle.item_parts.proofs.blocks.part_of.Given as goal

abbrev pub invariant-loop-passed : goal.invariant-loop-passed
invariant-loop-passed l = record {
  within : l._passed ≤ length l.block.entries;
  place : l.at ≡ place_of l.block.entries l._passed;
}
