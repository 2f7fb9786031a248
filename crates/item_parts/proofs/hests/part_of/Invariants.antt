use Rattle.std.proofs.Common.{◌≡◌, ◌+◌, ◌*◌, ◌^◌, ◌≤◌}
use Rattle.item_parts.proofs.PartLemmas.{source_place}
use Rattle.item_parts.proofs.hests.part_of.Given as goal

abbrev pub invariant-loop-place : goal.invariant-loop-place
invariant-loop-place l = record {
  at_is : l.at ≡ source_place 40 l.sources l.place;
  small : l.at ≤ 40 + l.place * 2 ^ 32;
  low : l.place ≤ l.index;
}
