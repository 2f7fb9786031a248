use Rattle.std.proofs.Common.{ℕ, ◌-◌, ◌≤◌, List, length}
use Rattle.ghes_block.specs.Region.{IsLaidOut}
use Rattle.ghes_block.proofs.RegionLemmas.{IsAt}
use Rattle.ghes_block.proofs.region.end_of.Given as goal

abbrev pub invariant-loop-size : goal.invariant-loop-size
invariant-loop-size l = (l.at ≤ length l.region) × ((blocks : List (List ℕ)) (left : ℕ) → IsLaidOut blocks left l.region → IsAt l.region l.at blocks left)

abbrev pub decreases-loop-size : goal.decreases-loop-size
decreases-loop-size l = length l.region - l.at
