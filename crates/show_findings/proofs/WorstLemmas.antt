-- The entries of a block.
use Rattle.std.proofs.Common.{◌≡◌, ◌≤◌, ℕ, zero, suc, ◌+◌, List, add-one, arith}
use Rattle.show_findings.specs.Worst.{entry_place, next_place}

-- the next one begins where the one before says
pub place_behind : (block : List ℕ) (index : ℕ) → entry_place block (index + 1) ≡ next_place block (entry_place block index)
place_behind block index = rw add-one

-- none begins before the first
pub not_before : (block : List ℕ) (index : ℕ) → 20 ≤ entry_place block index
not_before block zero = omega arith
not_before block (suc index) = omega (arith, not_before block index)
