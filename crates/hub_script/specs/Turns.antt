-- The turns of a `turns` line: pairs of a source and a side.
use Rattle.std.specs.Prelude.{◌≡◌, ℕ, ◌*◌, ◌%◌, ◌<◌, ◌≤◌, ◌||◌, ◌&&◌, ◌==◌, nat_lt, not, Bool, if◌then◌else◌, List, length, get_or, IsTrue}

-- sources stand at the even places, one of 0 to 9 and a to f, and sides at the others, F for the firmware and R for the reader
abbrev pub may_stand : ℕ → ℕ → Bool
may_stand at c =
    if at % 2 == 0 then (not (nat_lt c 48) && nat_lt c 58) || (not (nat_lt c 97) && nat_lt c 103)
    else c == 70 || c == 82

-- 1 to 2,048 pairs
pub record AreTurns (text : List ℕ) : Type 0 where
  pub each : (i : ℕ) → i < length text → IsTrue (may_stand i (get_or text i 0))
  pub even : (n : ℕ) × (length text ≡ 2 * n)
  pub some : 0 < length text
  pub most : length text ≤ 4096
