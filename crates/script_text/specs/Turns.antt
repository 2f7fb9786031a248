-- The letters of a `turns` line.
use Rattle.std.specs.Prelude.{ℕ, ◌≤◌, ◌||◌, ◌==◌, if◌then◌else◌, List, length, All, IsTrue}
use Rattle.ghes_ack.specs.declared.events.Side.{Side}
use Rattle.ghes_ack.specs.declared.events.Side.TheVariants.{Firmware, Reader}

-- 1 to 4,096 letters 'F' and 'R'
pub record IsTurns (text : List ℕ) : Type 0 where
  pub letters : All (λ c. IsTrue (c == 70 || c == 82)) text
  pub least : 1 ≤ length text
  pub most : length text ≤ 4096

-- the side of a letter: F is the firmware, any other one the reader
abbrev pub side_of : ℕ → Side
side_of letter = if letter == 70 then Firmware else Reader
