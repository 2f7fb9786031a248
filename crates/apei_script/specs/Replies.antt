-- What is seen of a reply in memory: its text.
use Rattle.std.specs.Prelude.{◌≡◌, ℕ, ◌+◌, ◌≤◌, List, length}

-- it is these words, with room behind them for the step at which a line ended
pub record IsMade (reply words : List ℕ) : Type 0 where
  pub text : reply ≡ words
  pub room : length reply + 23 ≤ 131264
