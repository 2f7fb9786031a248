-- Words that are written in pieces.
use Rattle.std.specs.Prelude.{◌≡◌, ℕ, List, ◌++◌, take}

-- of some words a part was written, and the others are the reply in hand
pub record AreShown (told_sink : Type 0) (written written_now reply words : List ℕ) : Type 0 where
  pub shown : List ℕ
  pub text : told_sink → written_now ≡ written ++ shown
  pub words_are : shown ++ reply ≡ words

-- a beginning of a text was written
abbrev pub IsPartWritten : List ℕ → List ℕ → List ℕ → Type 0
IsPartWritten text written written_now = (n : ℕ) × (written_now ≡ written ++ take n text)
