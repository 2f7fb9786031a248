-- That lines were written, to a sink of which `told` says whether it tells what was written.
use Rattle.std.specs.Prelude.{◌≡◌, ℕ, List, ◌++◌, take}
use Rattle.apei_check.specs.Shown.{lines_text}

-- these lines were written, each with its newline
abbrev pub Writes : Type 0 → List (List ℕ) → List ℕ → List ℕ → Type 0
Writes told lines written written_now = told → written_now ≡ written ++ lines_text lines

-- a beginning of them was written
pub record WritesPart (told : Type 0) (lines : List (List ℕ)) (written written_now : List ℕ) : Type 0 where
  pub count : ℕ
  pub text : told → written_now ≡ written ++ take count (lines_text lines)
