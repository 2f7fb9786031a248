-- Which lines of an item are shown.
use Rattle.std.specs.Prelude.{◌≡◌, ℕ, ◌==◌, List, [], ◌∷◌, ◌++◌, take, map, if◌then◌else◌, Result, Ok, Err}
use Rattle.std.specs.List.{enumerate_from}
use Rattle.base_model.specs.Faults.{Rose}
use Rattle.std.specs.Int.RustNames.{bit_and}
use Rattle.apei_check.specs.declared.text.show.Show.{Show}
use Rattle.apei_check.specs.declared.text.stop.CheckStop.{CheckStop}
use Rattle.apei_check.specs.declared.text.stop.CheckStop.TheVariants.{SinkFault, Memory}

-- the lines of an item: the one on the whole where bit 0 is set (`HEAD`), and those on its parts where bit 1 is (`PARTS`)
abbrev pub lines_shown : Show → List ℕ → List (List ℕ) → List (List ℕ)
lines_shown show head parts = (if bit_and show.0 1 == 1 then head ∷ [] else []) ++ (if bit_and show.0 2 == 2 then parts else [])

-- a line for each part, which are counted from 0
abbrev pub numbered_lines : {X : Type 0} → (ℕ → X → List ℕ) → List X → List (List ℕ)
numbered_lines line parts = map (λ part. line part.0 part.1) (enumerate_from 0 parts)

-- a newline behind each line
unfoldable pub lines_text : List (List ℕ) → List ℕ
lines_text [] = []
lines_text (line ∷ lines) = line ++ 10 ∷ lines_text lines

-- lines of a kind were written, each with its newline, to a sink of which `told` says whether it tells what was written
pub record Shows (told : Type 0) (Are : List (List ℕ) → Type 0) (written written_now : List ℕ) : Type 0 where
  pub lines : List (List ℕ)
  pub are : Are lines
  pub text : told → written_now ≡ written ++ lines_text lines

-- of such lines a beginning was written
pub record ShowsPart (told : Type 0) (Are : List (List ℕ) → Type 0) (written written_now : List ℕ) : Type 0 where
  pub lines : List (List ℕ)
  pub are : Are lines
  pub count : ℕ
  pub text : told → written_now ≡ written ++ take count (lines_text lines)

-- a sink's count of faults rose where it refused a line, and is as it was where it did not
abbrev pub HasStopCause : ℕ → ℕ → Result (Unit {0}) CheckStop → Type 0
HasStopCause before after (Ok _) = after ≡ before
HasStopCause before after (Err SinkFault) = Rose before after
HasStopCause before after (Err Memory) = after ≡ before
