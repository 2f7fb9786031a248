-- What was read of a script so far, from its start on.
use Rattle.std.specs.Prelude.{◌≡◌, ℕ, ◌+◌, ◌^◌, ◌<◌, ◌≤◌, false, List, [], ◌∷◌, ◌++◌, length}
use Rattle.script_lines.specs.Lines.{Line, Reading, lines_of, ended_lines_of, lines_ahead, IsNextLine, IsAtEnd, NextIsTooLong, HasNoLine, IsTooLong}

-- nothing was read
abbrev pub first_reading : Reading
first_reading = record { line = []; number = 0; end = 0; pending = []; at_end = false }

-- the line that was read last
abbrev pub last_line : Reading → Line
last_line reading = record { text = reading.line; end = reading.end }

-- what was taken from the source: lines that newlines end, and behind them the bytes that are pending
pub record TakesEnded (script rest : List ℕ) (lines : List Line) (reading : Reading) : Type 0 where
  pub taken : List ℕ
  pub source : script ≡ taken ++ (reading.pending ++ rest)
  pub ended : (more : List ℕ) → ended_lines_of 0 (taken ++ more) ≡ lines ++ ended_lines_of reading.end more

-- these lines were read, from the start of a script on, of which `rest` is left in the source
pub record HasRead (tells : Type 0) (script rest : List ℕ) (lines : List Line) (reading : Reading) : Type 0 where
  pub number : reading.number ≡ length lines
  pub ahead : tells → lines_of 0 script ≡ lines ++ lines_ahead reading rest
  pub taken : tells → reading.at_end ≡ false → TakesEnded script rest lines reading

-- a line of the script, with those before it, and its number from 1
pub record StandsAt (script : List ℕ) (before : List Line) (number : ℕ) (line : Line) : Type 0 where
  pub behind : List Line
  pub lines : lines_of 0 script ≡ before ++ line ∷ behind
  pub numbered : number ≡ length before + 1

-- the lines whose newline was taken from the source
pub record AreTaken (script rest : List ℕ) (lines : List Line) : Type 0 where
  pub taken : List ℕ
  pub source : script ≡ taken ++ rest
  pub are : ended_lines_of 0 taken ≡ lines

-- What is read line by line from the start of a script on are its lines, one after another, and each answer of `advance` says where among
-- them it stands
pub record AreReadInOrder (tells : Type 0) : Type 0 where
  pub start : (script : List ℕ) → HasRead tells script script [] first_reading
  pub next : (script rest rest_now : List ℕ) (lines : List Line) (old new : Reading) → HasRead tells script rest lines old
      → IsNextLine tells old new rest rest_now → HasRead tells script rest_now (lines ++ last_line new ∷ []) new
  pub stands : (script rest rest_now : List ℕ) (lines : List Line) (old new : Reading) → HasRead tells script rest lines old
      → IsNextLine tells old new rest rest_now → tells → StandsAt script lines new.number (last_line new)
  pub at_end : (script rest rest_now : List ℕ) (lines : List Line) (old new : Reading) → HasRead tells script rest lines old
      → IsAtEnd tells old new rest rest_now → tells → (lines_of 0 script ≡ lines) × (rest_now ≡ [])
  pub too_long : (script rest : List ℕ) (lines : List Line) (old new : Reading) → HasRead tells script rest lines old
      → NextIsTooLong tells old new rest → tells → (line : Line) × StandsAt script lines (new.number + 1) line × IsTooLong line
  pub failed : (script rest rest_now : List ℕ) (lines : List Line) (old new : Reading) → HasRead tells script rest lines old
      → HasNoLine tells old new rest rest_now → tells → AreTaken script rest_now lines
  -- a loop over the lines of a script ends
  pub ends : (rest rest_now : List ℕ) (old new : Reading) → IsNextLine tells old new rest rest_now → (old.end < new.end) × (new.end ≤ 2 ^ 24)
