-- The lines of a script, and where each of them ends.
use Rattle.std.specs.Prelude.{◌≡◌, ℕ, ◌+◌, ◌^◌, ◌<◌, ◌⊎◌, Bool, true, false, ◌==◌, List, [], ◌∷◌, ◌++◌, length, take, drop}
use Rattle.std.specs.List.{slice_split}
use Rattle.script_lines.specs.declared.lengths.TheConstants.{LONGEST_LINE}

-- a line: its text, and where it ends in the script, its newline counted where it has one
pub record Line : Type 0 where
  pub text : List ℕ
  pub end : ℕ

-- A script is cut at its newlines; what is behind the last newline is a part too. A part that another follows is ended by a newline. The last part is
-- a line where it isn't empty
abbrev pub lines_in : ℕ → List (List ℕ) → List Line
lines_in at [] = []
lines_in at ([] ∷ []) = []
lines_in at ((byte ∷ text) ∷ []) = record { text = byte ∷ text; end = at + length (byte ∷ text) } ∷ []
lines_in at (text ∷ part ∷ parts) = record { text = text; end = at + length text + 1 } ∷ lines_in (at + length text + 1) (part ∷ parts)

-- the lines of a script that begins at a place
unfoldable pub lines_of : ℕ → List ℕ → List Line
lines_of at script = lines_in at (slice_split (λ byte. byte == 10) script)

-- of these, the lines that newlines end
abbrev pub ended_in : ℕ → List (List ℕ) → List Line
ended_in at [] = []
ended_in at (text ∷ []) = []
ended_in at (text ∷ part ∷ parts) = record { text = text; end = at + length text + 1 } ∷ ended_in (at + length text + 1) (part ∷ parts)

unfoldable pub ended_lines_of : ℕ → List ℕ → List Line
ended_lines_of at script = ended_in at (slice_split (λ byte. byte == 10) script)

-- a line's text is longer than the longest, or the line ends past byte 2 ^ 24 of the script
abbrev pub IsTooLong : Line → Type 0
IsTooLong line = (LONGEST_LINE < length line.text) ⊎ (2 ^ 24 < line.end)

-- a script that is being read: the line read last, how many were read and where the last of them ends, the bytes taken
-- behind it, and whether the source came to its end
pub record Reading : Type 0 where
  pub line : List ℕ
  pub number : ℕ
  pub end : ℕ
  pub pending : List ℕ
  pub at_end : Bool

-- the lines that are still to be read, with these bytes left in the source
abbrev pub lines_ahead : Reading → List ℕ → List Line
lines_ahead reading rest = lines_of reading.end (reading.pending ++ rest)

-- no byte is a newline
abbrev pub IsOneLine : List ℕ → Type 0
IsOneLine [] = Unit {0}
IsOneLine (byte ∷ text) = ((byte == 10) ≡ false) × IsOneLine text

-- the first newline of some bytes stands at a place
pub record IsFirstLine (at : ℕ) (bytes : List ℕ) : Type 0 where
  pub within : at < length bytes
  pub one_line : IsOneLine (take at bytes)
  pub newline : bytes ≡ take at bytes ++ 10 ∷ drop (at + 1) bytes

-- n more bytes were taken from a source, of which `rest` was left and then `rest_now` is
pub record TakesMore (tells : Type 0) (old new : Reading) (rest rest_now : List ℕ) (n : ℕ) : Type 0 where
  pub bytes : List ℕ
  pub count : length bytes ≡ n
  pub pending : new.pending ≡ old.pending ++ bytes
  pub given : tells → rest ≡ bytes ++ rest_now

-- beside the bytes that were taken and the line that is shown nothing changed
pub record SamePlace (old new : Reading) : Type 0 where
  pub number : new.number ≡ old.number
  pub end : new.end ≡ old.end
  pub at_end : new.at_end ≡ old.at_end

-- the next `text` bytes became the line read last, and its newline, of so many bytes, was left behind
pub record TakesLine (text newline : ℕ) (old new : Reading) : Type 0 where
  pub line : new.line ≡ take text old.pending
  pub number : new.number ≡ old.number + 1
  pub end : new.end ≡ old.end + text + newline
  pub pending : new.pending ≡ drop (text + newline) old.pending
  pub at_end : new.at_end ≡ old.at_end

-- a line of this many bytes with its newline, from a place on, is too long
abbrev pub PastLimits : ℕ → ℕ → ℕ → Type 0
PastLimits at text newline = (LONGEST_LINE < text) ⊎ (2 ^ 24 < at + text + newline)

-- the next line was read: one that its newline ends, or the last of a source that came to its end
pub data ReadsLine (tells : Type 0) (old new : Reading) (rest rest_now : List ℕ) : Type 0 where
  with_newline : (bytes : List ℕ) → IsOneLine new.line → (old.pending ++ bytes ≡ new.line ++ 10 ∷ new.pending) → (new.end ≡ old.end + length new.line + 1)
      → (new.at_end ≡ old.at_end) → (tells → rest ≡ bytes ++ rest_now) → ReadsLine tells old new rest rest_now
  last_one : (bytes : List ℕ) → IsOneLine new.line → 0 < length new.line → (old.pending ++ bytes ≡ new.line) → (new.pending ≡ []) → (new.end ≡ old.end + length new.line)
      → (new.at_end ≡ true) → (tells → rest ≡ bytes) → (tells → rest_now ≡ []) → ReadsLine tells old new rest rest_now

pub record IsNextLine (tells : Type 0) (old new : Reading) (rest rest_now : List ℕ) : Type 0 where
  pub number : new.number ≡ old.number + 1
  pub within : ¬ IsTooLong (record { text = new.line; end = new.end })
  pub read : ReadsLine tells old new rest rest_now

-- there is no next line
pub record IsAtEnd (tells : Type 0) (old new : Reading) (rest rest_now : List ℕ) : Type 0 where
  pub number : new.number ≡ old.number
  pub pending : old.pending ≡ []
  pub nothing_left : tells → (rest ≡ []) × (rest_now ≡ [])

-- the next line is too long
pub record NextIsTooLong (tells : Type 0) (old new : Reading) (rest : List ℕ) : Type 0 where
  pub number : new.number ≡ old.number
  pub too_long : tells → (line : Line) × (more : List Line) × (lines_ahead old rest ≡ line ∷ more) × IsTooLong line

-- the source failed before a newline was taken
pub record HasNoLine (tells : Type 0) (old new : Reading) (rest rest_now : List ℕ) : Type 0 where
  pub number : new.number ≡ old.number
  pub bytes : List ℕ
  pub given : tells → rest ≡ bytes ++ rest_now
  pub one_line : IsOneLine (old.pending ++ bytes)
  pub not_at_end : old.at_end ≡ false

-- no line was read: the bytes that were taken from the source are pending behind those that were, and nothing else moved
pub record StaysAt (tells : Type 0) (old new : Reading) (rest rest_now : List ℕ) : Type 0 where
  pub number : new.number ≡ old.number
  pub end : new.end ≡ old.end
  pub bytes : List ℕ
  pub pending : new.pending ≡ old.pending ++ bytes
  pub given : tells → rest ≡ bytes ++ rest_now
