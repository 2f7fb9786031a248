-- Lines of a script that were read and played one after another: which they are, by the end of the script, and which of them was left in part.
use Rattle.std.specs.Prelude.{◌≡◌, ℕ, List, [], ◌∷◌, ◌++◌, All}
use Rattle.std.specs.List.{AllZip}
use Rattle.script_lines.specs.Causes.{Fault, OfSink}
use Rattle.script_lines.specs.Columns.{BreaksAt}
use Rattle.script_lines.specs.Lines.{Line, lines_of, IsTooLong}
use Rattle.script_lines.specs.Reads.{StandsAt, AreTaken}
use Rattle.script_lines.specs.declared.ending.ScriptEnd.{ScriptEnd}
use Rattle.script_lines.specs.declared.ending.ScriptEnd.TheVariants.{Done, BadLine, SourceFault, SinkFault, TooLong, Memory}

-- a line is within the lengths, and this is so of its text
pub record IsLineOf (Is : List ℕ → Type 0) (line : Line) : Type 0 where
  pub within : IsTooLong line → ⊥
  pub is : Is line.text

-- this is so of the line of a script that stands behind some, with this number
pub record StopsAt (Is : Line → Type 0) (script : List ℕ) (before : List Line) (number : ℕ) : Type 0 where
  pub line : Line
  pub stands : StandsAt script before number line
  pub is : Is line

-- Which lines of a script were read and played, by the end. They are all of them; those before one that is none of the grammar, from a column on, is
-- too long, or wants memory that there is not; those whose newline was taken; or, where the sink failed in the last of them, some from the first on
abbrev pub EndsBehind : (List ℕ → Type 0) → (List ℕ → Type 0) → List ℕ → List ℕ → List Line → ScriptEnd → Type 0
EndsBehind Is WantsMemory script rest lines Done = (lines_of 0 script ≡ lines) × (rest ≡ [])
EndsBehind Is WantsMemory script rest lines (BadLine number column) = StopsAt (IsLineOf (λ text. BreaksAt Is text column)) script lines number
EndsBehind Is WantsMemory script rest lines SourceFault = AreTaken script rest lines
EndsBehind Is WantsMemory script rest lines SinkFault = (behind : List Line) × (lines_of 0 script ≡ lines ++ behind)
EndsBehind Is WantsMemory script rest lines (TooLong number) = StopsAt IsTooLong script lines number
EndsBehind Is WantsMemory script rest lines Memory = (number : ℕ) × StopsAt (IsLineOf WantsMemory) script lines number

-- the lines before the last were played, each as what its text is read as, and of the last this was made
pub record PlaysInPart {P : Type 0} (Reads : List ℕ → P → Type 0) (Made : List P → List ℕ → P → Type 0) (lines : List Line) (played : List P) : Type 0 where
  pub before : List Line
  pub line : Line
  pub lines_are : lines ≡ before ++ line ∷ []
  pub first : List P
  pub last : P
  pub played_is : played ≡ first ++ last ∷ []
  pub are : AllZip (λ each one. IsLineOf (λ text. Reads text one) each) before first
  pub made : IsLineOf (λ text. Made first text last) line

-- the lines were played, each as what its text is read as, and written whole; but where the sink failed, the last in part
abbrev pub PlaysByFault : {P : Type 0} → (List ℕ → P → Type 0) → (List P → List ℕ → P → Type 0) → (List P → Type 0) → List Line → List P → Fault → Type 0
PlaysByFault Reads Made Written lines played OfSink = PlaysInPart Reads Made lines played
PlaysByFault Reads Made Written lines played fault = AllZip (λ line one. IsLineOf (λ text. Reads text one) line) lines played × Written played
