-- The lines of a script of several error sources, and how each is written.
use Rattle.std.specs.Prelude.{◌≡◌, ℕ, ◌^◌, ◌<◌, List, [], ◌∷◌, ◌++◌, codes, decimal}
use Rattle.script_lines.specs.Parts.{IsPairs}
use Rattle.hub_script.specs.Turns.{AreTurns}

-- a line, with what stands in it
pub data Line : Type 0 where
  blank : Line
  comment : (rest : List ℕ) → Line
  hest : (hex : List ℕ) → Line
  error : (source : ℕ) (hex : List ℕ) → Line
  turns : (pairs : List ℕ) → Line
  heard : (source : ℕ) → Line
  removal : (source at : ℕ) → Line

-- what may stand in a line
abbrev pub IsValid : Line → Type 0
IsValid blank = Unit {0}
IsValid (comment rest) = Unit {0}
IsValid (hest hex) = IsPairs hex
IsValid (error source hex) = (source < 2 ^ 64) × IsPairs hex
IsValid (turns pairs) = AreTurns pairs
IsValid (heard source) = source < 2 ^ 64
IsValid (removal source at) = (source < 2 ^ 64) × (at < 2 ^ 64)

-- how a line is written
abbrev pub text_of : Line → List ℕ
text_of blank = []
text_of (comment rest) = codes "#" ++ rest
text_of (hest hex) = codes "hest " ++ hex
text_of (error source hex) = codes "error " ++ (decimal source ++ 32 ∷ hex)
text_of (turns pairs) = codes "turns " ++ pairs
text_of (heard source) = codes "heard " ++ decimal source
text_of (removal source at) = codes "drop " ++ (decimal source ++ 32 ∷ decimal at)

-- a text is a line of such a script
abbrev pub IsLine : List ℕ → Type 0
IsLine text = (line : Line) × IsValid line × (text ≡ text_of line)
