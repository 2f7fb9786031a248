-- The lines that are checked, and how each is written.
use Rattle.std.specs.Prelude.{◌≡◌, ℕ, List, [], ◌++◌, codes}
use Rattle.script_lines.specs.Parts.{IsPairs}

-- a line, with what stands in it
pub data CheckedLine : Type 0 where
  blank : CheckedLine
  comment : (rest : List ℕ) → CheckedLine
  erst : (hex : List ℕ) → CheckedLine
  hest : (hex : List ℕ) → CheckedLine
  bert : (hex : List ℕ) → CheckedLine
  one_record : (hex : List ℕ) → CheckedLine
  block : (hex : List ℕ) → CheckedLine

-- what may stand in a line
abbrev pub IsValidCheck : CheckedLine → Type 0
IsValidCheck blank = Unit {0}
IsValidCheck (comment rest) = Unit {0}
IsValidCheck (erst hex) = IsPairs hex
IsValidCheck (hest hex) = IsPairs hex
IsValidCheck (bert hex) = IsPairs hex
IsValidCheck (one_record hex) = IsPairs hex
IsValidCheck (block hex) = IsPairs hex

-- how a line is written
abbrev pub check_text_of : CheckedLine → List ℕ
check_text_of blank = []
check_text_of (comment rest) = codes "#" ++ rest
check_text_of (erst hex) = codes "erst " ++ hex
check_text_of (hest hex) = codes "hest " ++ hex
check_text_of (bert hex) = codes "bert " ++ hex
check_text_of (one_record hex) = codes "record " ++ hex
check_text_of (block hex) = codes "block " ++ hex

-- a text is a line that is checked
abbrev pub IsCheckLine : List ℕ → Type 0
IsCheckLine text = (line : CheckedLine) × IsValidCheck line × (text ≡ check_text_of line)
