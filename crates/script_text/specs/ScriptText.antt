-- What a text is read as: the keywords of script lines, what may follow each, and the lines that are read.
use Rattle.std.specs.Prelude.{◌≡◌, ℕ, ◌⊎◌, List, [], ◌∷◌, codes}
use Rattle.script_lines.specs.Parts.{IsPairs, IsNumber, AreTwoNumbers}
use Rattle.script_text.specs.Turns.{IsTurns}
use Rattle.script_text.specs.ScriptGrammar.{Line, IsValid, text_of, blank, comment, write, read, clear, count, next, dummy, action, table, own_table}
use Rattle.script_text.specs.ScriptGrammar.{shadow_table, error, turns, peek, fatal, bert, heard, reset, power, bridge}
use Rattle.script_text.specs.declared.script_line.ScriptLine.{ScriptLine}
use Rattle.script_text.specs.declared.script_line.ScriptLine.TheVariants.{Blank, Write, Read, Clear, Count, Next, Dummy, Action, Table, TableOwn, TableShadow}
use Rattle.script_text.specs.declared.script_line.ScriptLine.TheVariants.{Error, Turns, Peek, Fatal, Bert, Heard, Reset, Power, Bridge}
use Rattle.script_text.specs.declared.script_line.ScriptWord.{ScriptWord}
use Rattle.script_text.specs.declared.script_line.ScriptWord.TheVariants as keyword

-- a keyword, with the space behind it where something follows
abbrev pub codes_of : ScriptWord → List ℕ
codes_of keyword.Comment = codes "#"
codes_of keyword.Write = codes "write "
codes_of keyword.Read = codes "read "
codes_of keyword.Clear = codes "clear "
codes_of keyword.Count = codes "count"
codes_of keyword.Next = codes "next"
codes_of keyword.Dummy = codes "dummy"
codes_of keyword.Action = codes "action "
codes_of keyword.Table = codes "table "
codes_of keyword.Error = codes "error "
codes_of keyword.Turns = codes "turns "
codes_of keyword.Peek = codes "peek "
codes_of keyword.Fatal = codes "fatal "
codes_of keyword.Bert = codes "bert"
codes_of keyword.Heard = codes "heard"
codes_of keyword.Reset = codes "reset"
codes_of keyword.Power = codes "power"
codes_of keyword.Bridge = codes "bridge "

-- what may follow a keyword: anything behind that of a comment, and nothing behind those that are not named here
abbrev pub Follows : ScriptWord → List ℕ → Type 0
Follows keyword.Comment = λ text. Unit {0}
Follows keyword.Write = IsPairs
Follows keyword.Read = IsNumber 0 0xFFFF_FFFF_FFFF_FFFF
Follows keyword.Clear = IsNumber 0 0xFFFF_FFFF_FFFF_FFFF
Follows keyword.Action = AreTwoNumbers 255 0 0xFFFF_FFFF_FFFF_FFFF
Follows keyword.Table = λ text. IsPairs text ⊎ ((text ≡ codes "own") ⊎ (text ≡ codes "shadow"))
Follows keyword.Error = IsPairs
Follows keyword.Turns = IsTurns
Follows keyword.Peek = AreTwoNumbers 0xFFFF_FFFF_FFFF_FFFF 1 4096
Follows keyword.Fatal = IsPairs
Follows keyword.Bridge = IsNumber 0 0xFFFF_FFFF_FFFF_FFFF
Follows word = λ text. text ≡ []

-- the line that is meant
abbrev pub line_of : ScriptLine → Line
line_of Blank = blank
line_of (Write hex) = write hex.now
line_of (Read id) = read id
line_of (Clear id) = clear id
line_of Count = count
line_of Next = next
line_of Dummy = dummy
line_of (Action code value) = action code value
line_of (Table hex) = table hex.now
line_of TableOwn = own_table
line_of TableShadow = shadow_table
line_of (Error hex) = error hex.now
line_of (Turns letters) = turns letters.now
line_of (Peek at len) = peek at len
line_of (Fatal hex) = fatal hex.now
line_of Bert = bert
line_of Heard = heard
line_of Reset = reset
line_of Power = power
line_of (Bridge id) = bridge id

-- what a text means: the line that is written so; a text that begins with '#' is a blank line
pub data Means (text : List ℕ) : Line → Type 0 where
  AsWritten : (line : Line) → IsValid line × (text ≡ text_of line) → Means text line
  AsComment : (rest : List ℕ) → IsValid (comment rest) × (text ≡ text_of (comment rest)) → Means text blank

-- how each line that is read is written; a blank line is empty or a comment
abbrev pub IsText : List ℕ → ScriptLine → Type 0
IsText text Blank = (IsValid blank × (text ≡ text_of blank)) ⊎ ((rest : List ℕ) × (IsValid (comment rest) × (text ≡ text_of (comment rest))))
IsText text line = IsValid (line_of line) × (text ≡ text_of (line_of line))
