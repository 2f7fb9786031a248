-- What a text is read as where it is checked.
use Rattle.std.specs.Prelude.{◌≡◌, ℕ, ◌⊎◌, List}
use Rattle.script_text.specs.CheckGrammar.{CheckedLine, IsValidCheck, check_text_of, blank, comment, erst, hest, bert, one_record, block}
use Rattle.script_text.specs.declared.check_line.CheckLine.{CheckLine}
use Rattle.script_text.specs.declared.check_line.CheckLine.TheVariants.{Blank, Erst, Hest, Bert, Record, Block}

-- the line that is meant
abbrev pub checked_line_of : CheckLine → CheckedLine
checked_line_of Blank = blank
checked_line_of (Erst hex) = erst hex.now
checked_line_of (Hest hex) = hest hex.now
checked_line_of (Bert hex) = bert hex.now
checked_line_of (Record hex) = one_record hex.now
checked_line_of (Block hex) = block hex.now

-- a text is this line; a blank line is empty or a comment
abbrev pub IsCheckText : List ℕ → CheckLine → Type 0
IsCheckText text Blank = (IsValidCheck blank × (text ≡ check_text_of blank)) ⊎ ((rest : List ℕ) × (IsValidCheck (comment rest) × (text ≡ check_text_of (comment rest))))
IsCheckText text line = IsValidCheck (checked_line_of line) × (text ≡ check_text_of (checked_line_of line))
