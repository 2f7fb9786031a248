-- What a text is read as.
use Rattle.std.specs.Prelude.{◌≡◌, ℕ, ◌⊎◌, List}
use Rattle.hub_script.specs.HubGrammar.{Line, IsValid, text_of, blank, comment, hest, error, turns, heard, removal}
use Rattle.hub_script.specs.declared.hub_line.HubLine.{HubLine}
use Rattle.hub_script.specs.declared.hub_line.HubLine.TheVariants.{Blank, Hest, Error, Turns, Heard, Drop}

-- the line that is meant
abbrev pub line_of : HubLine → Line
line_of Blank = blank
line_of (Hest hex) = hest hex.now
line_of (Error source hex) = error source hex.now
line_of (Turns pairs) = turns pairs.now
line_of (Heard source) = heard source
line_of (Drop source at) = removal source at

-- a text is written so
abbrev pub IsWritten : List ℕ → Line → Type 0
IsWritten text line = IsValid line × (text ≡ text_of line)

-- a text is this line; a blank line is empty or a comment
abbrev pub IsText : List ℕ → HubLine → Type 0
IsText text Blank = IsWritten text blank ⊎ ((rest : List ℕ) × IsWritten text (comment rest))
IsText text line = IsWritten text (line_of line)
