-- Digits and texts.
use Rattle.std.specs.Prelude.{ℕ, ◌/◌, ◌%◌, ◌==◌, ◌||◌, nat_lt, if◌then◌else◌, List, [], ◌∷◌, ◌++◌, codes}
use Rattle.apei_bytes.specs.Guid.{digit}

-- two digits of sixteen for each byte, those of the last byte first
abbrev pub high_first : List ℕ → List ℕ
high_first [] = []
high_first (byte ∷ bytes) = high_first bytes ++ digit (byte / 16) ∷ digit (byte % 16) ∷ []

-- a dot for what can't be printed
abbrev pub shown_byte : ℕ → ℕ
shown_byte byte = if nat_lt byte 32 || nat_lt 126 byte then 46 else byte

-- the text before the first zero
abbrev pub text_of : List ℕ → List ℕ
text_of [] = []
text_of (byte ∷ bytes) = if byte == 0 then [] else shown_byte byte ∷ text_of bytes

-- a new line, where there is more
abbrev pub line_break : List ℕ → List ℕ
line_break [] = []
line_break (byte ∷ bytes) = codes "\n    "

abbrev pub lines_text : List ℕ → List ℕ
lines_text [] = []
lines_text (byte ∷ bytes) = (if byte == 10 then line_break bytes else shown_byte byte ∷ []) ++ lines_text bytes

-- a byte in a JSON string, by its number where it can't stand for itself
abbrev pub escaped : ℕ → List ℕ
escaped byte =
    if nat_lt byte 32 || nat_lt 126 byte || byte == 34 || byte == 92 then codes "\\u00" ++ digit (byte / 16) ∷ digit (byte % 16) ∷ []
    else byte ∷ []

abbrev pub escaped_lines : List ℕ → List ℕ
escaped_lines [] = []
escaped_lines (byte ∷ bytes) = escaped byte ++ escaped_lines bytes

-- the text before the first zero
abbrev pub escaped_text : List ℕ → List ℕ
escaped_text [] = []
escaped_text (byte ∷ bytes) = if byte == 0 then [] else escaped byte ++ escaped_text bytes

abbrev pub quoted : List ℕ → List ℕ
quoted text = codes "\"" ++ text ++ codes "\""
