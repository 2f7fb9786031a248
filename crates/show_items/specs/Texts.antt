-- How words are written: with a colour, and as strings of JSON.
use Rattle.std.specs.Prelude.{ℕ, ◌/◌, ◌%◌, ◌==◌, nat_lt, Bool, true, false, if◌then◌else◌, List, [], ◌∷◌, ◌++◌, codes, decimal, Option, Some, None}
use Rattle.apei_bytes.specs.Guid.{digit}

-- a byte in a JSON string
abbrev pub escaped : ℕ → List ℕ
escaped byte =
    if byte == 34 then codes "\\\""
    else if byte == 92 then codes "\\\\"
    else if nat_lt byte 32 then codes "\\u00" ++ digit (byte / 16) ∷ digit (byte % 16) ∷ []
    else byte ∷ []

abbrev pub all_escaped : List ℕ → List ℕ
all_escaped [] = []
all_escaped (byte ∷ bytes) = escaped byte ++ all_escaped bytes

abbrev pub quoted : List ℕ → List ℕ
quoted text = codes "\"" ++ all_escaped text ++ codes "\""

-- a number, or `null` where there is none
abbrev pub number_json : Option ℕ → List ℕ
number_json None = codes "null"
number_json (Some number) = decimal number

-- how a text is coloured on a terminal: an escape, and what it says
abbrev pub bold : List ℕ
bold = 27 ∷ codes "[1m"

abbrev pub red : List ℕ
red = 27 ∷ codes "[31m"

abbrev pub plain : List ℕ
plain = 27 ∷ codes "[0m"

abbrev pub colored : (is_colored : Bool) → (color text : List ℕ) → List ℕ
colored false color text = text
colored true color text = color ++ text ++ plain
