-- Names of numbers and of their bits.
use Rattle.std.specs.Prelude.{ℕ, ◌==◌, ◌&&◌, nat_lt, Bool, true, false, if◌then◌else◌, List, [], ◌∷◌, ◌++◌, Option, Some, None, codes, decimal}
use Rattle.field_lines.specs.Numbers.{has_bit}
use Rattle.field_lines.specs.Texts.{quoted}

abbrev pub name_in : List (ℕ × List ℕ) → ℕ → Option (List ℕ)
name_in [] number = None
name_in (name ∷ names) number = if name.0 == number then Some name.1 else name_in names number

abbrev pub in_brackets : Option (List ℕ) → List ℕ
in_brackets None = []
in_brackets (Some name) = codes " (" ++ name ++ codes ")"

-- a number and its name, where it has one
abbrev pub named : List (ℕ × List ℕ) → ℕ → List ℕ
named names number = decimal number ++ in_brackets (name_in names number)

abbrev pub is_flag : ℕ → ℕ → Bool
is_flag number bit = nat_lt bit 64 && has_bit number bit

-- the names of the bits that are set, each behind a space
abbrev pub flag_words : List (ℕ × List ℕ) → ℕ → List ℕ
flag_words [] number = []
flag_words (name ∷ names) number = (if is_flag number name.0 then codes " " ++ name.1 else []) ++ flag_words names number

abbrev pub name_member : Option (List ℕ) → List ℕ
name_member None = []
name_member (Some name) = codes ",\"name\":" ++ quoted name

-- a number and its name as JSON; the number alone where the standard names none
abbrev pub named_object : List (ℕ × List ℕ) → ℕ → List ℕ
named_object [] number = decimal number
named_object (name ∷ names) number = codes "{\"value\":" ++ decimal number ++ name_member (name_in (name ∷ names) number) ++ codes "}"

abbrev pub comma : Bool → List ℕ
comma true = codes ","
comma false = []

-- the names of the bits that are set, with a comma before each but a first one
abbrev pub flag_list : Bool → List (ℕ × List ℕ) → ℕ → List ℕ
flag_list more [] number = []
flag_list more (name ∷ names) number =
    if is_flag number name.0 then comma more ++ quoted name.1 ++ flag_list true names number else flag_list more names number

abbrev pub flags_object : List (ℕ × List ℕ) → ℕ → List ℕ
flags_object names number = codes "{\"value\":" ++ decimal number ++ codes ",\"names\":[" ++ flag_list false names number ++ codes "]}"
