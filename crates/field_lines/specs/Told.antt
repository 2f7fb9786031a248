-- What the rows of a structure tell by their names.
use Rattle.std.specs.Prelude.{ℕ, ◌&&◌, nat_lt, Bool, true, false, if◌then◌else◌, List, [], ◌∷◌, length, map, Option, Some, None, bytes_eq}
use Rattle.base_model.specs.Bytes.{part}
use Rattle.field_lines.specs.Numbers.{number_in, bits_of, validation}
use Rattle.field_lines.specs.Fields.{Field, Shown, decimal_number, hexadecimal, guid, text, one_of, flags, bits, stamp, seconds, register, digits_of_bytes, all_bytes, all_lines}
use Rattle.field_lines.specs.Layouts.{Structure}
use Rattle.field_lines.specs.Walks.{is_shown}
use Rattle.field_lines.specs.Code.{name_of}
use Rattle.field_lines.specs.declared.told.NamedNumber.{NamedNumber}

-- the first row of a name that is shown of a body of so many bytes
abbrev pub row_in : (valid len : ℕ) → (name : List ℕ) → List Field → Option Field
row_in valid len name [] = None
row_in valid len name (row ∷ rows) = if bytes_eq row.name name && is_shown valid len row then Some row else row_in valid len name rows

abbrev pub row_of : Structure → (name body : List ℕ) → Option Field
row_of structure name body = row_in (validation structure.valid_at body) (length body) name structure.fields

-- the number that a row shows, and the names that it has for numbers or bits
abbrev pub number_shown : Shown → ℕ → Option (ℕ × List (ℕ × List ℕ))
number_shown decimal_number number = Some (number, [])
number_shown hexadecimal number = Some (number, [])
number_shown guid number = None
number_shown text number = None
number_shown (one_of names) number = Some (number, names)
number_shown (flags names) number = Some (number, names)
number_shown (bits low count names) number = if nat_lt low 64 && nat_lt count 64 then Some (bits_of number low count, names) else None
number_shown stamp number = None
number_shown seconds number = Some (number, [])
number_shown register number = None
number_shown digits_of_bytes number = None
number_shown all_bytes number = None
number_shown all_lines number = None

abbrev pub shown_if_there : Shown → Option ℕ → Option (ℕ × List (ℕ × List ℕ))
shown_if_there shown None = None
shown_if_there shown (Some number) = number_shown shown number

-- a number has at most 8 bytes
abbrev pub number_by : Option Field → (body : List ℕ) → Option (ℕ × List (ℕ × List ℕ))
number_by None body = None
number_by (Some row) body = if nat_lt 8 row.width then None else shown_if_there row.shown (number_in body row.at row.width)

abbrev pub number_told : Structure → (name body : List ℕ) → Option (ℕ × List (ℕ × List ℕ))
number_told structure name body = number_by (row_of structure name body) body

abbrev pub is_text : Shown → Bool
is_text decimal_number = false
is_text hexadecimal = false
is_text guid = false
is_text text = true
is_text (one_of names) = false
is_text (flags names) = false
is_text (bits low count names) = false
is_text stamp = false
is_text seconds = false
is_text register = false
is_text digits_of_bytes = false
is_text all_bytes = false
is_text all_lines = false

-- the bytes of a row that shows a text
abbrev pub text_by : Option Field → (body : List ℕ) → List ℕ
text_by None body = []
text_by (Some row) body = if is_text row.shown then part body row.at row.width else []

abbrev pub text_told : Structure → (name body : List ℕ) → List ℕ
text_told structure name body = text_by (row_of structure name body) body

abbrev pub names_told : NamedNumber → ℕ × List (ℕ × List ℕ)
names_told found = (found.number, map name_of found.names.now)
