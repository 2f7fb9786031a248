-- A field of a structure, as a standard's table has it.
use Rattle.std.specs.Prelude.{ℕ, ◌+◌, ◌==◌, ◌&&◌, nat_lt, Bool, true, List, [], ◌∷◌, Option, None}

-- how what stands in a field is shown
pub data Shown : Type 0 where
  decimal_number : Shown
  hexadecimal : Shown
  guid : Shown
  text : Shown
  one_of : List (ℕ × List ℕ) → Shown
  flags : List (ℕ × List ℕ) → Shown
  bits : ℕ → ℕ → List (ℕ × List ℕ) → Shown
  stamp : Shown
  seconds : Shown
  register : Shown
  digits_of_bytes : Shown
  all_bytes : Shown
  all_lines : Shown

-- where a field stands, how long it is, its validation bit, its name, and how it is shown
pub record Field : Type 0 where
  pub at : ℕ
  pub width : ℕ
  pub bit : Option ℕ
  pub name : List ℕ
  pub shown : Shown

abbrev pub field : ℕ → ℕ → Option ℕ → List ℕ → Shown → Field
field at width bit name shown = record { at = at; width = width; bit = bit; name = name; shown = shown }

-- registers of so many bytes each, one behind another
abbrev pub register_fields : (width at : ℕ) → List (List ℕ) → List Field
register_fields width at [] = []
register_fields width at (name ∷ names) = field at width None name hexadecimal ∷ register_fields width (at + width) names

-- a number has at most 8 bytes, a time 8, a GUID 16 and a register 12
abbrev pub fits : Shown → ℕ → Bool
fits decimal_number width = nat_lt width 9
fits hexadecimal width = true
fits guid width = width == 16
fits text width = true
fits (one_of names) width = nat_lt width 9
fits (flags names) width = nat_lt width 9
fits (bits low count names) width = nat_lt width 9 && nat_lt low 64 && nat_lt count 64
fits stamp width = width == 8
fits seconds width = nat_lt width 9
fits register width = width == 12
fits digits_of_bytes width = true
fits all_bytes width = true
fits all_lines width = true

abbrev pub is_sound : Field → Bool
is_sound field = fits field.shown field.width && nat_lt (field.at + field.width) 65536

abbrev pub are_sound : List Field → Bool
are_sound [] = true
are_sound (field ∷ fields) = is_sound field && are_sound fields
