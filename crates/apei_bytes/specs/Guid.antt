-- The text of a GUID.
use Rattle.std.specs.Prelude.{ℕ, ◌+◌, ◌-◌, ◌/◌, ◌%◌, List, [], ◌∷◌, ◌++◌, nat_lt, if◌then◌else◌, slice_index}

-- a digit of sixteen, in lower case
abbrev pub digit : ℕ → ℕ
digit d = if nat_lt d 10 then 48 + d else 97 + d - 10

-- two digits of each byte
abbrev pub digits : List ℕ → List ℕ
digits [] = []
digits (byte ∷ bytes) = digit (byte / 16 % 16) ∷ digit (byte % 16) ∷ digits bytes

-- three numbers, which are stored with the low byte first and shown with the high one first, and the last eight bytes as they stand
unfoldable pub guid_text : List ℕ → List ℕ
guid_text guid =
    let byte = slice_index guid in
    digits (byte 3 ∷ byte 2 ∷ byte 1 ∷ byte 0 ∷ [])
    ++ 45 ∷ digits (byte 5 ∷ byte 4 ∷ [])
    ++ 45 ∷ digits (byte 7 ∷ byte 6 ∷ [])
    ++ 45 ∷ digits (byte 8 ∷ byte 9 ∷ [])
    ++ 45 ∷ digits (byte 10 ∷ byte 11 ∷ byte 12 ∷ byte 13 ∷ byte 14 ∷ byte 15 ∷ [])
