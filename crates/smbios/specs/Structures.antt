-- The structures of a table (DSP0134, 6.1.2 and 6.1.3).
use Rattle.std.specs.Prelude.{◌≡◌, ℕ, ◌+◌, ◌<◌, ◌≤◌, List, ◌++◌, length, slice_index, Bool, nat_le, ◌&&◌, ◌==◌}
use Rattle.base_model.specs.Bytes.{number_at}

-- a structure: its formatted area, and its texts with the two zero bytes at their end
pub record Pair : Type 0 where
  pub formatted : List ℕ
  pub strings : List ℕ

abbrev pub pair : List ℕ → List ℕ → Pair
pair formatted strings = record { formatted = formatted; strings = strings }

abbrev pub bytes_of : Pair → List ℕ
bytes_of one = one.formatted ++ one.strings

abbrev pub kind_of : Pair → ℕ
kind_of one = number_at one.formatted 0 1

-- two bytes of the formatted area are there, and are this number
abbrev pub has_number : Pair → ℕ → ℕ → Bool
has_number one at number = nat_le (at + 2) (length one.formatted) && (number_at one.formatted at 2 == number)

-- two zero bytes stand at a place
pub record AreZeros (bytes : List ℕ) (at : ℕ) : Type 0 where
  pub within : at + 2 ≤ length bytes
  pub first : slice_index bytes at ≡ 0
  pub second : slice_index bytes (at + 1) ≡ 0

-- the last two bytes are zeros, and no two before
abbrev pub EndsInZeros : List ℕ → Type 0
EndsInZeros strings = (at : ℕ) × (length strings ≡ at + 2) × AreZeros strings at × ((k : ℕ) → k < at → ¬ AreZeros strings k)

-- no two zero bytes stand in a row
abbrev pub HasNoZeros : List ℕ → Type 0
HasNoZeros bytes = (k : ℕ) → ¬ AreZeros bytes k

-- the second byte of a formatted area is its length
pub record IsStructure (one : Pair) : Type 0 where
  pub head : 4 ≤ length one.formatted
  pub len : number_at one.formatted 1 1 ≡ length one.formatted
  pub ends : EndsInZeros one.strings

-- no structure stands first
abbrev pub BeginsNone : List ℕ → Type 0
BeginsNone bytes = (one : Pair) → (rest : List ℕ) → IsStructure one → ¬ (bytes ≡ bytes_of one ++ rest)

-- a formatted area of this length stands first
pub record IsFormatted (bytes : List ℕ) (len : ℕ) : Type 0 where
  pub head : 4 ≤ len
  pub within : len ≤ length bytes
  pub told : number_at bytes 1 1 ≡ len
