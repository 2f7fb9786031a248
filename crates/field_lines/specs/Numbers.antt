-- Numbers of a body, and their bits.
use Rattle.std.specs.Prelude.{ℕ, ◌+◌, ◌/◌, ◌%◌, ◌^◌, ◌==◌, nat_lt, Bool, true, if◌then◌else◌, List, take, drop, length, Option, Some, None}
use Rattle.base_model.specs.Bytes.{part, little}

abbrev pub bits_of : ℕ → ℕ → ℕ → ℕ
bits_of number low count = number / 2 ^ low % 2 ^ count

abbrev pub has_bit : ℕ → ℕ → Bool
has_bit number bit = number / 2 ^ bit % 2 == 1

-- the number at a place, where it is all within the body
abbrev pub number_in : List ℕ → ℕ → ℕ → Option ℕ
number_in body at width = if nat_lt (length body) (at + width) then None else Some (little (part body at width))

-- the validation bits: the number in the 8 bytes at a place, or in those that there are
abbrev pub validation : ℕ → List ℕ → ℕ
validation at body = little (take 8 (drop at body))

-- what has no validation bit is always there
abbrev pub is_valid : Option ℕ → ℕ → Bool
is_valid None valid = true
is_valid (Some bit) valid = has_bit valid bit
