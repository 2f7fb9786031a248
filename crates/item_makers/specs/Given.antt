-- Fields that may be left out: zeros stand for them, and a validation bit says whether they were given.
use Rattle.std.specs.Prelude.{ℕ, Bool, List, Option, Some, None, if◌then◌else◌}
use Rattle.base_model.specs.Bytes.{zeros}

abbrev pub bytes_given : ℕ → Option (List ℕ) → List ℕ
bytes_given size None = zeros size
bytes_given size (Some bytes) = bytes

abbrev pub number_given : Option ℕ → ℕ
number_given None = 0
number_given (Some number) = number

abbrev pub bit_if : Bool → ℕ → ℕ
bit_if given bit = if given then bit else 0
