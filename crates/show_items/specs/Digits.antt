-- Digits of sixteen.
use Rattle.std.specs.Prelude.{ℕ, nat_lt, if◌then◌else◌, Option, Some, None}
use Rattle.std.specs.Char.{digit_value}

abbrev pub value_of : ℕ → Option ℕ
value_of digit = if nat_lt (digit_value digit) 16 then Some (digit_value digit) else None
