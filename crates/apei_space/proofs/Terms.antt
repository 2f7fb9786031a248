-- Cases of a place, as proofs name them.
use Rattle.std.specs.Prelude.{ℕ, ◌+◌, nat_le, if◌then◌else◌, Option, Some, None, Result, Ok, Err}

-- where the first of n bytes from a place on stands, if one window holds them all; or the first address that none holds
abbrev pub within : Option (ℕ × ℕ) → ℕ → ℕ → Result ℕ ℕ
within found at n = elim found [ None ↦ Err at | Some location ↦ if nat_le n location.1 then Ok location.0 else Err (at + location.1) ]
