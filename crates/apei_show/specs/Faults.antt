-- Calls of the system that fail.
use Rattle.std.specs.Prelude.{◌≡◌, ℕ, ℤ, ◌+◌, ◌-◌, ◌^◌, min, Option, Some, Result, MatchResult}
use Rattle.std.specs.IoError.{error_kind, raw_os_error}
use Rattle.std.specs.declared.io.Error.{Error}
use Rattle.std.specs.declared.io.ErrorKind.{ErrorKind}
use Rattle.base_model.specs.Faults.{Rose}

-- what the system says of an error: its kind, and its number, where it has one
abbrev pub Said : Type 0
Said = ErrorKind × Option ℤ

abbrev pub said_of : Error → Said
said_of error = (error_kind error, raw_os_error error)

-- how many calls failed so far, and what was said of the last one
pub record Faults : Type 0 where
  pub count : ℕ
  pub last : Option Said

-- a call failed, and this was said of it
pub record Failed (before after : Faults) (error : Error) : Type 0 where
  pub rose : Rose before.count after.count
  pub said : after.last ≡ Some (said_of error)

-- an error is that of a call which failed, and a success leaves no failure behind
abbrev pub HasReason : {T : Type 0} → (before after : Faults) → Result T Error → Type 0
HasReason before after result = MatchResult result (λ _. after ≡ before) (Failed before after)

-- a count stops at its last value
abbrev pub one_more : ℕ → ℕ
one_more count = min (count + 1) (2 ^ 64 - 1)
