-- When a failure may be answered: an object of the outside counts its faults, and the count never falls.
use Rattle.std.specs.Prelude.{◌≡◌, ℕ, ◌^◌, ◌-◌, ◌<◌, ◌≤◌, ◌⊎◌, Result, OnOk, OnErr}

-- a count of faults is greater than it was, or stands at its last value
abbrev pub Rose : ℕ → ℕ → Type 0
Rose before after = (before < after) ⊎ (after ≡ 2 ^ 64 - 1)

-- a failure is answered only where the count of faults rose, and a success leaves it
pub record HasCause {T E : Type 0} (before after : ℕ) (result : Result T E) : Type 0 where
  pub never_falls : before ≤ after
  pub ok : OnOk result (after ≡ before)
  pub err : OnErr result (Rose before after)
