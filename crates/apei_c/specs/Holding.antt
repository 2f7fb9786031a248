-- Calls on a handle, whatever it holds.
use Rattle.std.specs.Prelude.{◌≡◌, ◌⊎◌, ℕ, Option, Some, None}
use Rattle.apei_c.specs.declared.status.Status.{Status}
use Rattle.apei_c.specs.declared.status.Status.TheVariants.{Done, Closed, Open}
use Rattle.apei_c.specs.Statuses.{number_of}

-- a call on what a handle holds: one that holds nothing says so, and holds nothing behind it either
abbrev pub OnHeld : {Held : Type 0} → Option Held → (number : ℕ) → Option Held → (Held → Status → Held → Type 0) → Type 0
OnHeld None number new Call = (number ≡ number_of Closed) × (new ≡ None)
OnHeld {Held} (Some old) number new Call = (held : Held) × (status : Status) × (new ≡ Some held) × (number ≡ number_of status) × Call old status held

-- a look at it, which leaves it as it is: a handle that holds nothing says so, and what the caller handed in is left as it was
abbrev pub LooksAtHeld : {Held : Type 0} → Option Held → (number : ℕ) → Option Held → (untouched : Type 0) → (Held → Status → Type 0) → Type 0
LooksAtHeld None number new untouched Answer = (number ≡ number_of Closed) × (new ≡ None) × untouched
LooksAtHeld (Some held) number new untouched Answer = (status : Status) × (new ≡ Some held) × (number ≡ number_of status) × Answer held status

-- a handle that holds something keeps it, and what the caller handed in is left as it was; one that holds nothing gets something, or stays so
abbrev pub GetsHeld : {Held : Type 0} → (untouched : Type 0) → (Held → Type 0) → (Status → Type 0) → Option Held → (number : ℕ) → Option Held → Type 0
GetsHeld untouched Opened Refused (Some old) number new = (number ≡ number_of Open) × (new ≡ Some old) × untouched
GetsHeld {Held} untouched Opened Refused None number new =
    ((number ≡ number_of Done) × ((held : Held) × (new ≡ Some held) × Opened held))
    ⊎ (((status : Status) × (number ≡ number_of status) × Refused status) × (new ≡ None))

abbrev pub LosesHeld : {Held : Type 0} → Option Held → (number : ℕ) → Option Held → Type 0
LosesHeld (Some old) number new = (number ≡ number_of Done) × (new ≡ None)
LosesHeld None number new = (number ≡ number_of Closed) × (new ≡ None)
