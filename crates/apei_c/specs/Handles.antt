-- Calls on a handle.
use Rattle.std.specs.Prelude.{◌≡◌, ℕ, Option, Some, None}
use Rattle.erst_port.specs.PortState.{PortState}
use Rattle.apei_c.specs.declared.status.Status.{Status}
use Rattle.apei_c.specs.declared.status.Status.TheVariants.{Closed}
use Rattle.apei_c.specs.Statuses.{number_of}

-- a call on the port of a handle: a handle without one says so, and has none behind it either
abbrev pub OnPort : Option PortState → (number : ℕ) → Option PortState → (PortState → Status → PortState → Type 0) → Type 0
OnPort None number new Call = (number ≡ number_of Closed) × (new ≡ None)
OnPort (Some old) number new Call = (port : PortState) × (status : Status) × (new ≡ Some port) × (number ≡ number_of status) × Call old status port

-- a look at the port of a handle, which leaves the port as it is: a handle without one says so, and what the caller handed in is left as it was
abbrev pub LooksAt : Option PortState → (number : ℕ) → Option PortState → (untouched : Type 0) → (PortState → Status → Type 0) → Type 0
LooksAt None number new untouched Answer = (number ≡ number_of Closed) × (new ≡ None) × untouched
LooksAt (Some port) number new untouched Answer = (status : Status) × (new ≡ Some port) × (number ≡ number_of status) × Answer port status
