-- The changes that the medium of a port has to make.
use Rattle.std.specs.Prelude.{◌≡◌, ◌⊎◌, ℕ, ◌+◌, List, Result, Ok, Err}
use Rattle.erst_port.specs.declared.due.Kind.{Kind}
use Rattle.erst_port.specs.Dues.{IsDue}
use Rattle.erst_port.specs.Parts.{IsPart, next_made}
use Rattle.erst_port.specs.declared.errors.NotDue.{NotDue}
use Rattle.erst_port.specs.PortState.{PortState, flash_of, IsMade}

-- the next part of the next change that the medium has to make, at its place in the medium: the flash stands behind the first bytes of it
abbrev pub IsDueOn : PortState → Kind → (at : ℕ) → List ℕ → Type 0
IsDueOn state kind at bytes =
    (place : ℕ) × (whole : List ℕ) × IsDue (flash_of state).sector_size (flash_of state).told state.made.changes kind place whole
    × IsPart (state.origin + place) whole state.made.bytes kind at bytes

-- the port behind it
abbrev pub noted : PortState → PortState
noted state = record state { made = next_made state.origin (flash_of state).told state.made }

-- it was made, where there is one
abbrev pub NotesMade : PortState → Result (Unit {0}) NotDue → PortState → Type 0
NotesMade old answer new = (IsMade old × (answer ≡ Err (record {})) × (new ≡ old)) ⊎ ((IsMade old → ⊥) × (answer ≡ Ok tt) × (new ≡ noted old))
