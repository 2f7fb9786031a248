-- What power lost at the medium leaves.
use Rattle.std.specs.Prelude.{◌≡◌, ◌⊎◌, ℕ, List, length, take}
use Rattle.base_model.specs.Bytes.{SameOutside}
use Rattle.erst_port.specs.declared.due.Kind.{Kind}
use Rattle.erst_port.specs.Changes.{IsDueOn}
use Rattle.port_laws.specs.Calls.{Embedded}

-- the medium as it is, or, while a change is due, whatever differs from it in the range of the next part of that change alone
abbrev pub IsLeft : Embedded → List ℕ → Type 0
IsLeft now left =
    (left ≡ now.medium) ⊎ ((kind : Kind) × (at : ℕ) × (bytes : List ℕ) × IsDueOn now.port kind at bytes × SameOutside at (length bytes) now.medium left)

-- the first bytes of a medium, and its size, stay
pub record SameFront (origin : ℕ) (old new : List ℕ) : Type 0 where
  pub front : take origin new ≡ take origin old
  pub size : length new ≡ length old
