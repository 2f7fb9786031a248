-- Several sources, each with its guest, over one memory.
use Rattle.std.specs.Prelude.{◌≡◌, ◌≢◌, ℕ, List, set, Some, slice_get, false}
use Rattle.ghes_port.specs.Machine.{SourceState}
use Rattle.ghes_port.specs.Setups.{maps_meet}
use Rattle.ghes_port.specs.Readers.{Reader, World, Happens, Elsewhere, Leads, SameParts, IsFirst}

-- a source and its guest, as a world without its memory
pub record Side : Type 0 where
  pub source : SourceState
  pub reader : Reader
  pub taken : List (List ℕ)
  pub submitted : List (List ℕ)
  pub notices : ℕ

pub record Shared : Type 0 where
  pub sides : List Side
  pub memory : ℕ → ℕ

abbrev pub world_of : (ℕ → ℕ) → Side → World
world_of memory side =
    record { source = side.source; memory = memory; reader = side.reader; taken = side.taken; submitted = side.submitted; notices = side.notices }

abbrev pub side_of : World → Side
side_of w = record { source = w.source; reader = w.reader; taken = w.taken; submitted = w.submitted; notices = w.notices }

-- it is the source or its guest that does it, or a block is submitted
abbrev pub IsOwn : (old new : World) → Happens old new → Type 0
IsOwn old new (Elsewhere memory same is) = ⊥
IsOwn old new _ = Unit {0}

-- something happens to one of them, over the memory that all have; or somebody writes elsewhere than in the parts of any
pub data Befalls (old new : Shared) : Type 0 where
  OneOf : (i : ℕ) (side : Side) (next : World) (happens : Happens (world_of old.memory side) next) → slice_get old.sides i ≡ Some side
      → IsOwn (world_of old.memory side) next happens → new ≡ record { sides = set old.sides i (side_of next); memory = next.memory } → Befalls old new
  NoneOf : (memory : ℕ → ℕ) → ((i : ℕ) (side : Side) → slice_get old.sides i ≡ Some side → SameParts side.source.map old.memory memory)
      → new ≡ record old { memory = memory } → Befalls old new

-- some things, one after another
pub data Passes (first : Shared) : Shared → Type 0 where
  Nothing : Passes first first
  After : (between last : Shared) → Passes first between → Befalls between last → Passes first last

-- each source is before its first access, and no two have a byte in common
pub record AreFirst (first : Shared) : Type 0 where
  pub each : (i : ℕ) (side : Side) → slice_get first.sides i ≡ Some side → IsFirst (world_of first.memory side)
  pub apart : (i j : ℕ) (one other : Side) → i ≢ j → slice_get first.sides i ≡ Some one → slice_get first.sides j ≡ Some other
      → maps_meet one.source.map other.source.map ≡ false

-- what happened to one of them is what may happen to it alone
pub record IsAlone (first last : Shared) (i : ℕ) (side : Side) : Type 0 where
  pub before : Side
  pub is : slice_get first.sides i ≡ Some before
  pub leads : Leads (world_of first.memory before) (world_of last.memory side)
