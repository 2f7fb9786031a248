-- The memory of what a scan finds.
use Rattle.std.specs.Prelude.{◌≡◌, ℕ, ◌≤◌, [], vec_capacity}
use Rattle.std.specs.VecDeque.{deque_capacity}
use Rattle.record_slots.specs.declared.found.Found.{Found}

-- nothing is listed
pub record IsEmpty (found : Found) : Type 0 where
  pub ids : found.ids.items ≡ []
  pub places : found.places.items ≡ []
  pub free : found.free.items ≡ []
  pub looks : found.looks.items ≡ []

-- each of the four lists has memory for this many slots
pub record HasRoom (slots : ℕ) (found : Found) : Type 0 where
  pub ids : slots ≤ vec_capacity found.ids
  pub places : slots ≤ vec_capacity found.places
  pub free : slots ≤ deque_capacity found.free
  pub looks : slots ≤ vec_capacity found.looks

-- the memory is the same
pub record SameRoom (old new : Found) : Type 0 where
  pub ids : vec_capacity new.ids ≡ vec_capacity old.ids
  pub places : vec_capacity new.places ≡ vec_capacity old.places
  pub free : deque_capacity new.free ≡ deque_capacity old.free
  pub looks : vec_capacity new.looks ≡ vec_capacity old.looks
