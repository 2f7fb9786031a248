-- What was seen of the slots.
use Rattle.std.specs.Prelude.{◌≡◌, ℕ, ◌<◌, Bool, List, slice_index_or}
use Rattle.record_model.specs.Records.{Slot}
use Rattle.record_slots.specs.Slots.{numbers_of}
use Rattle.record_slots.specs.declared.found.Look.{Look}

-- the head and the tail mark of a slot
pub record IsSeen (slot : Slot) (look : Look) : Type 0 where
  pub head : numbers_of look.head ≡ slot.head
  pub tail : look.tail ≡ slot.tail

-- those of the first n slots, one after another
abbrev pub AreSeen : (ℕ → Slot) → ℕ → List Look → Type 0
AreSeen slot n looks = (k : ℕ) (d : Look) → k < n → IsSeen (slot k) (slice_index_or looks k d)

-- each of the first n marks is set where the number of its slot passes the test
abbrev pub AreMarked : ℕ → (ℕ → Bool) → List Bool → Type 0
AreMarked n test marks = (k : ℕ) (d : Bool) → k < n → slice_index_or marks k d ≡ test k
