-- Upright slots that are not the first slot of their identifier's record.
use Rattle.std.specs.Prelude.{◌≡◌, ◌≢◌, ℕ, zero, suc, ◌-◌, ◌<◌, Bool, true, false, ◌==◌, ◌&&◌, ◌||◌, not, nat_lt, List, Option, Some, None}
use Rattle.record_model.specs.Slots.{Slot, slot_at, is_up}
use Rattle.record_model.specs.Entries.{Entry, entry_of, entry_at}
use Rattle.record_model.specs.Selection.{IsChosen}
use Rattle.record_model.specs.Free.{count_below}

-- only first slots of records are upright: each upright slot has the record of its identifier
abbrev pub OnlyFirstUp : ℕ → ℕ → List ℕ → Type 0
OnlyFirstUp slot_size slots image =
    let slot = slot_at slot_size image in
    let room = slot_size - 64 in
    (k : ℕ) → k < slots → is_up room slots (slot k) ≡ true → (e : Entry) × IsChosen (entry_of room slots slot) slots k e

-- the same but for a spare slot: at most one is a second copy, or a record that is not whole
pub record HasNearlyOnlyFirst (room slots : ℕ) (slot : ℕ → Slot) : Type 0 where
  pub spare : ℕ
  pub each : (k : ℕ) → k < slots → k ≢ spare → is_up room slots (slot k) ≡ true → (e : Entry) × IsChosen (entry_of room slots slot) slots k e

-- the same of an image
abbrev pub NearlyOnlyFirstUp : ℕ → ℕ → List ℕ → Type 0
NearlyOnlyFirstUp slot_size slots image = HasNearlyOnlyFirst (slot_size - 64) slots (slot_at slot_size image)

-- the record of slot j goes before that of slot k where they are of one identifier, and it is newer, or as new in a lower slot
abbrev pub goes_before : Option Entry → ℕ → Entry → ℕ → Bool
goes_before None j entry k = false
goes_before (Some other) j entry k =
    other.id == entry.id && (nat_lt entry.generation other.generation || (entry.generation == other.generation && nat_lt j k))

-- whether that of one of the first n slots does
unfoldable pub is_behind : (ℕ → Option Entry) → ℕ → Entry → ℕ → Bool
is_behind entry zero this k = false
is_behind entry (suc n) this k = goes_before (entry n) n this k || is_behind entry n this k

-- whether slot k is the first slot of its identifier's record: that of none of the first n slots goes before its own
unfoldable pub is_first : (ℕ → Option Entry) → ℕ → ℕ → Bool
is_first entry n k = elim (entry k) [ None ↦ false | Some this ↦ not (is_behind entry n this k) ]

-- how many upright slots are not the first slot of their identifier's record
unfoldable pub second_copies : ℕ → ℕ → List ℕ → ℕ
second_copies slot_size slots image =
    count_below (λ k. is_up (slot_size - 64) slots (slot_at slot_size image k) && not (is_first (entry_at slot_size slots image) slots k)) slots
