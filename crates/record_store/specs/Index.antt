-- What a store keeps of its slots, in step with the image of its flash.
use Rattle.std.specs.Prelude.{◌≡◌, ◌≢◌, ◌⊎◌, ℕ, ◌-◌, ◌<◌, ◌≤◌, true, ◌==◌, ◌&&◌, not, List, ◌∷◌, Option, Some, None, length, take, slice_index, slice_index_or}
use Rattle.std.specs.List.{list_any}
use Rattle.std.specs.VecDeque.{deque_capacity}
use Rattle.record_model.specs.Records.{Entry, parts_of, is_taken, holds}
use Rattle.record_slots.specs.declared.found.Found.{Found}
use Rattle.record_slots.specs.declared.found.SlotOf.{SlotOf}
use Rattle.record_slots.specs.Listed.{AreListed, IsPlaceOf, IsListed, IsIndex, AreSlots, free_slots}
use Rattle.record_slots.specs.Rooms.{HasRoom}

-- the lists are of a form that every look-up needs, whatever the flash holds
pub record IsListing (slots slot_size : ℕ) (found : Found) : Type 0 where
  pub index : IsIndex slots slot_size found.ids.items found.places.items
  pub free : AreSlots slots found.free.items
  pub few : length found.ids.items ≤ slots
  pub room : HasRoom slots found

-- the lists are what a scan of these slots would find: the identifiers with the places of their records, and the free slots
pub record IsListOf (entry : ℕ → Option Entry) (slots : ℕ) (found : Found) : Type 0 where
  pub listed : AreListed entry slots found.ids.items found.places.items
  pub free : found.free.items ≡ free_slots entry slots

-- the slots of the record at a place, the first one first
abbrev pub slots_at : ℕ → SlotOf → List ℕ
slots_at room place = place.slot ∷ take (parts_of room place.len - 1) place.next

-- slot j was free and has a record now, which is newer than all of its identifier; every other slot is as it was
pub record HasOpened (entry other : ℕ → Option Entry) (slots j : ℕ) (opened : Entry) : Type 0 where
  pub same : (k : ℕ) → k ≢ j → other k ≡ entry k
  pub free : entry j ≡ None
  pub here : other j ≡ Some opened
  pub newest : (k : ℕ) (e : Entry) → k < slots → entry k ≡ Some e → e.id ≡ opened.id → e.generation < opened.generation

-- slot j lost its record, whose slots are free; every other slot is as it was
pub record HasLost (entry other : ℕ → Option Entry) (slots j : ℕ) (lost : Entry) : Type 0 where
  pub same : (k : ℕ) → k ≢ j → other k ≡ entry k
  pub was : entry j ≡ Some lost
  pub gone : other j ≡ None
  pub freed : (i : ℕ) → is_taken other slots i ≡ (is_taken entry slots i && not (holds (Some lost) j i))

-- the entry has this identifier, and the generation, the length and the further slots of this place
pub record IsEntryOf (id : ℕ) (place : SlotOf) (e : Entry) : Type 0 where
  pub of_id : e.id ≡ id
  pub generation : e.generation ≡ place.generation
  pub len : length e.body ≡ place.len
  pub further : e.further ≡ take (length e.further) place.next

-- where the record of an identifier is; none where no slot has the identifier
abbrev pub IsPlaceFound : (ℕ → Option Entry) → ℕ → ℕ → Option SlotOf → Type 0
IsPlaceFound entry slots id None = (k : ℕ) (e : Entry) → k < slots → entry k ≡ Some e → e.id ≡ id → ⊥
IsPlaceFound entry slots id (Some place) = IsPlaceOf entry slots id place

-- the place at the index of an identifier; none where the identifier is not listed
abbrev pub IsPlaceAt : List ℕ → List SlotOf → ℕ → Option SlotOf → Type 0
IsPlaceAt ids places id None = IsListed ids id → ⊥
IsPlaceAt ids places id (Some place) =
    (i : ℕ) × (i < length ids) × (slice_index ids i ≡ id) × ((d : SlotOf) → place ≡ slice_index_or places i d)

-- the new list has the numbers of the old one and these, and no others
pub record Gains (old new more : List ℕ) : Type 0 where
  pub each : (k : ℕ) → IsListed new k → IsListed old k ⊎ (list_any (λ n. k == n) more ≡ true)
  pub kept : (k : ℕ) → IsListed old k → IsListed new k
  pub all : (k : ℕ) → list_any (λ n. k == n) more ≡ true → IsListed new k

-- these slots are listed as free too, and nothing else is another
pub record Frees (slots : ℕ) (freed : List ℕ) (old new : Found) : Type 0 where
  pub gains : Gains old.free.items new.free.items freed
  pub free : AreSlots slots new.free.items
  pub room : deque_capacity old.free ≤ deque_capacity new.free
  pub ids : new.ids ≡ old.ids
  pub places : new.places ≡ old.places
  pub looks : new.looks ≡ old.looks
