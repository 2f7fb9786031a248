-- What is seen of a store: its flash, how it divides the flash into slots, whether it has to look at them again, and the
-- write or clear that it has begun.
use Rattle.std.specs.Prelude.{◌≡◌, ℕ, ◌+◌, ◌≤◌, ◌⊎◌, Bool, true, false, ◌==◌, if◌then◌else◌, List, [], ◌∷◌, length, take}
use Rattle.flash_model.specs.declared.geometry.Geometry.{Geometry}
use Rattle.flash_model.specs.Layouts.{layout_of}
use Rattle.base_model.specs.Flash.{FlashState, Leaves, restart}
use Rattle.base_model.specs.Layout.{Layout, room_of}
use Rattle.record_model.specs.Records.{Stored, Entry, entry_at, stored_in, parts_of, IsChosen, OnlyFirstUp}
use Rattle.record_model.specs.RecordMap.{Write, Clear, changes_of_parts, made_by}
use Rattle.record_slots.specs.Listed.{free_slots, first_records}

-- what a store has begun: nothing, the write of a record into these slots, of whose flash changes so many are made and
-- which takes the place of an older record or not, or the clearing of an identifier
pub data Pending : Type 0 where
  Idle : Pending
  Writing : (id : ℕ) (bytes : List ℕ) (slots : List ℕ) (replaces : Bool) (made : ℕ) → Pending
  Clearing : (id : ℕ) → Pending

-- a store is in doubt from a fault, or from a command that was given up, until it has looked at its slots again
pub record StoreView : Type 0 where
  pub flash : FlashState
  pub layout : Layout
  pub in_doubt : Bool
  pub pending : Pending

-- the records that a flash of this layout holds
abbrev pub records_of : Layout → List ℕ → Stored
records_of layout image = stored_in layout.slot_size layout.slots image

-- the records that a store's flash holds
abbrev pub stored : StoreView → Stored
stored store = records_of store.layout store.flash.told.image

-- only first slots of records are upright in a store's flash: it has no second copy, and no record that is not whole
abbrev pub IsSettled : StoreView → Type 0
IsSettled store = OnlyFirstUp store.layout.slot_size store.layout.slots store.flash.told.image

-- the slots that are free for a write, the least first: those in which no first record stands. A store in doubt ends every
-- other upright slot first, and one that knows its records has no other
abbrev pub free_in : StoreView → List ℕ
free_in store =
    free_slots (first_records (entry_at store.layout.slot_size store.layout.slots store.flash.told.image) store.layout.slots) store.layout.slots

-- the slots that a record of so many bytes is written into: of these those of least number, as many as it has parts
abbrev pub slots_for : StoreView → ℕ → List ℕ
slots_for store len = take (parts_of (room_of store.layout) len) (free_in store)

-- the record of an identifier stands in these slots of an image, the first one first and the further ones in their order
pub record IsAt (layout : Layout) (image : List ℕ) (id first : ℕ) (further : List ℕ) : Type 0 where
  pub entry : Entry
  pub of_id : entry.id ≡ id
  pub in_further : entry.further ≡ further
  pub chosen : IsChosen (entry_at layout.slot_size layout.slots image) layout.slots first entry

abbrev pub StandsIn : Layout → List ℕ → ℕ → List ℕ → Type 0
StandsIn layout image id [] = ⊥
StandsIn layout image id (first ∷ further) = IsAt layout image id first further

-- the changes of a write that come before the one that opens the gate of its first slot
abbrev pub changes_before_gate : Layout → List ℕ → ℕ
changes_before_gate layout bytes = changes_of_parts layout (length bytes) (parts_of (room_of layout) (length bytes))

-- all changes of a write
abbrev pub changes_in_all : Layout → List ℕ → Bool → ℕ
changes_in_all layout bytes replaces = changes_before_gate layout bytes + (if replaces then 2 else 1)

-- the map that the next change of what is pending makes: a write is stored by the change that opens its gate
abbrev pub map_after : Layout → Pending → Stored → Stored
map_after layout Idle stored = stored
map_after layout (Writing id bytes slots replaces made) stored =
    if made == changes_before_gate layout bytes then made_by (Write id bytes) stored else stored
map_after layout (Clearing id) stored = made_by (Clear id) stored

-- what is pending after that change
abbrev pub pending_after : Layout → Pending → Pending
pending_after layout Idle = Idle
pending_after layout (Writing id bytes slots replaces made) =
    if made + 1 == changes_in_all layout bytes replaces then Idle else Writing id bytes slots replaces (made + 1)
pending_after layout (Clearing id) = Idle

-- the record that was written stands in its slots after each change from the one that opens its gate on
abbrev pub PlacedAfter : Layout → Pending → List ℕ → Type 0
PlacedAfter layout Idle image = Unit {0}
PlacedAfter layout (Writing id bytes slots replaces made) image = changes_before_gate layout bytes ≤ made → StandsIn layout image id slots
PlacedAfter layout (Clearing id) image = Unit {0}

-- power lost on the way leaves the records from before
abbrev pub KeepsMap : StoreView → StoreView → Type 0
KeepsMap old new = Leaves old.flash.told new.flash.told (λ image. records_of old.layout image ≡ stored old)

-- power lost on the way leaves the records from before, or these
abbrev pub KeepsOrMakes : StoreView → StoreView → Stored → Type 0
KeepsOrMakes old new made = Leaves old.flash.told new.flash.told
    (λ image. (records_of old.layout image ≡ stored old) ⊎ (records_of old.layout image ≡ made))

-- a store divides its flash as before, and the flash has the size that it had
pub record DividesAlike (old new : StoreView) : Type 0 where
  pub layout : new.layout ≡ old.layout
  pub size : new.flash.size ≡ old.flash.size
  pub sector_size : new.flash.sector_size ≡ old.flash.sector_size

-- a store knows its records, and has begun nothing
pub record IsReady (store : StoreView) : Type 0 where
  pub certain : store.in_doubt ≡ false
  pub idle : store.pending ≡ Idle

-- a store has begun nothing, and has to look at its slots again
pub record IsInDoubt (store : StoreView) : Type 0 where
  pub doubt : store.in_doubt ≡ true
  pub idle : store.pending ≡ Idle

-- something is pending
abbrev pub IsBusy : Pending → Type 0
IsBusy Idle = ⊥
IsBusy (Writing id bytes slots replaces made) = Unit {0}
IsBusy (Clearing id) = Unit {0}

-- the store with what was pending given up: it is in doubt where something was
abbrev pub abandoned : StoreView → StoreView
abandoned store = record {
  flash = store.flash;
  layout = store.layout;
  in_doubt = elim store.pending [ Idle ↦ store.in_doubt | other ↦ true ];
  pending = Idle;
}

-- a store of this geometry that has just looked at its slots
pub record IsOpened (geometry : Geometry) (store : StoreView) : Type 0 where
  pub layout : store.layout ≡ layout_of geometry
  pub ready : IsReady store

-- the flash on which a store was opened: its size and its count of faults are as they were
pub record IsFlashOf (old new : FlashState) : Type 0 where
  pub size : new.size ≡ old.size
  pub sector_size : new.sector_size ≡ old.sector_size
  pub faults : new.faults ≡ old.faults

-- power lost in the opening leaves the records of the flash
abbrev pub KeepsRecordsOf : Geometry → FlashState → FlashState → Type 0
KeepsRecordsOf geometry old new =
    Leaves old.told new.told (λ image. records_of (layout_of geometry) image ≡ records_of (layout_of geometry) old.told.image)

-- the store with what was pending given up, and in doubt: it is to look at its slots
abbrev pub doubted : StoreView → StoreView
doubted store = record {
  flash = store.flash;
  layout = store.layout;
  in_doubt = true;
  pending = Idle;
}

-- the same with the flash restarted
abbrev pub restarted : StoreView → StoreView
restarted store = record {
  flash = restart store.flash;
  layout = store.layout;
  in_doubt = true;
  pending = Idle;
}
