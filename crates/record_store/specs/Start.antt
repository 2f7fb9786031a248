-- What a write begins with.
use Rattle.std.specs.Prelude.{◌≡◌, ◌≢◌, ℕ, ◌+◌, ◌*◌, ◌-◌, ◌^◌, ◌<◌, ◌≤◌, ◌==◌, Bool, false, List, length, slice_index, slice_index_or, Option, Some, None, IfSome, Result, Ok, Err, OnOk, OnErr}
use Rattle.base_model.specs.Faults.{HasCause}
use Rattle.flash_model.specs.declared.geometry.Geometry.{Geometry}
use Rattle.base_model.specs.Flash.{FlashState, StaysPowered, raised, next_count}
use Rattle.record_model.specs.Records.{Entry, parts_of, tail_at, is_reserved, tail_mark}
use Rattle.record_model.specs.RecordMap.{LAST_GENERATION}
use Rattle.record_store.specs.declared.draft.Draft.{Draft}
use Rattle.record_slots.specs.declared.found.Found.{Found}
use Rattle.record_slots.specs.declared.found.SlotOf.{SlotOf}
use Rattle.record_slots.specs.Listed.{IsWithin}
use Rattle.record_store.specs.Index.{IsListOf, IsPlaceFound}
use Rattle.record_store.specs.declared.errors.StoreError.{StoreError}
use Rattle.record_store.specs.declared.errors.StoreError.TheVariants.{NoSpace, LastGeneration, NotFound, Empty, Flash, Small}

-- the generation of a record that takes the place of the one at this place
abbrev pub generation_over : Option SlotOf → ℕ
generation_over None = 1
generation_over (Some place) = place.generation + 1

-- the record at this place has the last generation
abbrev pub IsLast : Option SlotOf → Type 0
IsLast None = ⊥
IsLast (Some place) = place.generation ≡ LAST_GENERATION

-- the free slots that a write of so many parts wants: a new identifier leaves one free for the replacements to come
abbrev pub slots_needed : ℕ → Option SlotOf → ℕ
slots_needed parts None = parts + 1
slots_needed parts (Some place) = parts

-- which of the first n slots of an image have their tail mark
abbrev pub AreMarks : ℕ → List ℕ → ℕ → List ℕ → List Bool → Type 0
AreMarks slot_size image n slots marks =
    (i : ℕ) → i < n → slice_index_or marks i false ≡ (tail_at image (slice_index slots i * slot_size) slot_size == tail_mark)

-- where the record of an identifier is by the lists, and that it can be replaced
pub record IsOver (geometry : Geometry) (found : Found) (id : ℕ) (replaced : Option SlotOf) : Type 0 where
  pub place : (entry : ℕ → Option Entry) → IsListOf entry geometry.slots found → IsPlaceFound entry geometry.slots id replaced
  pub within : IfSome replaced (IsWithin geometry.slots geometry.slot_size)
  pub not_last : IfSome replaced (λ place. place.generation ≢ LAST_GENERATION)

-- a draft of a record, in place of another or not: the free slots of least number, with their tail marks
pub record IsPlanned (tells : Type 0) (geometry : Geometry) (found : Found) (image : List ℕ) (draft : Draft) (replaced : Option SlotOf) : Type 0 where
  pub over : IsOver geometry found draft.id replaced
  pub allowed : is_reserved draft.id ≡ false
  pub id_fits : draft.id < 2 ^ 64
  pub parts : draft.parts ≡ parts_of (geometry.slot_size - 64) draft.len
  pub generation : draft.generation ≡ generation_over replaced
  pub generation_fits : draft.generation < 2 ^ 32
  pub enough : slots_needed draft.parts replaced ≤ length found.free.items
  pub taken : (i : ℕ) → i < draft.parts → slice_index draft.slots i ≡ slice_index found.free.items i
  pub four : length draft.slots ≡ 4
  pub four_marks : length draft.marked ≡ 4
  pub marks : tells → AreMarks geometry.slot_size image draft.parts draft.slots draft.marked

-- why there is none
abbrev pub IsRefusedBy : Geometry → Found → ℕ → ℕ → StoreError → Type 0
IsRefusedBy geometry found id len (NoSpace free) =
    (is_reserved id ≡ false) × ((replaced : Option SlotOf) × IsOver geometry found id replaced × (free ≡ length found.free.items)
    × (free < slots_needed (parts_of (geometry.slot_size - 64) len) replaced))
IsRefusedBy geometry found id len (LastGeneration number) =
    (is_reserved id ≡ false) × (number ≡ id) × ((place : SlotOf) × (place.generation ≡ LAST_GENERATION)
    × ((entry : ℕ → Option Entry) → IsListOf entry geometry.slots found → IsPlaceFound entry geometry.slots id (Some place)))
IsRefusedBy geometry found id len NotFound = ⊥
IsRefusedBy geometry found id len Empty = ⊥
IsRefusedBy geometry found id len Flash = Unit {0}
IsRefusedBy geometry found id len (Small need) = ⊥

-- a flash was read so many times, or fewer where it failed, and not again then
pub record ReadsTimes {T E : Type 0} (tells : Type 0) (count : ℕ) (old new : FlashState) (result : Result T E) : Type 0 where
  pub told : tells → new.told ≡ old.told
  pub size : new.size ≡ old.size
  pub sector_size : new.sector_size ≡ old.sector_size
  pub steps : new.steps ≡ old.steps
  pub power : new.powered ≡ old.powered
  pub counted : OnOk result (new.reads ≡ raised count old.reads)
  pub lit : StaysPowered old new
  pub cause : HasCause old.faults new.faults result
  pub once : OnErr result (new.faults ≡ next_count old.faults)

-- a flash is read for a plan so many times, and not where the lists refuse it
abbrev pub ReadsToPlan : {T : Type 0} → Type 0 → ℕ → FlashState → FlashState → Result T StoreError → Type 0
ReadsToPlan tells count old new (Ok planned) = ReadsTimes {E = StoreError} tells count old new (Ok planned)
ReadsToPlan {T} tells count old new (Err (NoSpace free)) = new ≡ old
ReadsToPlan {T} tells count old new (Err (LastGeneration id)) = new ≡ old
ReadsToPlan {T} tells count old new (Err NotFound) = new ≡ old
ReadsToPlan {T} tells count old new (Err Empty) = new ≡ old
ReadsToPlan {T} tells count old new (Err Flash) = ReadsTimes {T = T} {E = StoreError} tells count old new (Err Flash)
ReadsToPlan {T} tells count old new (Err (Small need)) = new ≡ old
