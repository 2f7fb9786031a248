-- What a store keeps between two calls, and what it knows of its flash.
use Rattle.std.specs.Prelude.{◌≡◌, ◌≢◌, ℕ, ◌+◌, ◌-◌, ◌<◌, ◌≤◌, Bool, true, false, is_some, List, [], ◌∷◌, length, take, drop, slice_index, Option, Some, None, IfSome}
use Rattle.std.specs.FinMap.{get}
use Rattle.flash_model.specs.declared.geometry.Geometry.{Geometry}
use Rattle.flash_model.specs.Layouts.{layout_of}
use Rattle.base_model.specs.Flash.{FlashState}
use Rattle.base_model.specs.Layout.{Layout, reach_of}
use Rattle.record_model.specs.Records.{Entry, entry_at, slot_at, is_up, IsChosen, OnlyFirstUp, NearlyOnlyFirstUp}
use Rattle.record_model.specs.RecordMap.{next_generation}
use Rattle.record_model.specs.Plan.{KnowsPlan, StandsAtStage, made_at}
use Rattle.record_slots.specs.Slots.{Fits}
use Rattle.record_store.specs.Drafts.{IsDraft, IsStage, plan_of, stage_of}
use Rattle.record_store.specs.declared.draft.Draft.{Draft}
use Rattle.record_store.specs.declared.draft.Stage.{Stage}
use Rattle.record_slots.specs.declared.found.Found.{Found}
use Rattle.record_slots.specs.declared.found.SlotOf.{SlotOf}
use Rattle.record_slots.specs.Listed.{IsPlaceOf, IsWithin}
use Rattle.record_store.specs.Index.{IsListing, IsListOf, IsEntryOf, IsPlaceFound}
use Rattle.record_store.specs.Store.{StoreView, Pending, Idle, Writing, Clearing, records_of, IsAt, map_after, pending_after, changes_before_gate, PlacedAfter}
use Rattle.record_store.specs.declared.work.Begun.{Begun}
use Rattle.record_store.specs.declared.work.Begun.TheVariants.{Nothing, Write, OldCopy, Clear}

-- the slots of a draft, the first one first
abbrev pub slots_in : Draft → List ℕ
slots_in draft = slice_index draft.slots 0 ∷ take (draft.parts - 1) (drop 1 draft.slots)

-- the place of its record
abbrev pub opened_place : Draft → SlotOf
opened_place draft = record {
  slot = slice_index draft.slots 0;
  generation = draft.generation;
  len = draft.len;
  next = slice_index draft.slots 1 ∷ slice_index draft.slots 2 ∷ slice_index draft.slots 3 ∷ [];
}

-- what is seen of what is pending. The record stands at the start of a buffer
abbrev pub pending_of : Layout → List ℕ → Begun → Pending
pending_of layout buffer Nothing = Idle
pending_of layout buffer (Write draft stage replaced) =
    Writing draft.id (take draft.len buffer) (slots_in draft) (is_some replaced) (made_at layout (plan_of draft (take draft.len buffer)) (stage_of stage))
pending_of layout buffer (OldCopy draft place) =
    Writing draft.id (take draft.len buffer) (slots_in draft) true (changes_before_gate layout (take draft.len buffer) + 1)
pending_of layout buffer (Clear id place) = Clearing id

-- a write that is pending: its draft has its slots in a store of this geometry, the first of those that are listed as free
pub record IsWrite (geometry : Geometry) (found : Found) (body : List ℕ) (draft : Draft) (stage : Stage) (replaced : Option SlotOf) : Type 0 where
  pub planned : IsDraft geometry draft body
  pub at : IsStage geometry draft body stage
  pub takes : (draft.parts ≤ length found.free.items) × (slots_in draft ≡ take draft.parts found.free.items)
  pub over : IfSome replaced (IsWithin geometry.slots geometry.slot_size)

-- what a store keeps beside its flash and what is pending: its geometry, the lists of its slots, and its buffer
pub record Kept : Type 0 where
  pub geometry : Geometry
  pub found : Found
  pub buffer : List ℕ

abbrev pub kept_of : Geometry → Found → (buffer : List ℕ) → Kept
kept_of geometry found buffer = record { geometry = geometry; found = found; buffer = buffer }

-- what is pending has its places in a store of this geometry
abbrev pub IsWork : Geometry → Found → List ℕ → Begun → Type 0
IsWork geometry found buffer Nothing = Unit {0}
IsWork geometry found buffer (Write draft stage replaced) = IsWrite geometry found (take draft.len buffer) draft stage replaced
IsWork geometry found buffer (OldCopy draft place) = IsWithin geometry.slots geometry.slot_size place
IsWork geometry found buffer (Clear id place) = IsWithin geometry.slots geometry.slot_size place

abbrev pub is_nothing : Begun → Bool
is_nothing Nothing = true
is_nothing (Write draft stage replaced) = false
is_nothing (OldCopy draft place) = false
is_nothing (Clear id place) = false

-- a change is to be made
abbrev pub IsUnderWay : Begun → Type 0
IsUnderWay Nothing = ⊥
IsUnderWay (Write draft stage replaced) = Unit {0}
IsUnderWay (OldCopy draft place) = Unit {0}
IsUnderWay (Clear id place) = Unit {0}

-- the lists are those of the slots, and only first slots of records are upright
pub record KnowsSlots (layout : Layout) (image : List ℕ) (found : Found) : Type 0 where
  pub list : IsListOf (entry_at layout.slot_size layout.slots image) layout.slots found
  pub only : OnlyFirstUp layout.slot_size layout.slots image

-- what is known while the slots of a draft are filled
pub record KnowsDraft (geometry : Geometry) (found : Found) (image body : List ℕ) (draft : Draft) (stage : Stage) (replaced : Option SlotOf) : Type 0 where
  pub slots : KnowsSlots (layout_of geometry) image found
  pub plan : KnowsPlan (layout_of geometry) (plan_of draft body) image
  pub generation : draft.generation ≡ next_generation (get (records_of (layout_of geometry) image) draft.id)
  pub over : IsPlaceFound (entry_at geometry.slot_size geometry.slots image) geometry.slots draft.id replaced
  pub stands : StandsAtStage (layout_of geometry) (plan_of draft body) image (stage_of stage)

-- what is pending after a gate was opened
abbrev pub work_after : Draft → Option SlotOf → Begun
work_after draft None = Nothing
work_after draft (Some place) = OldCopy draft place

-- what is known after a gate was opened, while the older record is still live: every other upright slot is the first slot of
-- its identifier's record, which for this identifier is the draft's
pub record KnowsOldCopy (geometry : Geometry) (found : Found) (image : List ℕ) (draft : Draft) (place : SlotOf) : Type 0 where
  pub list : IsListOf (entry_at geometry.slot_size geometry.slots image) geometry.slots found
  pub lost : Entry
  pub here : entry_at geometry.slot_size geometry.slots image place.slot ≡ Some lost
  pub is : IsEntryOf draft.id place lost
  pub newer : IsAt (layout_of geometry) image draft.id (slice_index draft.slots 0) (take (draft.parts - 1) (drop 1 draft.slots))
  pub apart : slice_index draft.slots 0 ≢ place.slot
  pub others : (k : ℕ) → k < geometry.slots → k ≢ place.slot → is_up (geometry.slot_size - 64) geometry.slots (slot_at geometry.slot_size image k) ≡ true
      → (e : Entry) × IsChosen (entry_at geometry.slot_size geometry.slots image) geometry.slots k e

-- what is known while an identifier is to be cleared
pub record KnowsCleared (geometry : Geometry) (found : Found) (image : List ℕ) (id : ℕ) (place : SlotOf) : Type 0 where
  pub slots : KnowsSlots (layout_of geometry) image found
  pub held : IsPlaceOf (entry_at geometry.slot_size geometry.slots image) geometry.slots id place

-- what a store that is not in doubt knows
abbrev pub Knows : Geometry → Found → List ℕ → List ℕ → Begun → Type 0
Knows geometry found buffer image Nothing = KnowsSlots (layout_of geometry) image found
Knows geometry found buffer image (Write draft stage replaced) = KnowsDraft geometry found image (take draft.len buffer) draft stage replaced
Knows geometry found buffer image (OldCopy draft place) = KnowsOldCopy geometry found image draft place
Knows geometry found buffer image (Clear id place) = KnowsCleared geometry found image id place

-- what is seen of a store
abbrev pub view_of : Geometry → FlashState → Bool → Pending → StoreView
view_of geometry flash in_doubt pending = record {
  flash = flash;
  layout = layout_of geometry;
  in_doubt = in_doubt;
  pending = pending;
}

-- what holds of a store between two calls, in doubt or not: at most one upright slot is not the first slot of its
-- identifier's record
pub record IsStore (tells : Type 0) (geometry : Geometry) (flash : FlashState) (found : Found) (buffer : List ℕ) (in_doubt : Bool) (work : Begun) : Type 0 where
  pub fits : Fits geometry flash
  pub listing : IsListing geometry.slots geometry.slot_size found
  pub room : length buffer ≡ reach_of (geometry.slot_size - 64)
  pub form : IsWork geometry found buffer work
  pub certain : IsUnderWay work → in_doubt ≡ false
  pub knows : tells → in_doubt ≡ false → Knows geometry found buffer flash.told.image work
  pub spare : tells → NearlyOnlyFirstUp geometry.slot_size geometry.slots flash.told.image

-- the next change of what was pending was made
pub record HasMade (tells : Type 0) (kept : Kept) (old new : List ℕ) (work next : Begun) : Type 0 where
  pub form : IsWork kept.geometry kept.found kept.buffer next
  pub pending : pending_of (layout_of kept.geometry) kept.buffer next
      ≡ pending_after (layout_of kept.geometry) (pending_of (layout_of kept.geometry) kept.buffer work)
  pub knows : tells → Knows kept.geometry kept.found kept.buffer new next
  pub made : tells → records_of (layout_of kept.geometry) new
      ≡ map_after (layout_of kept.geometry) (pending_of (layout_of kept.geometry) kept.buffer work) (records_of (layout_of kept.geometry) old)
  pub placed : tells → PlacedAfter (layout_of kept.geometry) (pending_of (layout_of kept.geometry) kept.buffer work) new
