-- Words that proofs alone need.
use Rattle.std.specs.Prelude.{◌≡◌, ◌≢◌, ◌⊎◌, ℕ, ◌+◌, ◌-◌, ◌<◌, ◌≤◌, Bool, true, List, length, take, drop, Option, Some}
use Rattle.std.specs.FinMap.{get}
use Rattle.base_model.specs.Flash.{Told, FlashState, Leaves, StaysPowered, raised}
use Rattle.flash_model.specs.declared.geometry.Geometry.{Geometry}
use Rattle.flash_model.specs.Layouts.{layout_of}
use Rattle.base_model.specs.Layout.{Layout}
use Rattle.record_model.specs.Records.{Entry, IsChosen, selected, parts_of}
use Rattle.record_model.specs.RecordMap.{Command, Read}
use Rattle.record_slots.specs.declared.found.Found.{Found}
use Rattle.record_slots.specs.declared.found.SlotOf.{SlotOf}
use Rattle.record_store.specs.declared.draft.Draft.{Draft}
use Rattle.record_store.specs.Store.{StoreView, Pending, Idle, stored, records_of, map_after, KeepsOrMakes, DividesAlike}
use Rattle.record_store.specs.Answers.{OnlyReadsFlash}
use Rattle.record_store.specs.Index.{IsEntryOf}
use Rattle.record_store.specs.Kept.{slots_in}
use Rattle.record_store.specs.Finish.{IsUnfinished, changes_left, map_at_end, PlacedAtEnd}

-- a flash was read so many times
abbrev pub ReadsFlash : Type 0 → ℕ → FlashState → FlashState → Type 0
ReadsFlash tells count old new = OnlyReadsFlash tells old new × (new.reads ≡ raised count old.reads)

-- whether a store is in doubt once what was pending is given up
abbrev pub doubt_after : Pending → Bool → Bool
doubt_after pending doubt = elim pending [ Idle ↦ doubt | other ↦ true ]

-- what is placed at the end stays the same
abbrev pub PlacesAlike : Layout → Pending → Pending → Type 0
PlacesAlike layout old now = (image : List ℕ) → PlacedAtEnd layout now image → PlacedAtEnd layout old image

-- a store on the way through the changes of a command
pub record IsOnWay (tells : Type 0) (old now : StoreView) : Type 0 where
  pub unfinished : IsUnfinished now.layout now.pending
  pub left : now.flash.steps + changes_left now.layout now.pending ≡ old.flash.steps + changes_left old.layout old.pending
  pub faults : now.flash.faults ≡ old.flash.faults
  pub reads : now.flash.reads ≡ old.flash.reads
  pub power : now.flash.powered ≡ old.flash.powered
  pub lit : StaysPowered old.flash now.flash
  pub later : old.flash.steps ≤ now.flash.steps
  pub equivalent : DividesAlike old now
  pub places : PlacesAlike old.layout old.pending now.pending
  pub end : tells → map_at_end now.layout now.pending (stored now) ≡ map_at_end old.layout old.pending (stored old)
  pub crash : tells → KeepsOrMakes old now (map_at_end old.layout old.pending (stored old))

-- the record of an identifier is the whole entry of the slot at its place, and what the map of the slots has
pub record IsStoredAt (entry : ℕ → Option Entry) (slots id : ℕ) (place : SlotOf) (e : Entry) : Type 0 where
  pub chosen : IsChosen entry slots place.slot e
  pub is : IsEntryOf id place e
  pub stored : get (selected entry slots) id ≡ Some (e.body, place.generation)

-- a record has as many further slots as it has parts behind the first
abbrev pub HasItsParts : ℕ → Entry → Type 0
HasItsParts room e = 1 + length e.further ≡ parts_of room (length e.body)

-- the record of slot j is not that of its identifier
abbrev pub IsOlderCopy : (ℕ → Option Entry) → ℕ → ℕ → Entry → Type 0
IsOlderCopy entry slots j lost = (k : ℕ) × (c : Entry) × IsChosen entry slots k c × (c.id ≡ lost.id) × (k ≢ j)

-- no other slot has the identifier of slot j
abbrev pub IsOnlyCopy : (ℕ → Option Entry) → ℕ → ℕ → ℕ → Type 0
IsOnlyCopy entry slots j id = (k : ℕ) (e : Entry) → k < slots → entry k ≡ Some e → e.id ≡ id → k ≡ j

-- the further slots of a draft
abbrev pub further_in : Draft → List ℕ
further_in draft = take (draft.parts - 1) (drop 1 draft.slots)

-- a draft takes the first of the slots that are listed as free
abbrev pub TakesFree : Found → Draft → Type 0
TakesFree found draft = (draft.parts ≤ length found.free.items) × (slots_in draft ≡ take draft.parts found.free.items)

-- power lost in the next change of what is pending leaves the records from before it, or those after it
abbrev pub MayMake : Geometry → Pending → Told → Told → Type 0
MayMake geometry pending old new = Leaves old new (λ image.
    (records_of (layout_of geometry) image ≡ records_of (layout_of geometry) old.image)
    ⊎ (records_of (layout_of geometry) image ≡ map_after (layout_of geometry) pending (records_of (layout_of geometry) old.image)))

-- every command but a read
abbrev pub IsNoRead : Command → Type 0
IsNoRead command = elim command [ Read id ↦ ⊥ | other ↦ Unit {0} ]
