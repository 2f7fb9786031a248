-- What is left of a command that is pending.
use Rattle.std.specs.Prelude.{◌≡◌, ℕ, ◌+◌, ◌-◌, ◌<◌, ◌≤◌, nat_le, if◌then◌else◌, List, Result, OnOk}
use Rattle.base_model.specs.Layout.{Layout}
use Rattle.record_model.specs.Records.{Stored}
use Rattle.record_model.specs.RecordMap.{Write, Clear, made_by}
use Rattle.record_store.specs.Store.{StoreView, Pending, Idle, Writing, Clearing, stored, changes_before_gate, changes_in_all, StandsIn, KeepsOrMakes}
use Rattle.record_store.specs.Answers.{FailsByFlash}
use Rattle.record_store.specs.Calls.{IsOver}
use Rattle.record_store.specs.declared.errors.StoreError.{StoreError}

-- some of its changes are left
abbrev pub IsUnfinished : Layout → Pending → Type 0
IsUnfinished layout Idle = ⊥
IsUnfinished layout (Writing id bytes slots replaces made) = made < changes_in_all layout bytes replaces
IsUnfinished layout (Clearing id) = Unit {0}

-- how many are left
abbrev pub changes_left : Layout → Pending → ℕ
changes_left layout Idle = 0
changes_left layout (Writing id bytes slots replaces made) = changes_in_all layout bytes replaces - made
changes_left layout (Clearing id) = 1

-- the map once all are made
abbrev pub map_at_end : Layout → Pending → Stored → Stored
map_at_end layout Idle stored = stored
map_at_end layout (Writing id bytes slots replaces made) stored =
    if nat_le made (changes_before_gate layout bytes) then made_by (Write id bytes) stored else stored
map_at_end layout (Clearing id) stored = made_by (Clear id) stored

-- where a record stands that was written, once all are made
abbrev pub PlacedAtEnd : Layout → Pending → List ℕ → Type 0
PlacedAtEnd layout Idle image = Unit {0}
PlacedAtEnd layout (Writing id bytes slots replaces made) image = StandsIn layout image id slots
PlacedAtEnd layout (Clearing id) image = Unit {0}

-- all that is left of a command was made
pub record IsFinished (tells : Type 0) (old new : StoreView) (result : Result (Unit {0}) StoreError) : Type 0 where
  pub error : FailsByFlash result
  pub made : OnOk result (tells → stored new ≡ map_at_end old.layout old.pending (stored old))
  pub placed : OnOk result (tells → PlacedAtEnd old.layout old.pending new.flash.told.image)
  pub crash : tells → KeepsOrMakes old new (map_at_end old.layout old.pending (stored old))
  pub steps : OnOk result (new.flash.steps ≡ old.flash.steps + changes_left old.layout old.pending)
  pub at_most : new.flash.steps ≤ old.flash.steps + changes_left old.layout old.pending
  pub reads : new.flash.reads ≡ old.flash.reads
  pub over : IsOver old new result
