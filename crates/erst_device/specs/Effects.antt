-- What every action keeps, and how many changes of the flash it makes.
use Rattle.std.specs.Prelude.{◌≡◌, ◌⊎◌, ℕ, ◌+◌, ◌-◌, ◌^◌, ◌≤◌, Bool, true, false, is_some, if◌then◌else◌, List, Option, Some, None}
use Rattle.base_model.specs.Faults.{Rose}
use Rattle.base_model.specs.Flash.{LosesOnlyByChange}
use Rattle.record_model.specs.Records.{Stored, is_reserved}
use Rattle.record_store.specs.Store.{map_after, DividesAlike, KeepsOrMakes}
use Rattle.record_store.specs.Answers.{copies_of}
use Rattle.erst_entries.specs.declared.actions.Action.{Action}
use Rattle.erst_entries.specs.declared.actions.Action.TheVariants.{ExecuteOperation, CheckBusyStatus, GetRecordIdentifier, GetRecordCount}
use Rattle.erst_device.specs.declared.registers.Operation.TheVariants.{Write, Read, Clear, Dummy}
use Rattle.erst_device.specs.declared.status.CommandStatus.TheVariants.{HardwareNotAvailable}
use Rattle.erst_device.specs.Drafts.{draft_at}
use Rattle.erst_device.specs.DeviceState.{DeviceState, records, IsRunning, is_busy, given_up}

-- whether an action asks the store for what it knows. A store in doubt then ends a second copy before all else. The start of a write or
-- clear that is refused before that does not ask
abbrev pub asks : Option Action → DeviceState → List ℕ → Bool
asks (Some ExecuteOperation) state range =
    if (if is_some state.reading then true else is_busy state.store.pending) then false
    else elim state.operation [
      | None ↦ false
      | Some operation ↦ elim operation [
        | Write ↦ is_some (draft_at state.offset range)
        | Read ↦ true
        | Clear ↦ if is_reserved state.id then false else true
        | Dummy ↦ false
      ]
    ]
asks (Some GetRecordIdentifier) state range = true
asks (Some GetRecordCount) state range = true
asks action state range = false

-- whether it makes the next change of a write or clear that runs
abbrev pub makes_change : Option Action → DeviceState → Bool
makes_change (Some CheckBusyStatus) state = is_busy state.store.pending
makes_change action state = false

-- the flash changes of an action where the flash fails none: that of a write or clear that runs, or one for a second copy in a
-- store that is in doubt, or that becomes so since its execution is abandoned
abbrev pub changes_of_action : Option Action → DeviceState → List ℕ → ℕ
changes_of_action action state range =
    if makes_change action state then 1 else (if asks action state range then copies_of (given_up state).store else 0)

-- the records as an action leaves them where the flash fails nothing
abbrev pub made_by_action : Option Action → DeviceState → Stored
made_by_action action state =
    if makes_change action state then map_after state.store.layout state.store.pending (records state) else records state

pub record Effect (tells : Type 0) (old : DeviceState) (range : List ℕ) (action : Option Action) (new : DeviceState) : Type 0 where
  -- power lost in it leaves the records from before it, or those that it leaves where the flash fails nothing
  pub crash : tells → KeepsOrMakes old.store new.store (made_by_action action old)
  -- where no fault was counted, exactly those records, by exactly these changes
  pub made : tells → (Rose old.store.flash.faults new.store.flash.faults → ⊥) → records new ≡ made_by_action action old
  pub exact : tells → (Rose old.store.flash.faults new.store.flash.faults → ⊥) → new.store.flash.steps ≡ old.store.flash.steps + changes_of_action action old range
  -- whatever happened, at most one change
  pub few : tells → new.store.flash.steps ≤ old.store.flash.steps + 1
  pub never_falls : old.store.flash.faults ≤ new.store.flash.faults
  pub equivalent : DividesAlike old.store new.store
  pub power : LosesOnlyByChange old.store.flash new.store.flash
  -- the status of a fault is given only where one was counted in this action. One that gives no status leaves it; a start always gives one
  pub status : new.status ≡ HardwareNotAvailable
      → Rose old.store.flash.faults new.store.flash.faults ⊎ ((new.status ≡ old.status) × (action ≡ Some ExecuteOperation → IsRunning old))
  -- and so the two answers by which a look and a count tell one
  pub next : action ≡ Some GetRecordIdentifier → new.value ≡ 0 → Rose old.store.flash.faults new.store.flash.faults
  pub count : action ≡ Some GetRecordCount → new.value ≡ 2 ^ 32 - 1 → Rose old.store.flash.faults new.store.flash.faults
