-- The start of an execution, one case for each way in which it ends. `tells` says whether the flash tells its content; `range` is
-- the log range.
use Rattle.std.specs.Prelude.{◌≡◌, ℕ, ◌+◌, ◌<◌, ◌≤◌, true, false, ◌==◌, if◌then◌else◌, List, length, Some, None, Result, Ok, Err}
use Rattle.std.specs.FinMap.{get}
use Rattle.base_model.specs.Bytes.{part}
use Rattle.record_model.specs.Records.{Stored, is_reserved}
use Rattle.record_store.specs.Store.{StoreView}
use Rattle.record_store.specs.declared.errors.StoreError.{StoreError}
use Rattle.erst_device.specs.declared.registers.Operation.TheVariants.{Write, Read, Clear, Dummy}
use Rattle.erst_device.specs.declared.status.CommandStatus.{CommandStatus}
use Rattle.erst_device.specs.declared.status.CommandStatus.TheVariants.{Success, Failed, RecordStoreEmpty, RecordNotFound}
use Rattle.erst_device.specs.Statuses.{status_of}
use Rattle.erst_device.specs.Drafts.{draft_at}
use Rattle.erst_device.specs.StoreCalls.{StartedWrite, StartedClear, FoundNext}
use Rattle.erst_device.specs.DeviceState.{DeviceState, records}

-- the identifier that a read names: 0 is the least one
abbrev pub named : ℕ → ℕ → ℕ
named id least = if id == 0 then least else id

-- the stored record of an identifier has so many bytes
pub record HasLength (stored : Stored) (id size : ℕ) : Type 0 where
  pub body : List ℕ
  pub generation : ℕ
  pub here : get stored id ≡ Some (body, generation)
  pub size_is : size ≡ length body

-- the status that a start of a write or of a clear in the store gives. Where it is Ok, the write or clear runs
abbrev pub status_after : Result (Unit {0}) StoreError → CommandStatus
status_after (Ok done) = Success
status_after (Err error) = status_of error

-- the device before the start, and after it
pub data Starts (tells : Type 0) (old : DeviceState) (range : List ℕ) : DeviceState → Type 0 where
  NoneBegun : old.operation ≡ None → Starts tells old range (record old { status = Failed })
  WritesDummy : old.operation ≡ Some Dummy → Starts tells old range (record old { status = Success })
  NoDraft : old.operation ≡ Some Write → draft_at old.offset range ≡ None → Starts tells old range (record old { status = Failed })
  Writes : (size id : ℕ) (store : StoreView) (result : Result (Unit {0}) StoreError) → old.operation ≡ Some Write → draft_at old.offset range ≡ Some (size, id)
      → StartedWrite tells old.store store id (part range old.offset size) result
      → Starts tells old range (record old { status = status_after result; store = store })
  LookFails : (store : StoreView) (error : StoreError) → old.operation ≡ Some Read → FoundNext tells old.store store 0 (Err error)
      → Starts tells old range (record old { status = status_of error; store = store })
  FindsNone : (store : StoreView) → old.operation ≡ Some Read → FoundNext tells old.store store 0 (Ok None)
      → Starts tells old range (record old { status = RecordStoreEmpty; store = store })
  Misses : (store : StoreView) (least : ℕ) → old.operation ≡ Some Read → FoundNext tells old.store store 0 (Ok (Some least))
      → (tells → get (records old) (named old.id least) ≡ None)
      → Starts tells old range (record old { status = RecordNotFound; cursor = 0; store = store })
  GoesBeyond : (store : StoreView) (least size : ℕ) → old.operation ≡ Some Read → FoundNext tells old.store store 0 (Ok (Some least))
      → (tells → HasLength (records old) (named old.id least) size) → length range < old.offset + size
      → Starts tells old range (record old { status = Failed; store = store })
  Finds : (store : StoreView) (least size : ℕ) → old.operation ≡ Some Read → FoundNext tells old.store store 0 (Ok (Some least))
      → (tells → HasLength (records old) (named old.id least) size) → old.offset + size ≤ length range
      → Starts tells old range (record old { status = Success; reading = Some (named old.id least); store = store })
  NoneToClear : old.operation ≡ Some Clear → is_reserved old.id ≡ true → Starts tells old range (record old { status = Failed })
  Clears : (store : StoreView) (result : Result (Unit {0}) StoreError) → old.operation ≡ Some Clear → is_reserved old.id ≡ false
      → StartedClear tells old.store store old.id result
      → Starts tells old range (record old { status = status_after result; store = store })
