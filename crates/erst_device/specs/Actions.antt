-- The serialization actions (ACPI 6.4, section 18.5.1.1) as the device carries them out, one case for each row of its table.
-- `tells` says whether the flash tells its content; `range` is the log range.
use Rattle.std.specs.Prelude.{◌≡◌, ℕ, ◌-◌, ◌^◌, ◌<◌, Bool, true, false, if◌then◌else◌, List, take, drop, ◌++◌, Option, Some, None, IfSome, Result, Ok, Err, IfOk}
use Rattle.base_model.specs.Layout.{Layout, room_of, reach_of}
use Rattle.record_model.specs.Records.{is_reserved}
use Rattle.record_store.specs.Store.{StoreView, IsBusy}
use Rattle.record_store.specs.declared.errors.StoreError.{StoreError}
use Rattle.erst_entries.specs.declared.actions.Action.{Action}
use Rattle.erst_entries.specs.declared.actions.Action.TheVariants.{BeginWriteOperation, BeginReadOperation, BeginClearOperation, EndOperation, SetRecordOffset}
use Rattle.erst_entries.specs.declared.actions.Action.TheVariants.{ExecuteOperation, CheckBusyStatus, GetCommandStatus, GetRecordIdentifier}
use Rattle.erst_entries.specs.declared.actions.Action.TheVariants.{SetRecordIdentifier, GetRecordCount, BeginDummyWriteOperation, GetErrorLogAddressRange}
use Rattle.erst_entries.specs.declared.actions.Action.TheVariants.{GetErrorLogAddressRangeLength, GetErrorLogAddressRangeAttributes, GetExecuteOperationTimings}
use Rattle.erst_device.specs.declared.registers.Operation.{Operation}
use Rattle.erst_device.specs.declared.registers.Operation.TheVariants.{Write, Read, Clear, Dummy}
use Rattle.erst_device.specs.declared.status.CommandStatus.{CommandStatus}
use Rattle.erst_device.specs.declared.status.CommandStatus.TheVariants.{Success}
use Rattle.erst_device.specs.Statuses.{number_of, status_of}
use Rattle.erst_device.specs.Timings.{timings_of}
use Rattle.erst_device.specs.StoreCalls.{Stepped, ReadOut, FoundNext, Counted}
use Rattle.erst_device.specs.DeviceState.{DeviceState, IsStill, IsRunning, given_up}
use Rattle.erst_device.specs.Starts.{Starts}

-- where the log range begins
abbrev pub log_range_at : ℕ
log_range_at = 0x100000

-- the number that an action tells where it does nothing else, with the status of the last execution
abbrev pub told_by : Action → CommandStatus → Layout → Option ℕ
told_by GetCommandStatus status layout = Some (number_of status)
told_by GetErrorLogAddressRange status layout = Some log_range_at
told_by GetErrorLogAddressRangeLength status layout = Some (reach_of (room_of layout))
told_by GetErrorLogAddressRangeAttributes status layout = Some 0
told_by GetExecuteOperationTimings status layout = Some (timings_of layout)
told_by action status layout = None

-- the operation that an action begins
abbrev pub begun_by : Action → Option Operation
begun_by BeginWriteOperation = Some Write
begun_by BeginReadOperation = Some Read
begun_by BeginClearOperation = Some Clear
begun_by BeginDummyWriteOperation = Some Dummy
begun_by action = None

-- the actions that do nothing while an execution runs
abbrev pub waits : Action → Bool
waits SetRecordOffset = true
waits SetRecordIdentifier = true
waits ExecuteOperation = true
waits action = false

-- the actions that abandon an execution
abbrev pub gives_up : Option Action → Bool
gives_up (Some BeginWriteOperation) = true
gives_up (Some BeginReadOperation) = true
gives_up (Some BeginClearOperation) = true
gives_up (Some BeginDummyWriteOperation) = true
gives_up (Some EndOperation) = true
gives_up (Some GetRecordIdentifier) = true
gives_up (Some GetRecordCount) = true
gives_up action = false

-- the device after a change of the write or clear that runs. VALUE is 1 where one still runs
abbrev pub stepped : Result Bool StoreError → StoreView → DeviceState → DeviceState
stepped (Ok last) store old = record old { value = (if last then 0 else 1); store = store }
stepped (Err error) store old = record old { value = 0; status = status_of error; store = store }

-- the device after the one step of a read
abbrev pub shown : ℕ → Result ℕ StoreError → StoreView → DeviceState → DeviceState
shown id (Ok size) store old = record old { value = 0; status = Success; cursor = id; reading = None; store = store }
shown id (Err error) store old = record old { value = 0; status = status_of error; reading = None; store = store }

-- the device after a look for the next identifier
abbrev pub found : Result (Option ℕ) StoreError → StoreView → DeviceState → DeviceState
found (Ok (Some id)) store old = record old { value = id; cursor = id; store = store }
found (Ok None) store old = record old { value = 2 ^ 64 - 1; cursor = 0; store = store }
found (Err error) store old = record old { value = 0; store = store }

-- the device after a count of the records
abbrev pub counted : Result ℕ StoreError → StoreView → DeviceState → DeviceState
counted (Ok n) store old = record old { value = n; store = store }
counted (Err error) store old = record old { value = 2 ^ 32 - 1; store = store }

-- an action, none where the code is that of none: the device and the log range before it, and both after it. An identifier that is found is
-- one that a record can have, and a number of 64 bits
pub data Acts (tells : Type 0) (old : DeviceState) (range : List ℕ) : Option Action → DeviceState → List ℕ → Type 0 where
  Begins : (action : Action) (operation : Operation) → begun_by action ≡ Some operation
      → Acts tells old range (Some action) (record (given_up old) { operation = Some operation; offset = 0; id = 0; status = Success }) range
  Ends : Acts tells old range (Some EndOperation) (record (given_up old) { operation = None }) range
  SetsOffset : IsStill old → Acts tells old range (Some SetRecordOffset) (record old { offset = old.value }) range
  SetsId : IsStill old → Acts tells old range (Some SetRecordIdentifier) (record old { id = old.value }) range
  Waits : (action : Action) → waits action ≡ true → IsRunning old → Acts tells old range (Some action) old range
  Executes : (new : DeviceState) → IsStill old → Starts tells old range new → Acts tells old range (Some ExecuteOperation) new range
  NoneRuns : IsStill old → Acts tells old range (Some CheckBusyStatus) (record old { value = 0 }) range
  Steps : (store : StoreView) (result : Result Bool StoreError) → old.reading ≡ None → IsBusy old.store.pending → Stepped tells old.store store result
      → Acts tells old range (Some CheckBusyStatus) (stepped result store old) range
  Shows : (id : ℕ) (store : StoreView) (out : List ℕ) (result : Result ℕ StoreError) → old.reading ≡ Some id
      → ReadOut tells old.store store id (drop old.offset range) out result
      → Acts tells old range (Some CheckBusyStatus) (shown id result store old) (take old.offset range ++ out)
  Tells : (action : Action) (number : ℕ) → told_by action old.status old.store.layout ≡ Some number → Acts tells old range (Some action) (record old { value = number }) range
  FindsNext : (store : StoreView) (result : Result (Option ℕ) StoreError) → FoundNext tells (given_up old).store store old.cursor result
      → IfOk result (λ next. IfSome next (λ id. (is_reserved id ≡ false) × (id < 2 ^ 64)))
      → Acts tells old range (Some GetRecordIdentifier) (found result store (given_up old)) range
  Counts : (store : StoreView) (result : Result ℕ StoreError) → Counted tells (given_up old).store store result
      → Acts tells old range (Some GetRecordCount) (counted result store (given_up old)) range
  Ignores : Acts tells old range None old range
