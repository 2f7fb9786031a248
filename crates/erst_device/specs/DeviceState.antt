-- What is seen of the device: its registers, the execution that runs, and its store.
use Rattle.std.specs.Prelude.{◌≡◌, ℕ, Bool, true, false, Option, Some, None}
use Rattle.record_model.specs.Records.{Stored}
use Rattle.record_store.specs.Store.{StoreView, Pending, Idle, Writing, Clearing, stored, IsBusy, abandoned}
use Rattle.record_store.specs.Answers.{copies_in, copies_pending}
use Rattle.erst_device.specs.declared.registers.Operation.{Operation}
use Rattle.erst_device.specs.declared.status.CommandStatus.{CommandStatus}
use Rattle.erst_device.specs.declared.status.CommandStatus.TheVariants.{Success}

-- an execution is the read of the record of an identifier, or the write or clear that is pending in the store
pub record DeviceState : Type 0 where
  pub value : ℕ
  pub operation : Option Operation
  pub offset : ℕ
  pub id : ℕ
  pub status : CommandStatus
  pub cursor : ℕ
  pub reading : Option ℕ
  pub store : StoreView

-- the records of its flash
abbrev pub records : DeviceState → Stored
records state = stored state.store

-- the device at first: nothing is begun, and all registers are 0
abbrev pub at_first : StoreView → DeviceState
at_first store = record { value = 0; operation = None; offset = 0; id = 0; status = Success; cursor = 0; reading = None; store = store }

-- no execution runs
pub record IsStill (state : DeviceState) : Type 0 where
  pub no_read : state.reading ≡ None
  pub no_change : state.store.pending ≡ Idle

-- one runs
pub data IsRunning (state : DeviceState) : Type 0 where
  Reads : (id : ℕ) → state.reading ≡ Some id → IsRunning state
  Changes : IsBusy state.store.pending → IsRunning state

abbrev pub is_busy : Pending → Bool
is_busy Idle = false
is_busy (Writing id bytes slots replaces made) = true
is_busy (Clearing id) = true

-- the device with its execution abandoned
abbrev pub given_up : DeviceState → DeviceState
given_up state = record state { reading = None; store = abandoned state.store }

-- In a store that is not in doubt a second copy stands exactly between the change that stores a replacement and the one that ends the
-- older record. One that is abandoned there is in doubt, and ends the copy before all else
abbrev pub KnowsCopies : StoreView → Type 0
KnowsCopies store = store.in_doubt ≡ false → copies_in store ≡ copies_pending store.layout store.pending
