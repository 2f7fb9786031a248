-- What is proved of two machines that are equivalent.
use Rattle.std.specs.Prelude.{◌≡◌, ℕ, true, List, length, Option, Result}
use Rattle.base_model.specs.Flash.{FlashState}
use Rattle.flash_model.specs.declared.geometry.Geometry.{Geometry}
use Rattle.flash_model.specs.Layouts.{layout_of}
use Rattle.record_model.specs.Records.{second_copies}
use Rattle.record_store.specs.Store.{records_of as records_in}
use Rattle.apei_space.specs.declared.faults.SpaceFault.{SpaceFault}
use Rattle.apei_space.specs.Calls.{ReadBytes}
use Rattle.ghes_block.specs.Region.{IsLaidOut}
use Rattle.erst_entries.specs.declared.actions.Action.{Action}
use Rattle.erst_client.specs.declared.errors.ClientError.{ClientError}
use Rattle.erst_client.specs.Commands.{ClientState, Reads}
use Rattle.erst_device.specs.Actions.{Acts, gives_up}
use Rattle.erst_device.specs.DeviceState.{DeviceState, KnowsCopies}
use Rattle.erst_machine.specs.MachineState.{MachineState, IsMachine, records_of}
use Rattle.erst_machine.specs.Allowed.{Allows}
use Rattle.erst_machine.specs.Boots.{IsBooted}
use Rattle.erst_commands.specs.Equivalence.{FailsNothing, FailedNothing, EquivalentMachines, EndAlike, BootsFrom, record_in, bytes_shown, device_outline}

-- an action of a device over a flash that fails nothing: the device and the log range behind it
pub record QuietAction (tells : Type 0) (action : Option Action) (old : DeviceState) (range : List ℕ) (new : DeviceState) (new_range : List ℕ) : Type 0 where
  pub acts : Acts tells old range action new new_range
  pub knows : gives_up action ≡ true → KnowsCopies old.store
  pub quiet : FailsNothing old.store new.store

-- an action of two devices that are equivalent, with the same log range
abbrev pub EachActionIsAlike : (tells : Type 0) → Option Action → Type 0
EachActionIsAlike tells action =
    (one other : DeviceState) (range : List ℕ) (one_after : DeviceState) (one_range : List ℕ) (other_after : DeviceState) (other_range : List ℕ)
    → device_outline one ≡ device_outline other
    → QuietAction tells action one range one_after one_range → QuietAction tells action other range other_after other_range
    → (device_outline one_after ≡ device_outline other_after) × (one_range ≡ other_range)

-- what is done to this machine and to another that is equivalent, asked the same of both, over flashes that fail nothing: it is answered the
-- same and leaves machines that are equivalent
abbrev pub IsMadeAlike : {E A B : Type 0} → (asks : E → A) (answers : E → B) → (MachineState → E → MachineState → Type 0) → MachineState → Type 0
IsMadeAlike {E = E} asks answers does one =
    (other : MachineState) (event also : E) (one_after other_after : MachineState) → EquivalentMachines one other → asks event ≡ asks also
    → does one event one_after → FailedNothing one one_after → does other also other_after → FailedNothing other other_after
    → (answers event ≡ answers also) × EquivalentMachines one_after other_after

-- and what is so whatever the flashes do
abbrev pub IsAnsweredAlike : {A : Type 0} → (MachineState → A → MachineState → Type 0) → MachineState → Type 0
IsAnsweredAlike {A = A} does one =
    (other : MachineState) (answer also : A) (one_after other_after : MachineState) → EquivalentMachines one other → does one answer one_after → does other also other_after
    → (answer ≡ also) × EquivalentMachines one_after other_after

-- a read of bytes: what the buffer holds before and behind it, its answer and the machine that it leaves
pub record ShownBytes : Type 0 where
  pub before : List ℕ
  pub after : List ℕ
  pub answer : Result (Unit {0}) SpaceFault
  pub last : MachineState

-- into buffers of the same length it is answered the same, and fills them alike, whatever the flashes do
abbrev pub EachReadOfBytesIsAlike : (tells : Type 0) (at : ℕ) → Type 0
EachReadOfBytesIsAlike tells at =
    (one other : MachineState) (shown also : ShownBytes) → EquivalentMachines one other → length shown.before ≡ length also.before
    → Allows tells one (ReadBytes at shown.before shown.after shown.answer) shown.last
    → Allows tells other (ReadBytes at also.before also.after also.answer) also.last
    → (shown.answer ≡ also.answer) × (bytes_shown shown.answer shown.after ≡ bytes_shown also.answer also.after) × EquivalentMachines shown.last also.last

-- a client's read: what the buffer holds before and behind it, its answer, the steps that are left and the machine that it leaves
pub record RecordRead : Type 0 where
  pub out : List ℕ
  pub result : Result ℕ ClientError
  pub after : List ℕ
  pub left : ℕ
  pub last : MachineState

-- such a read of a record, with a budget, over a flash that fails nothing
pub record QuietRead (tells : Type 0) (client : ClientState) (id budget : ℕ) (first : MachineState) (read : RecordRead) : Type 0 where
  pub reads : Reads (Allows tells) client id read.out budget first read.result read.after read.left read.last
  pub quiet : FailedNothing first read.last

-- into buffers of the same length it is answered the same, and the bytes of the record that they hold then are the same
abbrev pub EachRecordIsReadAlike : (tells : Type 0) → ClientState → (id budget : ℕ) → Type 0
EachRecordIsReadAlike tells client id budget =
    (one other : MachineState) (read also : RecordRead) → EquivalentMachines one other → IsMachine one → length read.out ≡ length also.out
    → QuietRead tells client id budget one read → QuietRead tells client id budget other also
    → EndAlike read.result also.result read.left also.left read.last also.last × (record_in read.result read.after ≡ record_in also.result also.after)

-- into buffers that held the same it leaves the same bytes
abbrev pub EachBufferIsFilledAlike : (tells : Type 0) → ClientState → (id budget : ℕ) → Type 0
EachBufferIsFilledAlike tells client id budget =
    (one other : MachineState) (read also : RecordRead) → EquivalentMachines one other → read.out ≡ also.out
    → QuietRead tells client id budget one read → QuietRead tells client id budget other also → read.after ≡ also.after

-- machines that have just booted, with the same records and as many changes of their flashes, are equivalent
abbrev pub EachBootIsAlike : Geometry → Type 0
EachBootIsAlike geometry =
    (one other : MachineState) → IsBooted geometry one → IsBooted geometry other → records_of one ≡ records_of other
    → one.device.store.flash.steps ≡ other.device.store.flash.steps → EquivalentMachines one other

-- and so over flashes with the same records, as many changes and as many second copies
pub record SameRecords (geometry : Geometry) (first second : FlashState) : Type 0 where
  pub records : records_in (layout_of geometry) first.told.image ≡ records_in (layout_of geometry) second.told.image
  pub steps : first.steps ≡ second.steps
  pub copies : second_copies geometry.slot_size geometry.slots first.told.image ≡ second_copies geometry.slot_size geometry.slots second.told.image

abbrev pub EachFlashBootsAlike : Geometry → Type 0
EachFlashBootsAlike geometry =
    (first second : FlashState) (one other : MachineState) → SameRecords geometry first second → BootsFrom geometry first one → BootsFrom geometry second other
    → EquivalentMachines one other

-- a boot error region has one list of blocks
abbrev pub EachRegionHasOneList : Type 0
EachRegionHasOneList =
    (region : List ℕ) (blocks others : List (List ℕ)) (left rest : ℕ) → IsLaidOut blocks left region → IsLaidOut others rest region → (blocks ≡ others) × (left ≡ rest)
