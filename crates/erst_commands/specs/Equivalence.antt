-- Two stores, devices or machines that are equivalent: all that is seen of them is the same, but for the slots in which the records stand, and
-- the flash's counts of reads and faults.
use Rattle.std.specs.Prelude.{◌≡◌, ℕ, ◌+◌, Bool, List, [], length, take, replicate, Option, Result, Ok, Err}
use Rattle.base_model.specs.Faults.{Rose}
use Rattle.base_model.specs.Flash.{FlashState}
use Rattle.base_model.specs.Layout.{Layout}
use Rattle.flash_model.specs.declared.geometry.Geometry.{Geometry}
use Rattle.record_model.specs.Records.{Stored, second_copies}
use Rattle.record_store.specs.Store.{StoreView, Pending, Idle, Writing, Clearing, stored, KeepsRecordsOf}
use Rattle.record_store.specs.Answers.{copies_of}
use Rattle.apei_space.specs.declared.faults.SpaceFault.{SpaceFault}
use Rattle.apei_space.specs.Calls.{Call, Read, Write, Wait, Copy, ReadBytes, WriteBytes}
use Rattle.ghes_ack.specs.declared.events.Event.TheVariants as turns
use Rattle.ghes_ack.specs.Handovers.{HandoverState}
use Rattle.erst_client.specs.declared.errors.ClientError.{ClientError}
use Rattle.erst_device.specs.declared.registers.Operation.{Operation}
use Rattle.erst_device.specs.declared.status.CommandStatus.{CommandStatus}
use Rattle.erst_device.specs.DeviceState.{DeviceState}
use Rattle.erst_machine.specs.Memories.{MemoryState}
use Rattle.erst_machine.specs.MachineState.{MachineState}
use Rattle.erst_machine.specs.Boots.{IsBooted}
use Rattle.erst_machine.specs.Events.{Event, Accessed, Warmed, Powered, Submitted, Turned, Laid}

-- what a store has begun, but for the slots that it takes
abbrev pub unplaced : Pending → Pending
unplaced Idle = Idle
unplaced (Writing id bytes slots replaces made) = Writing id bytes [] replaces made
unplaced (Clearing id) = Clearing id

-- what is seen of a store wherever its records stand: the records, the changes of the flash so far, what is pending, and the second copies
-- that it ends before all else
pub record StoreOutline : Type 0 where
  pub layout : Layout
  pub records : Stored
  pub steps : ℕ
  pub in_doubt : Bool
  pub pending : Pending
  pub copies : ℕ

abbrev pub store_outline : StoreView → StoreOutline
store_outline store =
    record { layout = store.layout; records = stored store; steps = store.flash.steps; in_doubt = store.in_doubt; pending = unplaced store.pending; copies = copies_of store }

-- the registers of a device, and the outline of its store
abbrev pub DeviceOutline : Type 0
DeviceOutline =
    record { value : ℕ; operation : Option Operation; offset : ℕ; id : ℕ; status : CommandStatus; cursor : ℕ; reading : Option ℕ; store : StoreOutline }

abbrev pub device_outline : DeviceState → DeviceOutline
device_outline device =
    record {
      value = device.value;
      operation = device.operation;
      offset = device.offset;
      id = device.id;
      status = device.status;
      cursor = device.cursor;
      reading = device.reading;
      store = store_outline device.store;
    }

-- the outline of a machine's device, with all else that is seen of the machine
pub record MachineOutline : Type 0 where
  pub device : DeviceOutline
  pub memory : MemoryState
  pub handover : HandoverState
  pub waited : ℕ

abbrev pub machine_outline : MachineState → MachineOutline
machine_outline machine = record { device = device_outline machine.device; memory = machine.memory; handover = machine.handover; waited = machine.waited }

-- two machines are equivalent: they have one outline. So are two devices
abbrev pub EquivalentMachines : MachineState → MachineState → Type 0
EquivalentMachines one other = machine_outline one ≡ machine_outline other

-- no fault of a store's flash was counted on the way
abbrev pub FailsNothing : StoreView → StoreView → Type 0
FailsNothing old new = Rose old.flash.faults new.flash.faults → ⊥

-- and none of a machine's
abbrev pub FailedNothing : MachineState → MachineState → Type 0
FailedNothing first last = FailsNothing first.device.store last.device.store

-- the bytes that a call shows: none where it is refused
abbrev pub bytes_shown : Result (Unit {0}) SpaceFault → List ℕ → List ℕ
bytes_shown (Ok done) bytes = bytes
bytes_shown (Err fault) bytes = []

-- a call as it is asked, without its answer, where a buffer counts by its length alone: it has as many zeros
abbrev pub asked : Call → Call
asked (Read at width answer) = Read at width (Ok 0)
asked (Write at width value answer) = Write at width value (Ok tt)
asked (Wait micros) = Wait micros
asked (Copy from target len answer) = Copy from target len (Ok tt)
asked (ReadBytes at before after answer) = ReadBytes at (replicate (length before) 0) [] (Ok tt)
asked (WriteBytes at bytes answer) = WriteBytes at bytes (Ok tt)

-- and as it is answered
abbrev pub answered : Call → Call
answered (ReadBytes at before after answer) = ReadBytes at (replicate (length before) 0) (bytes_shown answer after) answer
answered call = call

-- two ends of what was done: the same answer, as many steps left of a budget, and machines that are equivalent
pub record EndAlike {A : Type 0} (answer also : A) (left also_left : ℕ) (one_after other_after : MachineState) : Type 0 where
  pub same_answer : answer ≡ also
  pub same_left : left ≡ also_left
  pub equivalent : EquivalentMachines one_after other_after

-- what is done from a state of a machine, with its answer, the steps that are left and the state afterwards: from two machines that are
-- alike, over flashes that fail nothing, it ends alike
abbrev pub IsDoneAlike : {A : Type 0} → (MachineState → A → ℕ → MachineState → Type 0) → Type 0
IsDoneAlike {A} does = (one other : MachineState) (answer also : A) (left also_left : ℕ) (one_after other_after : MachineState) → EquivalentMachines one other
    → does one answer left one_after → FailedNothing one one_after → does other also also_left other_after → FailedNothing other other_after
    → EndAlike answer also left also_left one_after other_after

-- what happens, as it is asked
abbrev pub asked_event : Event → Event
asked_event (Accessed call) = Accessed (asked call)
asked_event (Warmed result) = Warmed (Ok 0)
asked_event (Powered result) = Powered (Ok 0)
asked_event (Submitted block result) = Submitted block (Ok 0)
asked_event (Turned side event) = Turned side turns.Idle
asked_event (Laid block result) = Laid block (Ok 0)

-- and as it is answered
abbrev pub answered_event : Event → Event
answered_event (Accessed call) = Accessed (answered call)
answered_event event = event

-- a machine was booted over a flash that tells its content: the flash's records are kept, and each second copy is ended by one change
pub record BootsFrom (geometry : Geometry) (flash : FlashState) (machine : MachineState) : Type 0 where
  pub booted : IsBooted geometry machine
  pub kept : KeepsRecordsOf geometry flash machine.device.store.flash
  pub steps : machine.device.store.flash.steps ≡ flash.steps + second_copies geometry.slot_size geometry.slots flash.told.image

-- the bytes of a record that was read into a buffer
abbrev pub record_in : Result ℕ ClientError → List ℕ → List ℕ
record_in (Ok size) buffer = take size buffer
record_in (Err error) buffer = []
