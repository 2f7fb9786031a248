-- What each access of the machine does. `tells` says whether the flash tells its content.
use Rattle.std.specs.Prelude.{◌≡◌, ℕ, ◌+◌, ◌-◌, ◌/◌, ◌%◌, ◌^◌, min, true, if◌then◌else◌, List, [], length, Result, Ok, Err, Option, Some, None}
use Rattle.base_model.specs.Bytes.{part, number_at, spelled, put_at}
use Rattle.apei_tables.specs.declared.widths.Width.{Width}
use Rattle.apei_tables.specs.declared.widths.Width.TheVariants.{B8}
use Rattle.apei_tables.specs.Access.{bits}
use Rattle.apei_space.specs.declared.faults.SpaceFault.{SpaceFault}
use Rattle.apei_space.specs.declared.faults.SpaceFault.TheVariants.{Unmapped, BadAccess, NotMemory}
use Rattle.apei_space.specs.Calls.{Call, Read, Write, Wait, Copy, ReadBytes, WriteBytes}
use Rattle.apei_space.specs.Windows.{address_of}
use Rattle.erst_entries.specs.Actions.{action_of}
use Rattle.erst_device.specs.Actions.{Acts, gives_up}
use Rattle.erst_device.specs.DeviceState.{KnowsCopies}
use Rattle.erst_device.specs.Effects.{Effect}
use Rattle.erst_machine.specs.declared.areas.Area.{Area}
use Rattle.erst_machine.specs.declared.areas.Area.TheVariants.{Device, Handover, BootErrors}
use Rattle.erst_machine.specs.declared.areas.Location.{Location}
use Rattle.erst_machine.specs.declared.areas.Location.TheVariants.{Inside, Beyond, Nowhere}
use Rattle.erst_machine.specs.declared.areas.Register.{Register}
use Rattle.erst_machine.specs.declared.areas.Register.TheVariants.{Action, Value, NoRegister}
use Rattle.erst_machine.specs.Areas.{is_plain, register_at}
use Rattle.erst_machine.specs.Memories.{bytes_in, with_bytes}
use Rattle.erst_machine.specs.MachineState.{MachineState, location_of}
use Rattle.apei_tables.specs.declared.registers.Place.TheVariants.{Memory}

-- a read of a register: ACTION reads as 0
abbrev pub register_read : Register → MachineState → ℕ → Width → Result ℕ SpaceFault
register_read Action state at width = Ok 0
register_read Value state at width = Ok state.device.value
register_read NoRegister state at width = Err (BadAccess at width)

-- a read of a number
abbrev pub number_read : Location → MachineState → ℕ → Width → Result ℕ SpaceFault
number_read (Inside Device start) state at width = register_read (register_at start width) state at width
number_read (Inside area start) state at width = Ok (number_at (bytes_in area state.memory) start (bits width / 8))
number_read (Beyond area address) state at width = Err (Unmapped address)
number_read (Nowhere address) state at width = Err (Unmapped address)

-- a code written to ACTION: what the device does, what power lost in it leaves of the records, and all else stays
pub record ActsOn (tells : Type 0) (old : MachineState) (code : ℕ) (new : MachineState) : Type 0 where
  pub acts : Acts tells old.device old.memory.range (action_of code) new.device new.memory.range
  pub effect : Effect tells old.device old.memory.range (action_of code) new.device
  pub copies : tells → gives_up (action_of code) ≡ true → KnowsCopies old.device.store
  pub range : length new.memory.range ≡ length old.memory.range
  pub memory : new.memory ≡ record old.memory { range = new.memory.range }
  pub handover : new.handover ≡ old.handover
  pub waited : new.waited ≡ old.waited

-- a write of a number, and what it answered
pub record NumberWrite : Type 0 where
  pub at : ℕ
  pub width : Width
  pub value : ℕ
  pub answer : Result (Unit {0}) SpaceFault

abbrev pub write_of : (at : ℕ) → Width → (value : ℕ) → Result (Unit {0}) SpaceFault → NumberWrite
write_of at width value answer = record { at = at; width = width; value = value; answer = answer }

-- before, a write of a number, after
abbrev pub RegisterWritten : Type 0 → Register → MachineState → NumberWrite → MachineState → Type 0
RegisterWritten tells Action old write new = (write.answer ≡ Ok tt) × ActsOn tells old (write.value % 2 ^ 32) new
RegisterWritten tells Value old write new = (write.answer ≡ Ok tt) × (new ≡ record old { device = record old.device { value = write.value } })
RegisterWritten tells NoRegister old write new = (write.answer ≡ Err (BadAccess write.at write.width)) × (new ≡ old)

-- other bytes at a place of an area
abbrev pub put_in : Area → ℕ → MachineState → List ℕ → MachineState
put_in area start state bytes = record state { memory = with_bytes area state.memory (put_at (bytes_in area state.memory) start bytes) }

abbrev pub NumberWritten : Type 0 → Location → MachineState → NumberWrite → MachineState → Type 0
NumberWritten tells (Inside Device start) old write new = RegisterWritten tells (register_at start write.width) old write new
NumberWritten tells (Inside Handover start) old write new = (write.answer ≡ Err (BadAccess write.at write.width)) × (new ≡ old)
NumberWritten tells (Inside BootErrors start) old write new = (write.answer ≡ Err (BadAccess write.at write.width)) × (new ≡ old)
NumberWritten tells (Inside area start) old write new =
    (write.answer ≡ Ok tt) × (new ≡ put_in area start old (spelled (bits write.width / 8) write.value))
NumberWritten tells (Beyond area address) old write new = (write.answer ≡ Err (Unmapped address)) × (new ≡ old)
NumberWritten tells (Nowhere address) old write new = (write.answer ≡ Err (Unmapped address)) × (new ≡ old)

-- what a reader's buffer holds after a read of bytes, and the answer
abbrev pub bytes_read : Location → MachineState → ℕ → List ℕ → Result (Unit {0}) SpaceFault × List ℕ
bytes_read (Inside Device start) state at before = (Err (BadAccess at B8), before)
bytes_read (Inside area start) state at before = (Ok tt, part (bytes_in area state.memory) start (length before))
bytes_read (Beyond area address) state at before = (Err (Unmapped address), before)
bytes_read (Nowhere address) state at before = (Err (Unmapped address), before)

-- the answer to a write of bytes, and the state after it
abbrev pub bytes_stored : Location → MachineState → ℕ → List ℕ → Result (Unit {0}) SpaceFault × MachineState
bytes_stored (Inside Device start) old at bytes = (Err (BadAccess at B8), old)
bytes_stored (Inside Handover start) old at bytes = (Err (BadAccess at B8), old)
bytes_stored (Inside BootErrors start) old at bytes = (Err (BadAccess at B8), old)
bytes_stored (Inside area start) old at bytes = (Ok tt, put_in area start old bytes)
bytes_stored (Beyond area address) old at bytes = (Err (Unmapped address), old)
bytes_stored (Nowhere address) old at bytes = (Err (Unmapped address), old)

-- the first byte of a copy's source or target that fails: one that is mapped and no plain memory fails before one that is not mapped
-- behind it
abbrev pub copy_fault : Location → ℕ → Option SpaceFault
copy_fault (Inside area start) at = if is_plain area then None else Some (NotMemory at)
copy_fault (Beyond area address) at = if is_plain area then Some (Unmapped address) else Some (NotMemory at)
copy_fault (Nowhere address) at = Some (Unmapped address)

abbrev pub copied_to : Location → MachineState → List ℕ → MachineState
copied_to (Inside area start) state bytes = put_in area start state bytes
copied_to (Beyond area address) state bytes = state
copied_to (Nowhere address) state bytes = state

-- the answer to a copy of n bytes, and the state after it: the source is checked first
abbrev pub copied : Option SpaceFault → Option SpaceFault → Location → Location → MachineState → ℕ → Result (Unit {0}) SpaceFault × MachineState
copied (Some fault) second source target old n = (Err fault, old)
copied None (Some fault) source target old n = (Err fault, old)
copied None None source target old n =
    (Ok tt, copied_to target old (elim source [ Inside area start ↦ part (bytes_in area old.memory) start n | other ↦ [] ]))

abbrev pub copy_of : Location → Location → MachineState → ℕ → ℕ → ℕ → Result (Unit {0}) SpaceFault × MachineState
copy_of source target old from to n = copied (copy_fault source from) (copy_fault target to) source target old n

-- before, a call with its answer, after
abbrev pub Allows : Type 0 → MachineState → Call → MachineState → Type 0
Allows tells old (Read at width answer) new = (answer ≡ number_read (location_of old at (bits width / 8)) old (address_of at) width) × (new ≡ old)
Allows tells old (Write at width value answer) new = NumberWritten tells (location_of old at (bits width / 8)) old (write_of (address_of at) width value answer) new
Allows tells old (Wait micros) new = new ≡ record old { waited = min (old.waited + micros) (2 ^ 64 - 1) }
Allows tells old (Copy from to n answer) new =
    let outcome = copy_of (location_of old (Memory from) n) (location_of old (Memory to) n) old from to n in
    (answer ≡ outcome.0) × (new ≡ outcome.1)
Allows tells old (ReadBytes at before after answer) new =
    let outcome = bytes_read (location_of old (Memory at) (length before)) old at before in
    (answer ≡ outcome.0) × (after ≡ outcome.1) × (new ≡ old)
Allows tells old (WriteBytes at bytes answer) new =
    let outcome = bytes_stored (location_of old (Memory at) (length bytes)) old at bytes in
    (answer ≡ outcome.0) × (new ≡ outcome.1)
