-- A device that is saved, as bytes: the geometry of its flash, its registers, the addresses of its windows, and its log range. All numbers
-- have the low byte first.
use Rattle.std.specs.Prelude.{◌≡◌, ℕ, ◌+◌, ◌<◌, ◌≤◌, ◌^◌, List, [], ◌∷◌, ◌++◌, length, codes, Option, Some, None, Result, Ok, Err}
use Rattle.base_model.specs.Bytes.{little, spelled, put_at, joined}
use Rattle.base_model.specs.Layout.{Layout}
use Rattle.erst_device.specs.declared.registers.Operation.{Operation}
use Rattle.erst_device.specs.declared.registers.Operation.TheVariants.{Write, Read, Clear, Dummy}
use Rattle.erst_device.specs.Statuses.{number_of}
use Rattle.erst_device.specs.DeviceState.{DeviceState, IsStill, IsRunning}
use Rattle.erst_port.specs.declared.windows.Addresses.{Addresses}
use Rattle.erst_port.specs.declared.errors.SaveError.{SaveError}
use Rattle.erst_port.specs.declared.errors.SaveError.TheVariants.{Busy, Due, Short}
use Rattle.erst_port.specs.PortState.{PortState, IsPort, IsMade}

-- "APEISAVE" as a number
abbrev pub signature : ℕ
signature = little (codes "APEISAVE")

-- the bytes before the log range
abbrev pub head_size : ℕ
head_size = 80

-- the number of the operation that was begun
abbrev pub operation_number : Option Operation → ℕ
operation_number None = 0
operation_number (Some Write) = 1
operation_number (Some Read) = 2
operation_number (Some Clear) = 3
operation_number (Some Dummy) = 4

-- signature, version 1, bytes of a sector, sectors of a slot, slots, operation, command status, the addresses of the registers and of the
-- log range, VALUE, record offset, record identifier, cursor
abbrev pub head_fields : Layout → Addresses → DeviceState → List (List ℕ)
head_fields layout addresses device =
    spelled 8 signature ∷ spelled 4 1 ∷ spelled 4 layout.sector ∷ spelled 4 layout.per_slot ∷ spelled 4 layout.slots
    ∷ spelled 4 (operation_number device.operation) ∷ spelled 4 (number_of device.status)
    ∷ spelled 8 addresses.registers ∷ spelled 8 addresses.range
    ∷ spelled 8 device.value ∷ spelled 8 device.offset ∷ spelled 8 device.id ∷ spelled 8 device.cursor ∷ []

unfoldable pub saved_head : Layout → Addresses → DeviceState → List ℕ
saved_head layout addresses device = joined (head_fields layout addresses device)

-- the head, and the bytes of the log range
abbrev pub saved_form : PortState → List ℕ
saved_form port = saved_head port.device.store.layout port.addresses port.device ++ port.range

abbrev pub saved_size : PortState → ℕ
saved_size port = head_size + length port.range

-- each field takes its number
pub record HasSmallNumbers (layout : Layout) (addresses : Addresses) (device : DeviceState) : Type 0 where
  pub sector : layout.sector < 2 ^ 32
  pub per_slot : layout.per_slot < 2 ^ 32
  pub slots : layout.slots < 2 ^ 32
  pub registers : addresses.registers < 2 ^ 64
  pub range : addresses.range < 2 ^ 64
  pub value : device.value < 2 ^ 64
  pub offset : device.offset < 2 ^ 64
  pub id : device.id < 2 ^ 64
  pub cursor : device.cursor < 2 ^ 64

-- a port, of which no execution runs and no change is due, was saved as these bytes
pub record IsSaved (port : PortState) (bytes : List ℕ) : Type 0 where
  pub form : bytes ≡ saved_form port
  pub small : HasSmallNumbers port.device.store.layout port.addresses port.device
  pub still : IsStill port.device
  pub made : IsMade port
  pub whole : IsPort port

-- what a save answers, and what it puts at the front of a buffer. Exactly one reason refuses it, and then it puts nothing there
abbrev pub Saves : PortState → (before : List ℕ) → Result ℕ SaveError → (after : List ℕ) → Type 0
Saves port before (Err Busy) after = IsRunning port.device × (after ≡ before)
Saves port before (Err Due) after = IsStill port.device × (IsMade port → ⊥) × (after ≡ before)
Saves port before (Err (Short need)) after =
    IsStill port.device × IsMade port × (need ≡ saved_size port) × (length before < need) × (after ≡ before)
Saves port before (Ok size) after =
    (size ≡ saved_size port) × (size ≤ length before)
    × ((bytes : List ℕ) × IsSaved port bytes × (length bytes ≡ size) × (after ≡ put_at before 0 bytes))
