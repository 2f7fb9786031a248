-- What is seen of a port.
use Rattle.std.specs.Prelude.{◌≡◌, ℕ, ◌+◌, ◌<◌, ◌≤◌, true, List, length}
use Rattle.base_model.specs.Flash.{FlashState}
use Rattle.base_model.specs.Layout.{room_of, reach_of}
use Rattle.erst_port.specs.Dues.{IsLogged}
use Rattle.erst_port.specs.Parts.{size_at}
use Rattle.erst_port.specs.declared.parts.Made.{Made}
use Rattle.erst_entries.specs.Layout.{spelling}
use Rattle.erst_device.specs.DeviceState.{DeviceState}
use Rattle.erst_port.specs.declared.windows.Addresses.{Addresses}
use Rattle.erst_port.specs.Places.{are_apart}
use Rattle.erst_port.specs.PortTables.{port_erst}

-- the device, the bytes of its log range, its table, where its windows stand in memory, how many bytes of the medium stand before the
-- flash, and how much of the flash's changes the medium has made
pub record PortState : Type 0 where
  pub device : DeviceState
  pub range : List ℕ
  pub table : List ℕ
  pub addresses : Addresses
  pub origin : ℕ
  pub made : Made

abbrev pub state_of : DeviceState → List ℕ → List ℕ → Addresses → ℕ → Made → PortState
state_of device range table addresses origin made =
    record { device = device; range = range; table = table; addresses = addresses; origin = origin; made = made }

abbrev pub flash_of : PortState → FlashState
flash_of state = state.device.store.flash

abbrev pub table_size : ℕ
table_size = 880

-- the medium has made every change of the flash
abbrev pub IsMade : PortState → Type 0
IsMade state = state.made.changes ≡ (flash_of state).steps

-- the log range takes the longest record, the table has its size and is that of the addresses, the windows are apart, the medium made no change that the flash did not make, it made a first part
-- of the next one at most, and where it has more than one to make, all changes are known
pub record IsPort (state : PortState) : Type 0 where
  pub range : length state.range ≡ reach_of (room_of state.device.store.layout)
  pub table : length state.table ≡ table_size
  pub tells : state.table ≡ spelling (port_erst state.addresses.registers)
  pub apart : are_apart (length state.range) state.addresses ≡ true
  pub origin : state.origin ≤ 32768
  pub behind : state.made.changes ≤ (flash_of state).steps
  pub begun : 0 < state.made.bytes → (state.made.changes < (flash_of state).steps) × (state.made.bytes < size_at (flash_of state).told state.made.changes)
  pub known : state.made.changes + 1 < (flash_of state).steps → IsLogged (flash_of state)
