-- How much memory a device takes.
use Rattle.std.specs.Prelude.{◌≡◌, ◌⊎◌, ℕ, ◌+◌, ◌-◌, ◌*◌, ◌/◌, ◌^◌, min}
use Rattle.std.specs.Mem.{type_size}
use Rattle.base_model.specs.Layout.{reach_of}
use Rattle.flash_model.specs.declared.geometry.Geometry.{Geometry}
use Rattle.image_survey.specs.Headers.{flash_size}
use Rattle.erst_port.specs.contracts.port.Port.{the_row}
use Rattle.erst_port.specs.Dues.{log_room}
use Rattle.erst_port.specs.PortState.{table_size}
use Rattle.apei_c.specs.declared.status.Status.{Status}
use Rattle.apei_c.specs.declared.status.Status.TheVariants.{Done, Geometry as BadGeometry}
use Rattle.apei_c.specs.declared.structs.MediumGeometry.{MediumGeometry}
use Rattle.apei_c.specs.Formats.{Divides, DividesNothing}

-- the bytes of the blocks that an opening asks for, but for the device's own: the table; the flash; the log range and the store's buffer, each as
-- long as the longest record; for each sector the bytes that are erased in it; room for first changes, with what each is and its bytes; and for
-- each slot an identifier, the place of its record, a number, and what a look saw of it
abbrev pub blocks_size : Geometry → ℕ
blocks_size geometry =
    table_size + flash_size geometry + 2 * reach_of (geometry.slot_size - 64) + 16 * (geometry.per_slot * geometry.slots)
    + (33 * log_room (flash_size geometry) + 256) + 72 * geometry.slots

-- those of the device's own
abbrev pub device_size : ℕ
device_size = type_size the_row

abbrev pub device_memory : Geometry → ℕ
device_memory geometry = min (device_size + blocks_size geometry) (2 ^ 64 - 1)

abbrev pub TellsMemory : MediumGeometry → (before : ℕ) → Status → (after : ℕ) → Type 0
TellsMemory numbers before status after =
    ((status ≡ Done) × ((geometry : Geometry) × Divides numbers geometry × (after ≡ device_memory geometry)))
    ⊎ ((status ≡ BadGeometry) × DividesNothing numbers × (after ≡ before))
