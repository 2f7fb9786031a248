-- The three windows of a handover in memory: the block's address, the acknowledge register and the block.
use Rattle.std.specs.Prelude.{◌≡◌, ℕ, ◌-◌, ◌*◌, ◌/◌, ◌%◌, ◌^◌, ◌<◌, ◌≤◌, List, [], ◌∷◌, bit_and, bit_or}
use Rattle.base_model.specs.Bytes.{little, spelled}
use Rattle.apei_tables.specs.declared.registers.Place.TheVariants.{Memory}
use Rattle.apei_tables.specs.Access.{bits}
use Rattle.apei_space.specs.RamState.{RamState, FillsWindows, located, stored}
use Rattle.apei_space.specs.Mapped.{AreMapped, AreDisjoint}
use Rattle.ghes_ack.specs.declared.window.BlockWindow.{BlockWindow}
pub use Rattle.ghes_ack.specs.Places.{bytes_at}
use Rattle.ghes_ack.specs.declared.maps.HandoverMap.{HandoverMap}
use Rattle.ghes_ack.specs.declared.events.Event.{Event}
use Rattle.ghes_ack.specs.declared.events.Event.TheVariants.{Fill, Publish, Clear, Ack}
use Rattle.ghes_ack.specs.Machine.{with_status}

-- where the block's window lies
abbrev pub window_of : HandoverMap → BlockWindow
window_of map = record { block = map.block; len = map.len }

-- the bytes of an access of the acknowledge register
abbrev pub ack_bytes : HandoverMap → ℕ
ack_bytes map = bits map.ack.access / 8

-- the acknowledge bits, moved up to the register's field
abbrev pub ack_mask : HandoverMap → ℕ
ack_mask map = map.write * 2 ^ map.ack.offset % 2 ^ 64

-- there is an acknowledge bit, and all of them lie in the register's access
pub record HasAckBits (map : HandoverMap) : Type 0 where
  pub some : 0 < ack_mask map
  pub inside : map.write * 2 ^ map.ack.offset < 2 ^ bits map.ack.access

-- the memory has the map's three windows, they are apart, and the block's has room for a block's head
pub record HasWindows (map : HandoverMap) (ram : RamState) : Type 0 where
  pub head : 20 ≤ map.len
  pub fills : FillsWindows ram
  pub status : AreMapped ram.windows (Memory map.status) 8
  pub ack : AreMapped ram.windows map.ack.place (ack_bytes map)
  pub block : AreMapped ram.windows (Memory map.block) map.len
  pub status_ack : AreDisjoint (Memory map.status) 8 map.ack.place (ack_bytes map)
  pub status_block : AreDisjoint (Memory map.status) 8 (Memory map.block) map.len
  pub ack_block : AreDisjoint map.ack.place (ack_bytes map) (Memory map.block) map.len

-- what the acknowledge register and the block's window hold
abbrev pub ack_read : HandoverMap → RamState → ℕ
ack_read map ram = little (bytes_at ram map.ack.place (ack_bytes map))

abbrev pub window : HandoverMap → RamState → List ℕ
window map ram = bytes_at ram (Memory map.block) map.len

-- the acknowledge bits are set, or clear
abbrev pub IsSet : HandoverMap → RamState → Type 0
IsSet map ram = bit_and (ack_read map ram) (ack_mask map) ≡ ack_mask map

abbrev pub IsClear : HandoverMap → RamState → Type 0
IsClear map ram = bit_and (ack_read map ram) (ack_mask map) ≡ 0

-- the memory with other bytes in one of the windows, and nothing else changed
abbrev pub with_address : HandoverMap → RamState → RamState
with_address map ram = stored (located ram.windows (Memory map.status) 8) ram (spelled 8 map.block)

abbrev pub with_ack : HandoverMap → RamState → ℕ → RamState
with_ack map ram value = stored (located ram.windows map.ack.place (ack_bytes map)) ram (spelled (ack_bytes map) value)

abbrev pub with_window : HandoverMap → RamState → List ℕ → RamState
with_window map ram bytes = stored (located ram.windows (Memory map.block) map.len) ram bytes

-- a register with the acknowledge bits clear and all else kept, and as the reader acknowledges
abbrev pub with_clear : HandoverMap → ℕ → ℕ
with_clear map read = bit_and read (2 ^ 64 - 1 - ack_mask map)

abbrev pub acknowledged : HandoverMap → ℕ → ℕ
acknowledged map read = bit_or (bit_and read (map.preserve * 2 ^ map.ack.offset % 2 ^ 64)) (ack_mask map)

-- what a start leaves of a memory: the address, the acknowledge bits set, the status word 0, and all else as before
abbrev pub memory_started : HandoverMap → RamState → RamState
memory_started map ram =
    with_window map (with_ack map (with_address map ram) (bit_or (ack_read map ram) (ack_mask map)))
    (with_status (window map ram) (spelled 4 0))

-- what a turn leaves of a memory, where the window then holds these bytes: all else is as before, but that a publication
-- clears the acknowledge bits, and an acknowledgement writes the register
abbrev pub memory_after : HandoverMap → Event → RamState → List ℕ → RamState
memory_after map Fill ram bytes = with_window map ram bytes
memory_after map Publish ram bytes = with_window map (with_ack map ram (with_clear map (ack_read map ram))) bytes
memory_after map Clear ram bytes = with_window map ram bytes
memory_after map Ack ram bytes = with_ack map ram (acknowledged map (ack_read map ram))
memory_after map _ ram bytes = ram

-- what turns leave of a memory, one after another: each what its own event leaves
abbrev pub AreLeft : HandoverMap → List Event → RamState → RamState → Type 0
AreLeft map [] ram memory = memory ≡ ram
AreLeft map (event ∷ events) ram memory =
    (between : RamState) × (between ≡ memory_after map event ram (window map between)) × AreLeft map events between memory
