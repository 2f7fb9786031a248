-- The window of an error status block in memory.
use Rattle.std.specs.Prelude.{ℕ, ◌≤◌, List}
use Rattle.base_model.specs.Bytes.{little, number_at, spelled}
use Rattle.apei_tables.specs.declared.registers.Place.TheVariants.{Memory}
use Rattle.apei_space.specs.RamState.{RamState, FillsWindows, located, stored}
use Rattle.apei_space.specs.Mapped.{AreMapped, AreDisjoint}
use Rattle.ghes_ack.specs.declared.window.BlockWindow.{BlockWindow}
use Rattle.ghes_ack.specs.Places.{bytes_at}

-- the memory has the window, and it has room for a block's head
pub record HasBlock (at : BlockWindow) (ram : RamState) : Type 0 where
  pub head : 20 ≤ at.len
  pub fills : FillsWindows ram
  pub block : AreMapped ram.windows (Memory at.block) at.len

-- what it holds
abbrev pub block_bytes : BlockWindow → RamState → List ℕ
block_bytes at ram = bytes_at ram (Memory at.block) at.len

abbrev pub block_status : BlockWindow → RamState → ℕ
block_status at ram = number_at (block_bytes at ram) 0 4

-- the memory with other bytes in the window, and nothing else changed
abbrev pub with_block : BlockWindow → RamState → List ℕ → RamState
with_block at ram bytes = stored (located ram.windows (Memory at.block) at.len) ram bytes

-- the memory has the window, and the 8 bytes that hold its address, which are apart from it
pub record HasAddressed (place : ℕ) (at : BlockWindow) (ram : RamState) : Type 0 where
  pub head : 20 ≤ at.len
  pub fills : FillsWindows ram
  pub status : AreMapped ram.windows (Memory place) 8
  pub block : AreMapped ram.windows (Memory at.block) at.len
  pub status_block : AreDisjoint (Memory place) 8 (Memory at.block) at.len

abbrev pub address_at : ℕ → RamState → ℕ
address_at place ram = little (bytes_at ram (Memory place) 8)

abbrev pub with_address_at : ℕ → BlockWindow → RamState → RamState
with_address_at place at ram = stored (located ram.windows (Memory place) 8) ram (spelled 8 at.block)
