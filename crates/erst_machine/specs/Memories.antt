-- The bytes of the machine's areas but for the device's registers.
use Rattle.std.specs.Prelude.{◌≡◌, ℕ, ◌≤◌, List, [], ◌∷◌, length}
pub use Rattle.base_model.specs.Bytes.{zeros}
use Rattle.apei_tables.specs.declared.registers.Place.TheVariants.{Memory}
use Rattle.apei_space.specs.RamState.{RamState}
use Rattle.erst_machine.specs.Areas.{base_of, scratch_len, region_len, size_of}
use Rattle.erst_machine.specs.declared.areas.Area.{Area}
use Rattle.erst_machine.specs.declared.areas.Area.TheVariants.{Device, Scratch, LogRange, Handover, BootErrors, Ports}
use Rattle.erst_machine.specs.declared.contents.Contents.{Contents}

-- the log range, plain memory, the ports, the boot error region, and the memory in which the handover's two sides meet
pub record MemoryState : Type 0 where
  pub range : List ℕ
  pub scratch : List ℕ
  pub ports : List ℕ
  pub region : List ℕ
  pub shared : RamState

-- what is seen of the machine's buffers
abbrev pub memory_of : Contents → MemoryState
memory_of contents = record {
  range = contents.range.items;
  scratch = contents.scratch.items;
  ports = contents.ports.items;
  region = contents.region.items;
  shared = contents.shared;
}

-- the bytes of an area
abbrev pub bytes_in : Area → MemoryState → List ℕ
bytes_in Device memory = []
bytes_in Scratch memory = memory.scratch
bytes_in LogRange memory = memory.range
bytes_in Handover memory = memory.shared.bytes
bytes_in BootErrors memory = memory.region
bytes_in Ports memory = memory.ports

-- the memory with other bytes in an area that accesses write
abbrev pub with_bytes : Area → MemoryState → List ℕ → MemoryState
with_bytes Device memory bytes = memory
with_bytes Scratch memory bytes = record memory { scratch = bytes }
with_bytes LogRange memory bytes = record memory { range = bytes }
with_bytes Handover memory bytes = memory
with_bytes BootErrors memory bytes = memory
with_bytes Ports memory bytes = record memory { ports = bytes }

-- an access reads an area's bytes, and writes them
abbrev pub IsReadable : Area → Type 0
IsReadable Device = ⊥
IsReadable area = Unit {0}

abbrev pub IsWritable : Area → Type 0
IsWritable Scratch = Unit {0}
IsWritable LogRange = Unit {0}
IsWritable Ports = Unit {0}
IsWritable area = ⊥

-- the handover's memory before its first start, with its one window
abbrev pub blank : RamState
blank = record { windows = (record { place = Memory (base_of Handover); len = size_of 0 Handover }) ∷ []; bytes = zeros (size_of 0 Handover); waited = 0 }

-- each area is as long as the map says, and the log range ends before the device
pub record HasSizes (reach : ℕ) (memory : MemoryState) : Type 0 where
  pub small : reach ≤ 65536
  pub range : length memory.range ≡ reach
  pub scratch : length memory.scratch ≡ scratch_len
  pub ports : length memory.ports ≡ size_of reach Ports
  pub region : length memory.region ≡ region_len
  pub shared : memory.shared.windows ≡ blank.windows

-- the memory of a machine that has power from now on, but for what the handover's two sides wrote
abbrev pub cleared : ℕ → RamState → MemoryState
cleared reach shared = record { range = zeros reach; scratch = zeros scratch_len; ports = zeros (size_of reach Ports); region = zeros region_len; shared = shared }
