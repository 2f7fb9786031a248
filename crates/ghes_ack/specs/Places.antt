-- The bytes at a place of the memory.
use Rattle.std.specs.Prelude.{ℕ, List, [], Ok, Err}
use Rattle.base_model.specs.Bytes.{part}
use Rattle.apei_tables.specs.declared.registers.Place.{Place}
use Rattle.apei_space.specs.RamState.{RamState, located}

-- the n bytes at a place, none where they are not mapped
abbrev pub bytes_at : RamState → Place → ℕ → List ℕ
bytes_at ram at n = elim (located ram.windows at n) [ Ok start ↦ part ram.bytes start n | Err fault ↦ [] ]
