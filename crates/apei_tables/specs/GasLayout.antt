-- The 12 bytes of a Generic Address Structure (ACPI 6.4, section 5.2.3.2).
use Rattle.std.specs.Prelude.{ℕ, ◌<◌, ◌^◌, List, ◌∷◌}
use Rattle.base_model.specs.Bytes.{spelled}
use Rattle.apei_tables.specs.declared.structure.Gas.{Gas}

-- address space, bit width, bit offset and access size, one byte each, and the address in 8 bytes
abbrev pub spelling : Gas → List ℕ
spelling gas = gas.space ∷ gas.width ∷ gas.offset ∷ gas.access ∷ spelled 8 gas.address

-- each of its numbers fits its field
pub record IsGas (gas : Gas) : Type 0 where
  pub space : gas.space < 256
  pub width : gas.width < 256
  pub offset : gas.offset < 256
  pub access : gas.access < 256
  pub address : gas.address < 2 ^ 64
