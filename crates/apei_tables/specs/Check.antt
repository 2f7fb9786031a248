-- The register that a Generic Address Structure describes, or the first reason why there is none.
use Rattle.std.specs.Prelude.{◌+◌, max, nat_lt, ◌==◌, ◌||◌, if◌then◌else◌, Result, Ok, Err}
use Rattle.apei_tables.specs.declared.structure.Gas.{Gas}
use Rattle.apei_tables.specs.declared.registers.Register.{Register}
use Rattle.apei_tables.specs.declared.registers.Place.TheVariants.{Memory, Io}
use Rattle.apei_tables.specs.declared.registers.BadRegister.{BadRegister}
use Rattle.apei_tables.specs.declared.registers.BadRegister.TheVariants.{Space, Access, Bits}
use Rattle.apei_tables.specs.Access.{bits_of_code, narrowest}

-- address space 0 is system memory and 1 is system I/O. The access is the narrowest that has the bits which the access size names and
-- reaches the field's last bit
abbrev pub register_of : Gas → Register
register_of gas = record {
  place = if gas.space == 0 then Memory gas.address else Io gas.address;
  access = narrowest (max (gas.offset + gas.width) (bits_of_code gas.access));
  offset = gas.offset;
}

-- the first refusal that applies, or else the register
abbrev pub checked : Gas → Result Register BadRegister
checked gas =
    if nat_lt 1 gas.space then Err (Space gas.space)
    else (if nat_lt 4 gas.access then Err (Access gas.access)
    else (if gas.width == 0 || nat_lt 64 (gas.offset + gas.width) then Err (Bits gas.offset gas.width)
    else Ok (register_of gas)))
