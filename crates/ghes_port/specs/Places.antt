-- Where bytes stand, and how many an access moves.
use Rattle.std.specs.Prelude.{ℕ, ◌+◌, ◌/◌, ◌^◌}
use Rattle.apei_tables.specs.declared.registers.Place.{Place}
use Rattle.apei_tables.specs.declared.registers.Place.TheVariants.{Memory, Io}
use Rattle.apei_tables.specs.declared.widths.Width.{Width}
use Rattle.apei_tables.specs.Access.{bits}

-- a place among all bytes: those of memory, and after its 2 ^ 64 addresses those of I/O space
abbrev pub index_of : Place → ℕ
index_of (Memory at) = at
index_of (Io at) = 2 ^ 64 + at

-- how many bytes an access moves
abbrev pub octets : Width → ℕ
octets access = bits access / 8
