-- The sources of C's numbers.
use Rattle.std.specs.Prelude.{ℕ, ◌+◌, ◌==◌, ◌||◌, if◌then◌else◌, List, [], ◌∷◌, map, Option, Some, None}
use Rattle.apei_tables.specs.declared.structure.Gas.{Gas}
use Rattle.hest_sources.specs.declared.sources.Ghes.{Ghes}
use Rattle.hest_sources.specs.declared.sources.Ack.{Ack}
use Rattle.ghes_port.specs.declared.setups.Setup.{Setup}
use Rattle.apei_c.specs.declared.source_structs.RegisterNumbers.{RegisterNumbers}
use Rattle.apei_c.specs.declared.source_structs.SourceNumbers.{SourceNumbers}

abbrev pub gas_of : RegisterNumbers → Gas
gas_of n = record { space = n.space; width = n.width; offset = n.offset; access = n.access; address = n.address }

-- an acknowledge register stands in sources of type 10 alone
abbrev pub ack_of : SourceNumbers → Option Ack
ack_of n = if n.kind == 10 then Some (record { register = gas_of n.ack; preserve = n.preserve; write = n.write }) else None

abbrev pub ghes_of : SourceNumbers → Ghes
ghes_of n = record {
  id = n.id;
  related = n.related;
  flags = n.flags;
  enabled = n.enabled;
  records = n.records;
  sections = n.sections;
  raw = n.raw;
  status = gas_of n.address;
  notify = n.notification;
  block_len = n.length;
  ack = ack_of n;
}

abbrev pub setup_of : SourceNumbers → Setup
setup_of n = record { source = ghes_of n; block = n.block; places = n.places }

abbrev pub setups_of : List SourceNumbers → List Setup
setups_of numbers = map setup_of numbers

-- the first source, counted from here, that is of neither type
abbrev pub untyped : ℕ → List SourceNumbers → Option ℕ
untyped i [] = None
untyped i (n ∷ rest) = if n.kind == 9 || n.kind == 10 then untyped (i + 1) rest else Some i
