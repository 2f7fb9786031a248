-- Names for terms that definitions write out.
use Rattle.hest_sources.specs.declared.sources.Ack.{Ack}
use Rattle.std.specs.Prelude.{List, None, Option, Some, [], ℕ, ◌∷◌, codes, drop, length, ◌<◌, ◌^◌}
use Rattle.base_model.specs.Bytes.{joined, spelled, number_at, part}
use Rattle.apei_tables.specs.GasLayout.{spelling, IsGas}
use Rattle.hest_sources.specs.Layout.{gas_at}
use Rattle.hest_sources.specs.declared.sources.HestSource.{HestSource}
use Rattle.apei_bytes.specs.Walk.{items_in}
use Rattle.hest_sources.specs.Walk.{structure_walk}

abbrev pub ack_bytes : Option Ack → List ℕ
ack_bytes ack = elim ack [ None ↦ [] | Some given ↦ joined (spelling given.register ∷ spelled 8 given.preserve ∷ spelled 8 given.write ∷ []) ]

abbrev pub ack_at : List ℕ → Ack
ack_at bytes = record { register = gas_at (part bytes 64 12); preserve = number_at bytes 76 8; write = number_at bytes 84 8 }

abbrev pub signature : List ℕ
signature = codes "HEST"

abbrev pub sources_in : List ℕ → List HestSource
sources_in table = items_in structure_walk (length table) 0 40 (drop 40 table)

-- each number of an acknowledgement fits its field
abbrev pub IsAck : Ack → Type 0
IsAck ack = IsGas ack.register × (ack.preserve < 2 ^ 64) × (ack.write < 2 ^ 64)
