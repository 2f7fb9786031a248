-- The walk over a table's structures, to its end.
use Rattle.std.specs.Prelude.{ℕ, List, length, drop, ◌==◌, Result}
use Rattle.apei_bytes.specs.Walk.{Walk, item_count}
use Rattle.hest_sources.specs.declared.sources.HestSource.{HestSource}
use Rattle.hest_sources.specs.declared.tables.HestError.{HestError}
use Rattle.hest_sources.specs.Layout.{source_at, structure_length}

-- how structures are read one after another
abbrev pub structure_walk : Walk HestSource HestError
structure_walk = record { ends = λ rest. length rest == 0; size = λ index. structure_length; item = source_at }

abbrev pub source_count : List ℕ → Result ℕ HestError
source_count table = item_count structure_walk (length table) 0 40 (drop 40 table)
