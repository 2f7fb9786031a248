-- Where the instruction entries of an ERST and the error sources of a HEST stand (ACPI 6.4, sections 18.3 and 18.5.1).
use Rattle.std.specs.Prelude.{ℕ, ◌+◌, ◌*◌, List, drop, Result}
use Rattle.base_model.specs.Bytes.{number_at}
use Rattle.hest_sources.specs.Layout.{length_by_type}
use Rattle.hest_sources.specs.declared.tables.HestError.{HestError}

-- an instruction entry
abbrev pub instruction_at : (index : ℕ) → ℕ
instruction_at index = 48 + 32 * index

-- an error source: its type, and its length by its type
abbrev pub source_kind : List ℕ → (at : ℕ) → ℕ
source_kind bytes at = number_at (drop at bytes) 0 2

abbrev pub source_length : List ℕ → (at : ℕ) → Result ℕ HestError
source_length bytes at = length_by_type (source_kind bytes at) 0 (drop at bytes)
