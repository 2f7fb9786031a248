-- How often each sector was erased.
use Rattle.std.specs.Prelude.{ℕ, ◌+◌, ◌-◌, ◌^◌, List, min, slice_set, slice_index_or}

-- the counts after one more erase of a sector. A count stands still at the last value of its type
abbrev pub erased_once_more : List ℕ → ℕ → List ℕ
erased_once_more erases sector = slice_set erases sector (min (slice_index_or erases sector 0 + 1) (2 ^ 32 - 1))
