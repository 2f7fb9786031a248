-- Where the structures stand in a file.
use Rattle.std.specs.Prelude.{ℕ, List, length, Bool, nat_le, ◌&&◌, nat_eq, codes, if◌then◌else◌}
use Rattle.std.specs.List.{starts_with}
use Rattle.base_model.specs.Bytes.{part, number_at}

-- an entry point with this anchor stands first, and this many bytes of it are there
abbrev pub has_entry_point : List ℕ → List ℕ → ℕ → Bool
has_entry_point file anchor least = starts_with nat_eq file anchor && nat_le least (length file)

-- the address and the length that the entry point tells (DSP0134, 5.2.2 and 5.2.1), as far as the file goes; else all of it
abbrev pub table_in : List ℕ → List ℕ
table_in file =
    if has_entry_point file (codes "_SM3_") 24 then part file (number_at file 16 8) (number_at file 12 4)
    else if has_entry_point file (codes "_SM_") 31 then part file (number_at file 24 4) (number_at file 22 2)
    else file
