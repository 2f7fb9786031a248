-- What a change of a simulated flash puts into its range.
use Rattle.std.specs.Prelude.{◌≡◌, ℕ, ◌%◌, List, replicate}
use Rattle.flash_model.specs.declared.content.Content.{Content}
use Rattle.flash_model.specs.declared.content.Content.TheVariants.{Bytes, Erased}

abbrev pub bytes_of : Content → List ℕ
bytes_of (Bytes bytes) = bytes.now
bytes_of (Erased len) = replicate len 0xFF

-- an erase is one of a whole sector
abbrev pub IsWhole : (sector at : ℕ) → Content → Type 0
IsWhole sector at (Bytes bytes) = Unit {0}
IsWhole sector at (Erased len) = (at % sector ≡ 0) × (len ≡ sector)
