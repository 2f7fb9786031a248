-- What a change puts into its range.
use Rattle.std.specs.Prelude.{◌≡◌, ℕ, ◌%◌, ◌<◌, ◌≤◌, List, length, replicate}
use Rattle.base_model.specs.Flash.{IsErased}
use Rattle.erst_port.specs.declared.due.Kind.{Kind}
use Rattle.erst_port.specs.declared.content.Content.{Content}
use Rattle.erst_port.specs.declared.content.Content.TheVariants.{Program, Erase}
use Rattle.erst_port.specs.declared.due.Kind.TheVariants as kinds

abbrev pub bytes_of : Content → List ℕ
bytes_of (Program bytes) = bytes.now
bytes_of (Erase len) = replicate len 0xFF

abbrev pub kind_of : Content → Kind
kind_of (Program bytes) = kinds.Program
kind_of (Erase len) = kinds.Erase

-- what a flash of such sectors may be asked for
abbrev pub IsAsked : (sector : ℕ) (image : List ℕ) (at : ℕ) → Content → Type 0
IsAsked sector image at (Program bytes) = IsErased image at (length bytes.now) × (0 < length bytes.now) × (length bytes.now ≤ 256)
IsAsked sector image at (Erase len) = (at % sector ≡ 0) × (len ≡ sector)
