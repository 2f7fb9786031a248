-- What a flash in a file works on.
use Rattle.std.specs.Prelude.{ℕ, List, [], length}
use Rattle.file_flash.specs.declared.medium.Medium.{Medium}
use Rattle.file_flash.specs.declared.medium.Medium.TheVariants.{Held, Unusable}

-- its size in bytes
abbrev pub size_of : Medium → ℕ
size_of (Held file image) = length image.items
size_of (Unusable size) = size

-- the bytes that it holds
abbrev pub image_of : Medium → List ℕ
image_of (Held file image) = image.items
image_of (Unusable size) = []

abbrev pub IsUnusable : Medium → Type 0
IsUnusable (Held file image) = ⊥
IsUnusable (Unusable size) = Unit {0}
