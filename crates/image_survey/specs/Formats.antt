-- A format makes a medium of a geometry, whatever was there, by one change after another.
use Rattle.std.specs.Prelude.{◌≡◌, ◌⊎◌, ℕ, zero, suc, ◌+◌, ◌-◌, ◌*◌, List, [], ◌∷◌, ◌++◌, drop, replicate}
use Rattle.base_model.specs.Bytes.{put_at}
use Rattle.flash_model.specs.declared.geometry.Geometry.{Geometry}
use Rattle.image_survey.specs.declared.format.Content.{Content}
use Rattle.image_survey.specs.declared.format.Content.TheVariants.{Header, Mark, Erased}
use Rattle.image_survey.specs.declared.format.FormatChange.{FormatChange}
use Rattle.image_survey.specs.Headers.{header_of, flash_size, medium_size, whole, not_ended, ended, IsForeign}

-- the bytes that a change leaves in its range
abbrev pub content_bytes : (len : ℕ) → Content → List ℕ
content_bytes len (Header bytes) = bytes
content_bytes len (Mark byte) = byte
content_bytes len Erased = replicate len 0xFF

abbrev pub bytes_of : FormatChange → List ℕ
bytes_of change = content_bytes change.len change.content

abbrev pub marks : (at byte : ℕ) → FormatChange
marks at byte = record { at = at; len = 1; content = Mark (byte ∷ []) }

abbrev pub puts_header : Geometry → FormatChange
puts_header geometry = record { at = 0; len = 48; content = Header (header_of geometry) }

abbrev pub erases : Geometry → (number : ℕ) → FormatChange
erases geometry number = record { at = number * geometry.sector; len = geometry.sector; content = Erased }

-- the erases of n sectors from a number on
unfoldable pub erases_from : Geometry → (number n : ℕ) → List FormatChange
erases_from geometry number zero = []
erases_from geometry number (suc n) = erases geometry number ∷ erases_from geometry (number + 1) n

abbrev pub flash_sectors : Geometry → ℕ
flash_sectors geometry = geometry.per_slot * geometry.slots

-- the end mark, so that what was a medium is none; the erases of the flash's sectors and then of the first one; the header; and at last
-- the mark that makes it whole
unfoldable pub format_changes : Geometry → List FormatChange
format_changes geometry =
    marks 49 ended ∷ erases_from geometry 1 (flash_sectors geometry)
    ++ erases geometry 0 ∷ puts_header geometry ∷ marks 48 whole ∷ []

-- bytes after changes
unfoldable pub after : List FormatChange → List ℕ → List ℕ
after [] medium = medium
after (change ∷ changes) medium = after changes (put_at medium change.at (bytes_of change))

-- a medium that was just formatted
unfoldable pub new_medium : Geometry → List ℕ
new_medium geometry = header_of geometry ++ whole ∷ replicate (medium_size geometry - 49) 0xFF

-- what power lost in change number `step` may leave: no medium; in the first change every byte as it was, but that the end mark reads as
-- erased; in the erase of the first sector and at the last mark, a flash that is erased
pub data LeftByFormat (geometry : Geometry) (before : List ℕ) (step : ℕ) (left : List ℕ) : Type 0 where
  NoMedium : IsForeign left → LeftByFormat geometry before step left
  NotBegun : step ≡ 0 → left ≡ put_at before 49 (not_ended ∷ []) → LeftByFormat geometry before step left
  AllErased : (step ≡ flash_sectors geometry + 1) ⊎ (step ≡ flash_sectors geometry + 3) → drop geometry.sector left ≡ replicate (flash_size geometry) 0xFF
      → LeftByFormat geometry before step left
