-- The first sector of a medium says what the medium is. All numbers have the low byte first.
use Rattle.std.specs.Prelude.{◌≡◌, ◌≢◌, ◌⊎◌, ℕ, ◌+◌, ◌-◌, ◌*◌, ◌%◌, ◌^◌, ◌≤◌, List, [], ◌∷◌, length, codes, Result, Ok, Err}
use Rattle.base_model.specs.Bytes.{part, number_at, little, spelled, joined}
use Rattle.flash_model.specs.declared.geometry.Geometry.{Geometry}
use Rattle.image_survey.specs.declared.header.MediumError.{MediumError}
use Rattle.image_survey.specs.declared.header.MediumError.TheVariants.{Foreign, Version, Size}
use Rattle.image_survey.specs.declared.header.FirstSector.{FirstSector}
use Rattle.image_survey.specs.declared.header.FirstSector.TheVariants as first
use Rattle.image_survey.specs.Checksums.{word_sum}

-- "APEIERST" as a number
abbrev pub signature : ℕ
signature = little (codes "APEIERST")

-- the byte at 48 of a whole medium
abbrev pub whole : ℕ
whole = 0x3C

-- the byte at 49, as an erased flash has it, and once a format has begun
abbrev pub not_ended : ℕ
not_ended = 0xFF

abbrev pub ended : ℕ
ended = 0x00

-- the bytes of the flash of a geometry, and of its whole medium: one sector more
abbrev pub flash_size : Geometry → ℕ
flash_size geometry = geometry.slot_size * geometry.slots

abbrev pub medium_size : Geometry → ℕ
medium_size geometry = geometry.sector + flash_size geometry

-- signature, version 1, length of the header with its marks, bytes of a sector, sectors of a slot, slots, a reserved number, bytes of the
-- medium, checksum, a reserved number: 48 bytes
abbrev pub header_fields : Geometry → (checksum : ℕ) → List (List ℕ)
header_fields geometry checksum =
    spelled 8 signature ∷ spelled 4 1 ∷ spelled 4 64 ∷ spelled 4 geometry.sector ∷ spelled 4 geometry.per_slot ∷ spelled 4 geometry.slots ∷ spelled 4 0
    ∷ spelled 8 (medium_size geometry) ∷ spelled 4 checksum ∷ spelled 4 0 ∷ []

unfoldable pub header_with : Geometry → (checksum : ℕ) → List ℕ
header_with geometry checksum = joined (header_fields geometry checksum)

-- the checksum with which the 12 words of the header add to 0
unfoldable pub header_checksum : Geometry → ℕ
header_checksum geometry = (2 ^ 32 - word_sum 12 (header_with geometry 0) % 2 ^ 32) % 2 ^ 32

abbrev pub header_of : Geometry → List ℕ
header_of geometry = header_with geometry (header_checksum geometry)

-- bytes begin with the signature
pub record IsSigned (medium : List ℕ) : Type 0 where
  pub long : 8 ≤ length medium
  pub signed : number_at medium 0 8 ≡ signature

-- bytes begin with a whole header, of whatever version
pub record IsWhole (medium : List ℕ) : Type 0 where
  pub long : 64 ≤ length medium
  pub signed : number_at medium 0 8 ≡ signature
  pub sealed : word_sum 12 medium % 2 ^ 32 ≡ 0
  pub marked : number_at medium 48 1 ≡ whole
  pub begun : number_at medium 49 1 ≡ not_ended

abbrev pub version_of : List ℕ → ℕ
version_of medium = number_at medium 8 4

-- they begin with the header of a geometry
pub record HasHeader (geometry : Geometry) (medium : List ℕ) : Type 0 where
  pub whole : IsWhole medium
  pub header : part medium 0 48 ≡ header_of geometry

-- a medium of a geometry
pub record IsMedium (geometry : Geometry) (medium : List ℕ) : Type 0 where
  pub has : HasHeader geometry medium
  pub size : length medium ≡ medium_size geometry

-- no header is whole, or it is of version 1 and no geometry's
abbrev pub IsForeign : List ℕ → Type 0
IsForeign medium = (IsWhole medium → ⊥) ⊎ ((version_of medium ≡ 1) × ((geometry : Geometry) → HasHeader geometry medium → ⊥))

-- what the first sector of a file says: exactly one of these holds
abbrev pub IsFirstSector : List ℕ → FirstSector → Type 0
IsFirstSector file first.Unsigned = IsSigned file → ⊥
IsFirstSector file (first.Medium geometry) = HasHeader geometry file
IsFirstSector file (first.Version found) = IsWhole file × (found ≡ version_of file) × (found ≢ 1)
IsFirstSector file first.Damaged = IsSigned file × IsForeign file

-- why bytes are no medium: exactly one reason applies
abbrev pub RefusesMedium : List ℕ → MediumError → Type 0
RefusesMedium medium Foreign = IsForeign medium
RefusesMedium medium (Version found) = IsWhole medium × (found ≡ version_of medium) × (found ≢ 1)
RefusesMedium medium (Size found wanted) =
    (geometry : Geometry) × HasHeader geometry medium × (found ≡ length medium) × (wanted ≡ medium_size geometry) × (found ≢ wanted)

-- the geometry that bytes tell, or why they tell none
abbrev pub TellsGeometry : List ℕ → Result Geometry MediumError → Type 0
TellsGeometry medium (Ok geometry) = IsMedium geometry medium
TellsGeometry medium (Err error) = RefusesMedium medium error
