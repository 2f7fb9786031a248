-- The flash of a record store, and a medium of the library: what is shown of one.
use Rattle.std.specs.Prelude.{◌≡◌, ℕ, ◌*◌, Bool, List, [], ◌∷◌, length, drop, codes, Option, Some, None, Result, Ok, Err}
use Rattle.base_model.specs.Bytes.{part}
use Rattle.flash_model.specs.declared.geometry.Geometry.{Geometry}
use Rattle.image_survey.specs.declared.header.MediumError.{MediumError}
use Rattle.image_survey.specs.declared.header.MediumError.TheVariants.{Foreign, Version, Size}
use Rattle.image_survey.specs.Counts.{is_record}
use Rattle.image_survey.specs.Headers.{TellsGeometry}
use Rattle.image_survey.specs.Kinds.{kind_at}
use Rattle.image_survey.specs.Reading.{IsRecordOf}
use Rattle.show_findings.specs.declared.faults.Fault.{Fault}
use Rattle.show_findings.specs.declared.kinds.FileKind.{FileKind}
use Rattle.show_findings.specs.declared.kinds.FileKind.TheVariants.{Image}
use Rattle.show_items.specs.Headers.{IsHeader, medium_structure}
use Rattle.show_items.specs.Items.{Shown}
use Rattle.show_items.specs.Places.{AreFrom}
use Rattle.show_items.specs.Records.{IsRecord}
use Rattle.show_items.specs.Singles.{IsSentence}

abbrev pub HasSize : Geometry → List ℕ → Type 0
HasSize geometry image = length image ≡ geometry.slot_size * geometry.slots

-- a file that is a flash has the size of its geometry
abbrev pub IsSized : FileKind → List ℕ → Type 0
IsSized (Image geometry) bytes = HasSize geometry bytes
IsSized kind bytes = Unit {0}

-- of the flash itself nothing is told but a sentence
abbrev pub IsFlash : List ℕ → Shown → Type 0
IsFlash image item = IsSentence (codes "image") 0 image item

-- a slot is the first one of a record that a boot finds
abbrev pub is_first : Geometry → List ℕ → ℕ → Bool
is_first geometry image slot = is_record (kind_at geometry.slot_size geometry.slots image slot)

-- that record. Its bytes may stand in several slots, so no place is told of it
abbrev pub IsRecordIn : Geometry → List ℕ → ℕ → Shown → Type 0
IsRecordIn geometry image slot item =
    (bytes : List ℕ) × IsRecordOf geometry.slot_size geometry.slots image slot bytes × IsRecord None bytes item

-- the records that begin in so many slots, from one on
abbrev pub AreRecordsFrom : (early : Bool) → Geometry → List ℕ → (slot left : ℕ) → List Shown → Type 0
AreRecordsFrom early geometry image slot left items =
    AreFrom early (is_first geometry image) (IsRecordIn geometry image) slot left items

-- the flash, and behind it its records in the order of the slots in which they begin
abbrev pub AreImageItems : (early : Bool) → Geometry → List ℕ → List Shown → Type 0
AreImageItems early geometry image [] = ⊥
AreImageItems early geometry image (flash ∷ records) =
    IsFlash image flash × AreRecordsFrom early geometry image 0 geometry.slots records

-- the header of a medium
abbrev pub IsMediumHeader : List ℕ → Option Fault → Shown → Type 0
IsMediumHeader medium fault item = IsHeader (codes "medium") medium_structure (part medium 0 50) medium fault item

-- where the fault of an error stands: at the header's start, at its version, or at the size in it
abbrev pub error_place : MediumError → ℕ
error_place Foreign = 0
error_place (Version found) = 8
error_place (Size found wanted) = 32

-- the header of a medium that can't be read has its fault there
abbrev pub IsBadMedium : List ℕ → MediumError → Shown → Type 0
IsBadMedium medium error item =
    (fault : Fault) × (fault.at ≡ error_place error) × IsMediumHeader medium (Some fault) item

-- the header, and behind it the items of the flash; the header alone where it tells no geometry
abbrev pub AreMediumItemsBy : (early : Bool) → Result Geometry MediumError → List ℕ → List Shown → Type 0
AreMediumItemsBy early told medium [] = ⊥
AreMediumItemsBy early (Ok geometry) medium (header ∷ items) =
    IsMediumHeader medium None header × AreImageItems early geometry (drop geometry.sector medium) items
AreMediumItemsBy early (Err error) medium (header ∷ items) = IsBadMedium medium error header × (items ≡ [])

abbrev pub AreMediumItems : (early : Bool) → List ℕ → List Shown → Type 0
AreMediumItems early medium items =
    (told : Result Geometry MediumError) × TellsGeometry medium told × AreMediumItemsBy early told medium items
