-- What C is told of media and of their formats.
use Rattle.std.specs.Prelude.{◌≡◌, ◌⊎◌, ℕ, Bool, true, false, List, slice_get, Option, Some, None}
use Rattle.flash_model.specs.declared.geometry.Geometry.{Geometry}
use Rattle.flash_model.specs.Limits.{IsGeometry}
use Rattle.image_survey.specs.declared.format.FormatChange.{FormatChange}
use Rattle.image_survey.specs.declared.format.Content.{Content}
use Rattle.image_survey.specs.declared.format.Content.TheVariants.{Header, Mark, Erased}
use Rattle.image_survey.specs.Headers.{medium_size}
use Rattle.image_survey.specs.Formats.{format_changes}
use Rattle.apei_c.specs.Buffers.{Fills, ToldChange}
use Rattle.apei_c.specs.declared.status.Status.{Status}
use Rattle.apei_c.specs.declared.status.Status.TheVariants.{Done, Nothing, Short, Geometry as BadGeometry}
use Rattle.apei_c.specs.declared.structs.MediumGeometry.{MediumGeometry}
use Rattle.apei_c.specs.declared.structs.MediumChange.{MediumChange}

-- these numbers are those of a geometry
pub record Divides (numbers : MediumGeometry) (geometry : Geometry) : Type 0 where
  pub sector : geometry.sector ≡ numbers.sector
  pub per_slot : geometry.per_slot ≡ numbers.sectors_per_slot
  pub slots : geometry.slots ≡ numbers.slots

-- they are outside their limits
abbrev pub DividesNothing : MediumGeometry → Type 0
DividesNothing numbers = IsGeometry numbers.sector numbers.sectors_per_slot numbers.slots → ⊥

abbrev pub TellsSize : MediumGeometry → (before : ℕ) → Status → (after : ℕ) → Type 0
TellsSize numbers before status after =
    ((status ≡ Done) × ((geometry : Geometry) × Divides numbers geometry × (after ≡ medium_size geometry)))
    ⊎ ((status ≡ BadGeometry) × DividesNothing numbers × (after ≡ before))

abbrev pub kind_of : Content → ℕ
kind_of (Header bytes) = 0
kind_of (Mark byte) = 0
kind_of Erased = 1

abbrev pub change_of : FormatChange → MediumChange
change_of change = record { offset = change.at; length = change.len; kind = kind_of change.content }

-- the bytes that are programmed are handed out in a buffer, if it has room for them
abbrev pub HandsOut : Content → (before : List ℕ) → (has_room : Bool) → (after : List ℕ) → Type 0
HandsOut (Header bytes) before has_room after = Fills bytes before has_room after
HandsOut (Mark byte) before has_room after = Fills byte before has_room after
HandsOut Erased before has_room after = (has_room ≡ true) × (after ≡ before)

-- the next change is told
abbrev pub TellsNext : Option FormatChange → ToldChange → Status → ToldChange → Type 0
TellsNext (Some next) old status new =
    ((status ≡ Done) × (new.change ≡ change_of next) × HandsOut next.content old.bytes true new.bytes)
    ⊎ ((status ≡ Short) × (new.change ≡ old.change) × HandsOut next.content old.bytes false new.bytes)
TellsNext None old status new = (status ≡ Nothing) × (new ≡ old)

-- the answer to a question for a change of a format
abbrev pub Formats : MediumGeometry → (step : ℕ) → ToldChange → Status → ToldChange → Type 0
Formats numbers step old status new =
    ((geometry : Geometry) × Divides numbers geometry × TellsNext (slice_get (format_changes geometry) step) old status new)
    ⊎ ((status ≡ BadGeometry) × DividesNothing numbers × (new ≡ old))
