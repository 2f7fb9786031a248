-- How a device goes on elsewhere.
use Rattle.std.specs.Prelude.{◌≡◌, ◌⊎◌, ℕ, List, drop, Option, Result, Ok, Err}
use Rattle.flash_model.specs.declared.geometry.Geometry.{Geometry}
use Rattle.erst_port.specs.declared.errors.SaveError.{SaveError}
use Rattle.erst_port.specs.declared.errors.SaveError.TheVariants as saving
use Rattle.erst_port.specs.declared.errors.LoadError.{LoadError}
use Rattle.erst_port.specs.declared.errors.LoadError.TheVariants as loading
use Rattle.erst_port.specs.PortState.{PortState}
use Rattle.erst_port.specs.Openings.{OpenedAs, OpenedOn, RefusesImage, RefusesOpening}
use Rattle.erst_port.specs.Saved.{Saves}
use Rattle.erst_port.specs.Loaded.{LoadedBy, AnswersAsSaved, RefusesLoad}
use Rattle.apei_c.specs.declared.status.Status.{Status}
use Rattle.apei_c.specs.declared.status.Status.TheVariants.{Done, Due, Short, Busy, Memory, Geometry as BadGeometry, Unsaved, SavedVersion, SavedFlash}
use Rattle.apei_c.specs.declared.structs.MediumGeometry.{MediumGeometry}
use Rattle.apei_c.specs.Statuses.{status_of_opening}
use Rattle.apei_c.specs.Formats.{Divides, DividesNothing}
use Rattle.apei_c.specs.Openings.{OpensBy}

abbrev pub status_of_saving : Result ℕ SaveError → Status
status_of_saving (Ok size) = Done
status_of_saving (Err saving.Busy) = Busy
status_of_saving (Err saving.Due) = Due
status_of_saving (Err (saving.Short need)) = Short

-- the size that is told: of the bytes that are put out, or of those that would be; else the one from before stays
abbrev pub size_told : Result ℕ SaveError → (was : ℕ) → ℕ
size_told (Ok size) was = size
size_told (Err saving.Busy) was = was
size_told (Err saving.Due) was = was
size_told (Err (saving.Short need)) was = need

abbrev pub SavesBytes : (before : List ℕ) → (was : ℕ) → PortState → Status → (after : List ℕ) → (size : ℕ) → Type 0
SavesBytes before was port status after size =
    (answer : Result ℕ SaveError) × Saves port before answer after × (status ≡ status_of_saving answer) × (size ≡ size_told answer was)

abbrev pub status_of_loading : LoadError → Status
status_of_loading loading.Foreign = Unsaved
status_of_loading (loading.Version found) = SavedVersion
status_of_loading loading.Registers = Unsaved
status_of_loading (loading.Medium error) = status_of_opening error
status_of_loading loading.Geometry = SavedFlash
status_of_loading (loading.Size found wanted) = Unsaved

-- the device of a medium that goes on where the saved one stopped: it answers as that one, if that one's flash held what the medium holds
abbrev pub LoadedOn : (medium saved : List ℕ) → PortState → Type 0
LoadedOn medium saved port = LoadedBy (OpenedOn medium) saved port × AnswersAsSaved (drop port.origin medium) saved port

-- why there is none, by its status: want of memory for one that was loaded, or the port's own reason
abbrev pub RefusedLoad : (medium saved : List ℕ) → Status → Type 0
RefusedLoad medium saved status =
    ((status ≡ Memory) × ((port : PortState) × LoadedOn medium saved port))
    ⊎ ((error : LoadError) × RefusesLoad (OpenedOn medium) (RefusesOpening medium) saved error × (status ≡ status_of_loading error))

-- the same of a flash that is all of its medium
abbrev pub LoadedRaw : MediumGeometry → (flash saved : List ℕ) → PortState → Type 0
LoadedRaw numbers flash saved port =
    (geometry : Geometry) × Divides numbers geometry × LoadedBy (OpenedAs 0 geometry flash) saved port × AnswersAsSaved flash saved port

abbrev pub RefusedLoadRaw : MediumGeometry → (flash saved : List ℕ) → Status → Type 0
RefusedLoadRaw numbers flash saved status =
    ((status ≡ BadGeometry) × DividesNothing numbers)
    ⊎ ((status ≡ Memory) × ((port : PortState) × LoadedRaw numbers flash saved port))
    ⊎ ((geometry : Geometry) × (error : LoadError) × Divides numbers geometry
    × RefusesLoad (OpenedAs 0 geometry flash) (RefusesImage geometry flash) saved error × (status ≡ status_of_loading error))

abbrev pub Loads : (medium saved : List ℕ) → Option PortState → ℕ → Option PortState → Type 0
Loads medium saved = OpensBy (LoadedOn medium saved) (RefusedLoad medium saved)

abbrev pub LoadsRaw : MediumGeometry → (flash saved : List ℕ) → Option PortState → ℕ → Option PortState → Type 0
LoadsRaw numbers flash saved = OpensBy (LoadedRaw numbers flash saved) (RefusedLoadRaw numbers flash saved)
