-- What a run shows of a file.
use Rattle.std.specs.Prelude.{◌≡◌, ℕ, ◌*◌, ◌-◌, ◌⊎◌, ⊤, Bool, true, false, List, [], ◌++◌, length, take, drop, replicate, Option, Some, None, MatchResult}
use Rattle.std.specs.FinMap.{get}
use Rattle.std.specs.Option.{option_map_or}
use Rattle.flash_model.specs.Limits.{IsGeometry}
use Rattle.flash_model.specs.declared.geometry.Geometry.{Geometry}
use Rattle.record_model.specs.Records.{stored_in}
use Rattle.image_survey.specs.Headers.{IsFirstSector}
use Rattle.image_survey.specs.Heads.{IsGuess}
use Rattle.image_survey.specs.declared.header.FirstSector.{FirstSector}
use Rattle.image_survey.specs.declared.header.FirstSector.TheVariants as first
use Rattle.image_survey.specs.declared.heads.Guess.{Guess}
use Rattle.apei_look.specs.Entries.{Entry, IsFileOf}
use Rattle.apei_look.specs.Images.{IsJson, IsText}
use Rattle.apei_look.specs.Mediums.{unread_line}
use Rattle.apei_look.specs.Places.{file_size, flash_at}
use Rattle.apei_look.specs.Refusals.{ended_as, length_checked, most_of}
use Rattle.apei_look.specs.Texts.{unread_object}
use Rattle.apei_look.specs.declared.host.Found.TheVariants as found
use Rattle.apei_look.specs.declared.image_file.FileFault.{FileFault}
use Rattle.apei_look.specs.declared.image_file.FileFault.TheVariants.{Unreadable, Missing, NoFile, Held}
use Rattle.apei_look.specs.declared.options.Options.{Options}
use Rattle.apei_look.specs.declared.options.Show.{Show}
use Rattle.apei_look.specs.declared.options.Show.TheVariants as shows
use Rattle.apei_look.specs.declared.status.Status.{Status}
use Rattle.apei_look.specs.declared.status.Status.TheVariants.{Done, File, BadGeometry, NoRecord}
use Rattle.apei_look.specs.declared.status.Status.TheVariants as statuses
use Rattle.apei_look.specs.declared.unread.Unread.{Unread}
use Rattle.apei_look.specs.declared.unread.Unread.TheVariants.{Version, Damaged}

-- the bytes of the record that a boot finds under an identifier, or that it finds none
abbrev pub IsStored : Geometry → (image : List ℕ) → (id : ℕ) → (said : List ℕ) → Status → Type 0
IsStored geometry image id said Done =
    (generation : ℕ) × (get (stored_in geometry.slot_size geometry.slots image) id ≡ Some (said, generation))
IsStored geometry image id said (NoRecord missing) =
    (missing ≡ id) × (said ≡ []) × (get (stored_in geometry.slot_size geometry.slots image) id ≡ None)
IsStored geometry image id said other = ⊥

-- the flash of a file of so many bytes, as it is asked for
abbrev pub IsShow : Show → (is_medium : Bool) → Geometry → (held : ℕ) → (image said : List ℕ) → Status → Type 0
IsShow shows.Text is_medium geometry held image said status =
    (status ≡ Done) × IsText is_medium geometry held image said
IsShow shows.Json is_medium geometry held image said status =
    (status ≡ Done) × IsJson is_medium geometry held image said
IsShow (shows.Record id) is_medium geometry held image said status = IsStored geometry image id said status

-- the flash in a file: what is behind the end of one that is cut off is erased
abbrev pub flash_in : (is_medium : Bool) → Geometry → (file : List ℕ) → List ℕ
flash_in is_medium geometry file =
    drop (flash_at is_medium geometry)
    (take (file_size is_medium geometry) file ++ replicate (file_size is_medium geometry - length file) 0xFF)

-- a file by a geometry: where it has another length, that is said at the end
abbrev pub IsLookBy : Show → (is_medium : Bool) → Geometry → (held : ℕ) → (file said : List ℕ) → Status → Type 0
IsLookBy show is_medium geometry held file said status =
    (shown : Status) × IsShow show is_medium geometry held (flash_in is_medium geometry file) said shown
    × (status ≡ ended_as shown held (file_size is_medium geometry))

-- a medium that is not shown
abbrev pub IsUnread : Show → Unread → (held : ℕ) → (said : List ℕ) → Status → Type 0
IsUnread shows.Text unread held said status = (status ≡ statuses.Unread unread) × (said ≡ unread_line unread)
IsUnread shows.Json unread held said status =
    (status ≡ statuses.Unread unread) × (said ≡ unread_object unread held)
IsUnread (shows.Record id) unread held said status = (status ≡ statuses.Unread unread) × (said ≡ [])

-- the geometry that a file seems to have, if it is asked for and there is one, or the one that is given
abbrev pub IsSeeming : (image : List ℕ) → Geometry → Geometry → Type 0
IsSeeming image given geometry =
    (guess : Option Guess) × IsGuess image guess × (geometry ≡ option_map_or (λ seen. seen.geometry) guess given)

abbrev pub IsTaken : (is_guessed : Bool) → (image : List ℕ) → Geometry → Geometry → Type 0
IsTaken true image given geometry = IsSeeming image given geometry
IsTaken false image given geometry = geometry ≡ given

-- a file of at most so many bytes is shown; of one that is longer only that is said
abbrev pub IsWithin : (IsShown : Type 0) (file : List ℕ) (most : ℕ) (said : List ℕ) → Status → Type 0
IsWithin IsShown file most said status =
    MatchResult (length_checked (length file) most) (λ _. IsShown) (λ longer. (status ≡ longer) × (said ≡ []))

-- a file that is a flash alone
abbrev pub IsTakenLook : Show → (is_guessed : Bool) → Geometry → (file said : List ℕ) → Status → Type 0
IsTakenLook show is_guessed given file said status =
    (geometry : Geometry) × IsTaken is_guessed file given geometry
    × IsWithin (IsLookBy show false geometry (length file) file said status) file (geometry.slot_size * geometry.slots) said status

abbrev pub IsFlashLook : Show → (is_guessed : Bool) → Geometry → (file said : List ℕ) → Status → Type 0
IsFlashLook show is_guessed given file said status =
    IsWithin (IsTakenLook show is_guessed given file said status) file (most_of is_guessed given) said status

-- a file, by what its first sector says
abbrev pub IsLookOf : FirstSector → Show → (is_guessed : Bool) → Geometry → (file said : List ℕ) → Status → Type 0
IsLookOf first.Unsigned show is_guessed given file said status = IsFlashLook show is_guessed given file said status
IsLookOf (first.Medium geometry) show is_guessed given file said status =
    IsLookBy show true geometry (length file) file said status
IsLookOf (first.Version version) show is_guessed given file said status =
    IsUnread show (Version version) (length file) said status
IsLookOf first.Damaged show is_guessed given file said status = IsUnread show Damaged (length file) said status

abbrev pub IsFileLook : Options → Geometry → (file said : List ℕ) → Status → Type 0
IsFileLook options given file said status =
    (first : FirstSector) × IsFirstSector (take 64 file) first
    × IsLookOf first options.show options.guess given file said status

-- why what stands at a path is not opened; a fault of the system may come of anything
abbrev pub IsUnopened : Entry → FileFault → Type 0
IsUnopened known Unreadable = ⊤
IsUnopened known Missing = known.found ≡ found.Nothing
IsUnopened known NoFile = known.found ≡ found.Other
IsUnopened known Held = (known.found ≡ found.File) × (known.is_held ≡ true)

abbrev pub IsRefused : Entry → (said : List ℕ) → Status → Type 0
IsRefused known said (File fault) = (said ≡ []) × IsUnopened known fault
IsRefused known said other = ⊥

-- what stands at a path: refused, or shown as a regular file that no run holds
abbrev pub IsLookAt : Options → Geometry → Entry → (said : List ℕ) → Status → Type 0
IsLookAt options given known said status =
    IsRefused known said status ⊎ (IsFileOf (length known.bytes) known × IsFileLook options given known.bytes said status)

-- the geometry that the options give
pub record IsGiven (options : Options) (given : Geometry) : Type 0 where
  pub sector : given.sector ≡ options.sector
  pub per_slot : given.per_slot ≡ options.per_slot
  pub slots : given.slots ≡ options.slots

-- a geometry outside the limits
pub record IsOutside (options : Options) (said : List ℕ) (status : Status) : Type 0 where
  pub limits : IsGeometry options.sector options.per_slot options.slots → ⊥
  pub none : said ≡ []
  pub is : status ≡ BadGeometry

-- a run, by what stands at the path of its options
abbrev pub IsLook : Options → Entry → (said : List ℕ) → Status → Type 0
IsLook options known said status =
    IsOutside options said status ⊎ ((given : Geometry) × IsGiven options given × IsLookAt options given known said status)
