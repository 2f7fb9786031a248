-- What is written of an image's file as text.
use Rattle.std.specs.Prelude.{◌≡◌, ℕ, ◌-◌, ◌/◌, ◌==◌, nat_lt, if◌then◌else◌, Bool, true, false, List, [], ◌++◌, Option, Some, codes, decimal}
use Rattle.flash_model.specs.declared.geometry.Geometry.{Geometry}
use Rattle.image_survey.specs.Heads.{IsFileView}
use Rattle.image_survey.specs.declared.heads.Guess.{Guess}
use Rattle.image_survey.specs.declared.files.FileKind.{FileKind}
use Rattle.image_survey.specs.declared.files.FileKind.TheVariants.{Other, Foreign}
use Rattle.image_survey.specs.declared.files.FileView.{FileView}
use Rattle.apei_look.specs.Places.{flash_at, file_size}
use Rattle.apei_look.specs.Texts.{version}

-- how a flash is divided
abbrev pub division_text : Geometry → List ℕ
division_text geometry = codes "slots of " ++ decimal geometry.per_slot ++ codes " sectors of " ++ decimal geometry.sector

-- what the first sector of a medium says
abbrev pub version_text : Geometry → List ℕ
version_text geometry = codes "a medium of the library, version " ++ decimal version ++ codes ": " ++ decimal geometry.slots ++ codes " "

abbrev pub place_text : Geometry → List ℕ
place_text geometry = codes ", from byte " ++ decimal (flash_at true geometry) ++ codes " on\n"

abbrev pub medium_text : Geometry → List ℕ
medium_text geometry = version_text geometry ++ division_text geometry ++ place_text geometry

-- the options by which a flash is shown whose heads stand there
abbrev pub options_text : Geometry → List ℕ
options_text geometry =
    codes "--sector=" ++ decimal geometry.sector ++ codes " --per-slot=" ++ decimal geometry.per_slot ++ codes " --slots=" ++ decimal geometry.slots

abbrev pub guess_text : Geometry → List ℕ
guess_text geometry = codes "heads stand where " ++ division_text geometry ++ codes " begin: " ++ options_text geometry ++ codes "\n"

-- where a file of so many bytes ends that is cut off
abbrev pub end_place : (is_medium : Bool) → Geometry → (held : ℕ) → List ℕ
end_place is_medium geometry held =
    if nat_lt held (flash_at is_medium geometry) then codes "its first sector"
    else codes "slot " ++ decimal ((held - flash_at is_medium geometry) / geometry.slot_size)

abbrev pub cut_text : (is_medium : Bool) → Geometry → (held : ℕ) → List ℕ
cut_text is_medium geometry held =
    codes "the image ends at byte " ++ decimal held ++ codes ", in " ++ end_place is_medium geometry held
    ++ codes "; what is behind it is shown as erased\n"

-- from where a file is not shown that is longer
abbrev pub longer_text : (held size : ℕ) → List ℕ
longer_text held size =
    codes "the file has " ++ decimal held ++ codes " bytes; those from byte " ++ decimal size ++ codes " on are not shown\n"

-- of a file that is whole nothing
abbrev pub end_text : (is_medium : Bool) → Geometry → (held : ℕ) → List ℕ
end_text is_medium geometry held =
    if held == file_size is_medium geometry then []
    else if nat_lt (file_size is_medium geometry) held then longer_text held (file_size is_medium geometry)
    else cut_text is_medium geometry held

-- the geometry of a file that has another one, and that a file is none of ours
abbrev pub view_text : FileKind → Option Guess → List ℕ
view_text Other (Some guess) = guess_text guess.geometry
view_text Foreign guess = codes "no head of a record stands in it: it is none of ours\n"
view_text kind guess = []

-- what is said of a file that is a medium, and of one that is a flash alone
abbrev pub IsFileText : (is_medium : Bool) → Geometry → (held : ℕ) → (image text : List ℕ) → Type 0
IsFileText true geometry held image text = text ≡ medium_text geometry ++ end_text true geometry held
IsFileText false geometry held image text =
    (view : FileView) × IsFileView geometry.slot_size geometry.slots image view
    × (text ≡ end_text false geometry held ++ view_text view.kind view.guess)
