-- What is written of an image's file and of its slots as JSON.
use Rattle.std.specs.Prelude.{ℕ, ◌==◌, Bool, true, false, List, [], ◌∷◌, ◌++◌, slice_index, Option, Some, None, codes, decimal}
use Rattle.flash_model.specs.declared.geometry.Geometry.{Geometry}
use Rattle.record_model.specs.Records.{Head, slot_at}
use Rattle.image_survey.specs.Kinds.{kind_at}
use Rattle.image_survey.specs.declared.kinds.SlotKind.{SlotKind}
use Rattle.image_survey.specs.declared.kinds.SlotKind.TheVariants.{Erased}
use Rattle.image_survey.specs.declared.heads.Guess.{Guess}
use Rattle.image_survey.specs.declared.files.FileView.{FileView}
use Rattle.image_survey.specs.declared.totals.Totals.{Totals}
use Rattle.apei_look.specs.Places.{flash_at, place_of_slot}
use Rattle.apei_look.specs.SlotTexts.{of_slots}
use Rattle.apei_look.specs.Texts.{version, geometry_json, identity_json, comma}
use Rattle.apei_look.specs.Words.{file_word, word_of}

-- what the first sector of a medium says
abbrev pub header_json : Geometry → List ℕ
header_json geometry = codes "{\"version\":" ++ decimal version ++ codes ",\"flash_at\":" ++ decimal (flash_at true geometry) ++ codes "}"

abbrev pub medium_json : (is_medium : Bool) → Geometry → List ℕ
medium_json false geometry = codes "null"
medium_json true geometry = header_json geometry

-- the geometry that a file seems to have
abbrev pub seems_json : Option Guess → List ℕ
seems_json None = codes "null"
seems_json (Some guess) = geometry_json guess.geometry

-- how many bytes it has, and what kind of file it is
abbrev pub kind_json : (is_medium : Bool) → (held : ℕ) → FileView → List ℕ
kind_json is_medium held view = codes ",\"held\":" ++ decimal held ++ codes ",\"file\":\"" ++ file_word is_medium view.kind ++ codes "\",\"medium\":"

abbrev pub heads_json : FileView → List ℕ
heads_json view = codes ",\"heads\":" ++ decimal view.heads ++ codes ",\"seems\":" ++ seems_json view.guess

-- the geometry that it is looked at by, and what is seen of it
abbrev pub file_json : (is_medium : Bool) → Geometry → (held : ℕ) → FileView → List ℕ
file_json is_medium geometry held view =
    codes "{\"geometry\":" ++ geometry_json geometry ++ kind_json is_medium held view ++ medium_json is_medium geometry ++ heads_json view

abbrev pub counts_json : Totals → List ℕ
counts_json totals = codes ",\"free\":" ++ decimal totals.free ++ codes ",\"records\":" ++ decimal totals.records

abbrev pub copies_json : Totals → List ℕ
copies_json totals = codes ",\"second_copies\":" ++ decimal totals.second_copies ++ codes ",\"bytes\":" ++ decimal totals.bytes

abbrev pub totals_json : Totals → List ℕ
totals_json totals = counts_json totals ++ copies_json totals

-- a comma before all but the first item of a list
abbrev pub separator : (is_first : Bool) → List ℕ
separator true = []
separator false = comma ∷ []

-- the marks of a slot
abbrev pub marks_json : Head → (tail : ℕ) → List ℕ
marks_json head tail =
    codes ",\"gate\":" ++ decimal head.gate ++ codes ",\"kill\":" ++ decimal head.kill ++ codes ",\"tail\":" ++ decimal tail
    ++ codes ",\"format\":" ++ decimal head.format ++ codes ","

-- the three numbers at the end of a head
abbrev pub next_json : Head → List ℕ
next_json head =
    codes ",\"next\":[" ++ decimal (slice_index head.next 0) ++ codes "," ++ decimal (slice_index head.next 1)
    ++ codes "," ++ decimal (slice_index head.next 2) ++ codes "]"

abbrev pub look_json : Head → (tail : ℕ) → List ℕ
look_json head tail = marks_json head tail ++ identity_json head ++ next_json head

-- of an erased slot nothing
abbrev pub seen_json : SlotKind → Head → (tail : ℕ) → List ℕ
seen_json Erased head tail = []
seen_json kind head tail = look_json head tail

-- a slot of this kind, which begins at this byte of the file
abbrev pub slot_object : (at : ℕ) → SlotKind → Head → (tail : ℕ) → List ℕ
slot_object at kind head tail = codes "{\"kind\":\"" ++ word_of kind ++ codes "\",\"at\":" ++ decimal at ++ seen_json kind head tail ++ codes "}"

-- slot k, as the first of the list or behind others
abbrev pub slot_item : (is_medium : Bool) → Geometry → (image : List ℕ) → (k : ℕ) → List ℕ
slot_item is_medium geometry image k =
    separator (k == 0) ++ slot_object (place_of_slot is_medium geometry k) (kind_at geometry.slot_size geometry.slots image k)
    (slot_at geometry.slot_size image k).head (slot_at geometry.slot_size image k).tail

abbrev pub slots_json : (is_medium : Bool) → Geometry → (image : List ℕ) → List ℕ
slots_json is_medium geometry image = codes ",\"slots\":[" ++ of_slots (slot_item is_medium geometry image) geometry.slots ++ codes "]"
