-- What is written of an image.
use Rattle.std.specs.Prelude.{◌≡◌, ℕ, Bool, List, ◌++◌, codes, decimal}
use Rattle.flash_model.specs.declared.geometry.Geometry.{Geometry}
use Rattle.image_survey.specs.Counts.{AreTotals}
use Rattle.image_survey.specs.Heads.{IsFileView}
use Rattle.image_survey.specs.declared.files.FileView.{FileView}
use Rattle.image_survey.specs.declared.totals.Totals.{Totals}
use Rattle.apei_look.specs.FileObjects.{file_json, slots_json, totals_json}
use Rattle.apei_look.specs.FileTexts.{IsFileText}
use Rattle.apei_look.specs.RecordObjects.{AreObjects}
use Rattle.apei_look.specs.Records.{AreRecords}
use Rattle.apei_look.specs.SlotTexts.{legend_text, picture_text, slots_text}

-- the line for the whole
abbrev pub counts_text : (slots : ℕ) → Totals → List ℕ
counts_text slots totals = codes "slots " ++ decimal slots ++ codes " free " ++ decimal totals.free ++ codes " records " ++ decimal totals.records

abbrev pub copies_text : Totals → List ℕ
copies_text totals = codes " second copies " ++ decimal totals.second_copies ++ codes " bytes " ++ decimal totals.bytes ++ codes "\n"

abbrev pub totals_line : (slots : ℕ) → Totals → List ℕ
totals_line slots totals = counts_text slots totals ++ copies_text totals

-- the slots as a picture, what its letters mean, and then a line for each that is not erased
abbrev pub shown_text : Geometry → (image : List ℕ) → List ℕ
shown_text geometry image =
    picture_text geometry.slot_size geometry.slots image ++ legend_text ++ slots_text geometry.slot_size geometry.slots image

-- as text: the line for the whole, what is said of the file, what is said of its slots, and the records
pub record IsText (is_medium : Bool) (geometry : Geometry) (held : ℕ) (image text : List ℕ) : Type 0 where
  pub totals : Totals
  pub of_file : List ℕ
  pub of_records : List ℕ
  pub counted : AreTotals geometry.slot_size geometry.slots image totals
  pub is_of_file : IsFileText is_medium geometry held image of_file
  pub are_records : AreRecords geometry.slot_size geometry.slots image geometry.slots of_records
  pub is : text ≡ totals_line geometry.slots totals ++ of_file ++ shown_text geometry image ++ of_records

-- as one JSON object on one line
pub record IsJson (is_medium : Bool) (geometry : Geometry) (held : ℕ) (image text : List ℕ) : Type 0 where
  pub view : FileView
  pub totals : Totals
  pub stored : List ℕ
  pub seen : IsFileView geometry.slot_size geometry.slots image view
  pub counted : AreTotals geometry.slot_size geometry.slots image totals
  pub are_stored : AreObjects geometry.slot_size geometry.slots image geometry.slots stored
  pub is : text ≡ file_json is_medium geometry held view ++ totals_json totals ++ slots_json is_medium geometry image
      ++ codes ",\"stored\":[" ++ stored ++ codes "]}\n"
