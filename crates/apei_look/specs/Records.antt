-- What is written of the records that an image holds.
use Rattle.std.specs.Prelude.{◌≡◌, ℕ, zero, suc, ◌-◌, List, [], ◌++◌, codes, decimal}
use Rattle.record_model.specs.Records.{Head, slot_at}
use Rattle.record_model.specs.Slots.{further_of}
use Rattle.image_survey.specs.Kinds.{kind_at}
use Rattle.image_survey.specs.Reading.{IsRecordOf}
use Rattle.image_survey.specs.declared.kinds.SlotKind.{SlotKind}
use Rattle.image_survey.specs.declared.kinds.SlotKind.TheVariants.{First}
use Rattle.apei_look.specs.Frames.{IsFrameText}
use Rattle.apei_look.specs.Texts.{space, identity_text, slot_numbers}

-- the line of a record, by the head of its first slot: an empty line, its identifier, its generation, its length, and its slots
abbrev pub record_line : (slot_size k : ℕ) → Head → List ℕ
record_line slot_size k head =
    codes "\nrecord " ++ identity_text head ++ codes " slots " ++ decimal k ++ slot_numbers space (further_of (slot_size - 64) head) ++ codes "\n"

-- the record whose first slot is slot k: its line, and then what its bytes say
pub record IsStoredText (slot_size slots : ℕ) (image : List ℕ) (k : ℕ) (text : List ℕ) : Type 0 where
  pub bytes : List ℕ
  pub frame : List ℕ
  pub of_slot : IsRecordOf slot_size slots image k bytes
  pub of_bytes : IsFrameText bytes frame
  pub is : text ≡ record_line slot_size k (slot_at slot_size image k).head ++ frame

-- slot k, which is of this kind: of a first slot its record, of any other nothing
abbrev pub IsSlotText : (slot_size slots : ℕ) → (image : List ℕ) → (k : ℕ) → SlotKind → (text : List ℕ) → Type 0
IsSlotText slot_size slots image k First text = IsStoredText slot_size slots image k text
IsSlotText slot_size slots image k other text = text ≡ []

-- the records of the first n slots, in the order of the slots
abbrev pub AreRecords : (slot_size slots : ℕ) → (image : List ℕ) → (n : ℕ) → (text : List ℕ) → Type 0
AreRecords slot_size slots image zero text = text ≡ []
AreRecords slot_size slots image (suc n) text =
    (before last : List ℕ)
    × AreRecords slot_size slots image n before
    × IsSlotText slot_size slots image n (kind_at slot_size slots image n) last
    × (text ≡ before ++ last)
