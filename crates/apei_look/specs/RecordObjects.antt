-- What is written of records as JSON.
use Rattle.std.specs.Prelude.{◌≡◌, ℕ, zero, suc, ◌+◌, ◌-◌, ◌^◌, ◌==◌, if◌then◌else◌, Bool, true, false, List, [], ◌∷◌, ◌++◌, length, take, Option, Some}
use Rattle.std.specs.Prelude.{None, MatchResult, codes, decimal}
use Rattle.jiff.specs.Names.{iso_datetime_text}
use Rattle.jiff.specs.declared.civil.datetimes.DateTime.{DateTime}
use Rattle.apei_bytes.specs.Guid.{guid_text}
use Rattle.cper_frame.specs.Grammar.{RecordValue, SectionValue, IsRecord}
use Rattle.cper_frame.specs.Names.{severity_word, notifications, sections, name_in}
use Rattle.cper_frame.specs.Reading.{checked}
use Rattle.cper_frame.specs.declared.heads.RecordHead.{RecordHead}
use Rattle.record_model.specs.Records.{Head, slot_at}
use Rattle.record_model.specs.Slots.{further_of}
use Rattle.image_survey.specs.Kinds.{kind_at}
use Rattle.image_survey.specs.Reading.{IsRecordOf}
use Rattle.image_survey.specs.declared.kinds.SlotKind.{SlotKind}
use Rattle.image_survey.specs.declared.kinds.SlotKind.TheVariants.{First}
use Rattle.apei_look.specs.declared.time.RecordTime.{RecordTime}
use Rattle.apei_look.specs.declared.time.RecordTime.TheVariants.{Missing, Calendar, Bytes}
use Rattle.apei_look.specs.FileObjects.{separator}
use Rattle.apei_look.specs.Frames.{bytes_text}
use Rattle.apei_look.specs.Texts.{identity_json, slot_numbers, comma}
use Rattle.apei_look.specs.Times.{IsTimeOf}

-- a name as a string, where there is one
abbrev pub name_json : Option (List ℕ) → List ℕ
name_json None = codes "null"
name_json (Some name) = codes "\"" ++ name ++ codes "\""

abbrev pub severity_json : ℕ → List ℕ
severity_json severity = codes "{\"severity\":" ++ decimal severity ++ codes ",\"severity_name\":" ++ name_json (severity_word severity)

abbrev pub truth_json : Bool → List ℕ
truth_json truth = if truth then codes "true" else codes "false"

-- a time of the calendar, and the bytes that are none
abbrev pub calendar_json : DateTime → (is_precise : Bool) → List ℕ
calendar_json time is_precise =
    codes ",\"time\":\"" ++ iso_datetime_text time ++ codes "\",\"precise\":" ++ truth_json is_precise ++ codes ",\"time_bytes\":null"

abbrev pub stamp_json : ℕ → List ℕ
stamp_json stamp = codes ",\"time\":null,\"precise\":false,\"time_bytes\":\"" ++ bytes_text stamp ++ codes "\""

abbrev pub time_json : RecordTime → List ℕ
time_json Missing = codes ",\"time\":null,\"precise\":false,\"time_bytes\":null"
time_json (Calendar time is_precise) = calendar_json time is_precise
time_json (Bytes stamp) = stamp_json stamp

-- a GUID as a string behind a label
abbrev pub guid_json : (label guid : List ℕ) → List ℕ
guid_json label guid = label ++ guid_text guid ++ codes "\""

-- who wrote a record, and what it was notified by
abbrev pub guids_json : RecordHead → List ℕ
guids_json head = guid_json (codes ",\"creator\":\"") head.creator ++ guid_json (codes ",\"notification\":\"") head.notification

abbrev pub notified_json : RecordHead → List ℕ
notified_json head = codes ",\"notification_name\":" ++ name_json (name_in notifications (guid_text head.notification))

-- a header, whose time is this
abbrev pub head_json : RecordHead → RecordTime → List ℕ
head_json head time = severity_json head.severity ++ time_json time ++ guids_json head ++ notified_json head

-- the type of a section, and its descriptor
abbrev pub type_json : (kind : List ℕ) → List ℕ
type_json kind = codes "{\"type\":\"" ++ guid_text kind ++ codes "\",\"name\":" ++ name_json (name_in sections (guid_text kind))

abbrev pub section_json : SectionValue → List ℕ
section_json section =
    type_json section.head.kind ++ codes ",\"bytes\":" ++ decimal (length section.body)
    ++ codes ",\"severity\":" ++ decimal section.head.severity ++ codes "}"

-- the section of this number, as the first of the list or behind others
abbrev pub section_item : (index : ℕ) → SectionValue → List ℕ
section_item index section = separator (index == 0) ++ section_json section

-- the descriptors, whose numbers begin with this one
abbrev pub sections_json : (index : ℕ) → List SectionValue → List ℕ
sections_json index [] = []
sections_json index (section ∷ sections) = section_item index section ++ sections_json (index + 1) sections

-- an error record of such a header, whose time is this
abbrev pub frame_json : RecordHead → RecordTime → List SectionValue → List ℕ
frame_json head time sections = head_json head time ++ codes ",\"sections\":[" ++ sections_json 0 sections ++ codes "]}"

-- the error record that these bytes are
pub record IsRecordObject (bytes text : List ℕ) : Type 0 where
  pub frame : RecordValue
  pub time : RecordTime
  pub of_bytes : IsRecord frame bytes
  pub of_head : IsTimeOf frame.head time
  pub is : text ≡ frame_json frame.head time frame.sections

-- what is written of bytes: the error record that they begin with
abbrev pub IsFrameJson : (bytes text : List ℕ) → Type 0
IsFrameJson bytes text = MatchResult (checked (2 ^ 32 - 1) bytes) (λ n. IsRecordObject (take n bytes) text) (λ _. text ≡ codes "null")

-- what the store says of a record, by the head of its first slot
abbrev pub stored_json : (slot_size k : ℕ) → Head → List ℕ
stored_json slot_size k head =
    codes "{" ++ identity_json head ++ codes ",\"slots\":[" ++ decimal k ++ slot_numbers comma (further_of (slot_size - 64) head) ++ codes "],\"frame\":"

-- the record whose first slot is slot k
pub record IsStoredObject (slot_size slots : ℕ) (image : List ℕ) (k : ℕ) (text : List ℕ) : Type 0 where
  pub bytes : List ℕ
  pub frame : List ℕ
  pub of_slot : IsRecordOf slot_size slots image k bytes
  pub of_bytes : IsFrameJson bytes frame
  pub is : text ≡ stored_json slot_size k (slot_at slot_size image k).head ++ frame ++ codes "}"

-- nothing was written
abbrev pub is_empty : List ℕ → Bool
is_empty [] = true
is_empty (byte ∷ bytes) = false

-- slot k, which is of this kind: of a first slot its record, as the first of the list or behind others; of any other slot nothing
abbrev pub IsSlotObject : (slot_size slots : ℕ) → (image : List ℕ) → (k : ℕ) → SlotKind → (is_first : Bool) → (text : List ℕ) → Type 0
IsSlotObject slot_size slots image k First is_first text =
    (object : List ℕ) × IsStoredObject slot_size slots image k object × (text ≡ separator is_first ++ object)
IsSlotObject slot_size slots image k other is_first text = text ≡ []

-- the records of the first n slots, in the order of the slots
abbrev pub AreObjects : (slot_size slots : ℕ) → (image : List ℕ) → (n : ℕ) → (text : List ℕ) → Type 0
AreObjects slot_size slots image zero text = text ≡ []
AreObjects slot_size slots image (suc n) text =
    (before last : List ℕ)
    × AreObjects slot_size slots image n before
    × IsSlotObject slot_size slots image n (kind_at slot_size slots image n) (is_empty before) last
    × (text ≡ before ++ last)

-- whether the next record is the first of the list, behind a slot of this kind
abbrev pub is_first_behind : SlotKind → (is_first : Bool) → Bool
is_first_behind First is_first = false
is_first_behind other is_first = is_first
