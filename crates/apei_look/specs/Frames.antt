-- What is written of a record's bytes: the lines of an error record's header and of its section descriptors (UEFI 2.8, N.2).
use Rattle.std.specs.Prelude.{◌≡◌, ℕ, ◌+◌, ◌-◌, ◌^◌, Bool, true, false, List, [], ◌∷◌, ◌++◌, length, take, Option, Some, None, MatchResult, codes, decimal}
use Rattle.std.specs.Int.{to_le_bytes, w64}
use Rattle.jiff.specs.Names.{iso_datetime_text}
use Rattle.apei_bytes.specs.Guid.{guid_text, digits}
use Rattle.cper_frame.specs.Grammar.{RecordValue, SectionValue, IsRecord}
use Rattle.cper_frame.specs.Names.{severity_word, notifications, sections, name_in}
use Rattle.cper_frame.specs.Reading.{checked}
use Rattle.cper_frame.specs.declared.heads.RecordHead.{RecordHead}
use Rattle.apei_look.specs.declared.time.RecordTime.{RecordTime}
use Rattle.apei_look.specs.declared.time.RecordTime.TheVariants.{Missing, Calendar, Bytes}
use Rattle.apei_look.specs.Times.{IsTimeOf}

-- a name, where there is one
abbrev pub name_text : Option (List ℕ) → List ℕ
name_text None = []
name_text (Some name) = codes " (" ++ name ++ codes ")"

abbrev pub severity_text : ℕ → List ℕ
severity_text severity = decimal severity ++ name_text (severity_word severity)

-- a GUID, and the name that a list has behind it
abbrev pub named_guid : List (List ℕ × List ℕ) → List ℕ → List ℕ
named_guid names guid = guid_text guid ++ name_text (name_in names (guid_text guid))

-- whether a time is that of the error
abbrev pub precision_text : (is_precise : Bool) → List ℕ
precision_text true = []
precision_text false = codes " or about then"

-- the bytes of a number, from the low one on
unfoldable pub bytes_text : ℕ → List ℕ
bytes_text number = digits (to_le_bytes w64 number)

abbrev pub time_text : RecordTime → List ℕ
time_text Missing = codes "none"
time_text (Calendar time is_precise) = iso_datetime_text time ++ precision_text is_precise
time_text (Bytes stamp) = codes "bytes " ++ bytes_text stamp

-- who wrote a record, and what it was notified by
abbrev pub guids_text : RecordHead → List ℕ
guids_text head = codes "\n  creator " ++ guid_text head.creator ++ codes "\n  notification " ++ named_guid notifications head.notification ++ codes "\n"

-- a header, whose time is this
abbrev pub head_text : RecordHead → RecordTime → List ℕ
head_text head time = codes "  severity " ++ severity_text head.severity ++ codes "\n  time " ++ time_text time ++ guids_text head

-- the number of a section, from 0 on, and its type
abbrev pub kind_text : (index : ℕ) → List ℕ → List ℕ
kind_text index kind = codes "  section " ++ decimal index ++ codes " " ++ named_guid sections kind

-- its descriptor
abbrev pub section_text : (index : ℕ) → SectionValue → List ℕ
section_text index section =
    kind_text index section.head.kind ++ codes " bytes " ++ decimal (length section.body)
    ++ codes " severity " ++ severity_text section.head.severity ++ codes "\n"

-- the descriptors, whose numbers begin with this one
abbrev pub sections_text : (index : ℕ) → List SectionValue → List ℕ
sections_text index [] = []
sections_text index (section ∷ sections) = section_text index section ++ sections_text (index + 1) sections

-- the lines of the error record that these bytes are
pub record IsRecordText (bytes text : List ℕ) : Type 0 where
  pub frame : RecordValue
  pub time : RecordTime
  pub of_bytes : IsRecord frame bytes
  pub of_head : IsTimeOf frame.head time
  pub is : text ≡ head_text frame.head time ++ sections_text 0 frame.sections

-- what is written of bytes: of an error record that they begin with its lines, else that there is none
abbrev pub IsFrameText : (bytes text : List ℕ) → Type 0
IsFrameText bytes text =
    MatchResult (checked (2 ^ 32 - 1) bytes) (λ n. IsRecordText (take n bytes) text) (λ _. text ≡ codes "  no error record\n")
