-- A record with one section (UEFI 2.8, N.2.1 and N.2.2).
use Rattle.std.specs.Prelude.{ℕ, ◌+◌, ◌-◌, ◌^◌, List, [], ◌∷◌, length, codes, is_some}
use Rattle.base_model.specs.Bytes.{spelled, joined, zeros}
use Rattle.cper_frame.specs.declared.heads.RecordHead.{RecordHead}
use Rattle.cper_frame.specs.declared.heads.SectionHead.{SectionHead}
use Rattle.cper_frame.specs.Grammar.{RecordValue}
use Rattle.item_makers.specs.declared.records.RecordFields.{RecordFields}
use Rattle.item_makers.specs.Severities.{severity_number}
use Rattle.item_makers.specs.Given.{bytes_given, number_given, bit_if}

-- bit 1 of a header says that there is a timestamp; bit 0 of a descriptor that there is a FRU's identifier, bit 1 its text
abbrev pub header_validation : RecordFields → ℕ
header_validation fields = bit_if (is_some fields.timestamp) 2

abbrev pub section_validation : RecordFields → ℕ
section_validation fields = bit_if (is_some fields.fru) 1 + bit_if (is_some fields.fru_text) 2

-- the fields of the header, 128 bytes, those of the descriptor, 72 bytes, and the section
abbrev pub record_fields : RecordFields → (section : List ℕ) → List (List ℕ)
record_fields fields section =
    codes "CPER"
    ∷ spelled 2 0x0101
    ∷ spelled 4 (2 ^ 32 - 1)
    ∷ spelled 2 1  -- the count of sections
    ∷ spelled 4 (severity_number fields.severity)
    ∷ spelled 4 (header_validation fields)
    ∷ spelled 4 (200 + length section)
    ∷ spelled 8 (number_given fields.timestamp)
    ∷ zeros 16  -- the platform
    ∷ zeros 16  -- the partition
    ∷ fields.creator
    ∷ fields.notification
    ∷ spelled 8 fields.id
    ∷ spelled 4 fields.flags
    ∷ zeros 8  -- for the store
    ∷ zeros 12  -- reserved
    ∷ spelled 4 200  -- where the section begins
    ∷ spelled 4 (length section)
    ∷ spelled 2 0x0100
    ∷ spelled 1 (section_validation fields)
    ∷ spelled 1 0
    ∷ spelled 4 fields.section_flags
    ∷ fields.kind
    ∷ bytes_given 16 fields.fru
    ∷ spelled 4 (severity_number fields.severity)
    ∷ bytes_given 20 fields.fru_text
    ∷ section
    ∷ []

unfoldable pub record_bytes : RecordFields → (section : List ℕ) → List ℕ
record_bytes fields section = joined (record_fields fields section)

-- what the record says
abbrev pub record_head : RecordFields → RecordHead
record_head fields = record {
  revision = 0x0101;
  severity = severity_number fields.severity;
  validation = header_validation fields;
  timestamp = number_given fields.timestamp;
  platform = zeros 16;
  partition = zeros 16;
  creator = fields.creator;
  notification = fields.notification;
  id = fields.id;
  flags = fields.flags;
  persistence = zeros 8;
  reserved = zeros 12;
}

abbrev pub section_head : RecordFields → SectionHead
section_head fields = record {
  revision = 0x0100;
  validation = section_validation fields;
  reserved = 0;
  flags = fields.section_flags;
  kind = fields.kind;
  fru = bytes_given 16 fields.fru;
  severity = severity_number fields.severity;
  fru_text = bytes_given 20 fields.fru_text;
}

abbrev pub made_record : RecordFields → (section : List ℕ) → RecordValue
made_record fields section = record {
  head = record_head fields;
  sections = record { head = section_head fields; offset = 200; body = section } ∷ [];
}
