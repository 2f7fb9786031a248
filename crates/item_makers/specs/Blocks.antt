-- A status block with one entry of revision 3 (ACPI 6.4, tables 18.11 and 18.13).
use Rattle.std.specs.Prelude.{ℕ, ◌+◌, List, [], ◌∷◌, length, is_some}
use Rattle.base_model.specs.Bytes.{spelled, joined}
use Rattle.ghes_block.specs.declared.entry.EntryHead.{EntryHead}
use Rattle.ghes_block.specs.Grammar.{BlockValue}
use Rattle.item_makers.specs.declared.blocks.BlockFields.{BlockFields}
use Rattle.item_makers.specs.declared.severity.Severity.{Severity}
use Rattle.item_makers.specs.declared.severity.Severity.TheVariants.{Recoverable, Fatal, Corrected, Informational}
use Rattle.item_makers.specs.Severities.{severity_number}
use Rattle.item_makers.specs.Given.{bytes_given, number_given, bit_if}

-- bit 0 says that there is an uncorrected error, bit 1 a corrected one; from bit 4 on stands the count of entries, which is 1
abbrev pub status_for : Severity → ℕ
status_for Recoverable = 0x11
status_for Fatal = 0x11
status_for Corrected = 0x12
status_for Informational = 0x10

-- bit 0 says that there is a FRU's identifier, bit 1 its text, bit 2 a timestamp
abbrev pub entry_validation : BlockFields → ℕ
entry_validation fields = bit_if (is_some fields.fru) 1 + bit_if (is_some fields.fru_text) 2 + bit_if (is_some fields.timestamp) 4

-- the fields of the block's head, 20 bytes, those of its entry's head, 72 bytes, and the section
abbrev pub block_fields : BlockFields → (section : List ℕ) → List (List ℕ)
block_fields fields section =
    spelled 4 (status_for fields.severity)
    ∷ spelled 4 0  -- the raw data's offset
    ∷ spelled 4 0  -- and its length
    ∷ spelled 4 (72 + length section)
    ∷ spelled 4 (severity_number fields.severity)
    ∷ fields.kind
    ∷ spelled 4 (severity_number fields.severity)
    ∷ spelled 2 0x0300
    ∷ spelled 1 (entry_validation fields)
    ∷ spelled 1 fields.flags
    ∷ spelled 4 (length section)
    ∷ bytes_given 16 fields.fru
    ∷ bytes_given 20 fields.fru_text
    ∷ spelled 8 (number_given fields.timestamp)
    ∷ section
    ∷ []

unfoldable pub block_bytes : BlockFields → (section : List ℕ) → List ℕ
block_bytes fields section = joined (block_fields fields section)

-- what the block says
abbrev pub entry_head : BlockFields → EntryHead
entry_head fields = record {
  kind = fields.kind;
  severity = severity_number fields.severity;
  revision = 0x0300;
  validation = entry_validation fields;
  flags = fields.flags;
  fru = bytes_given 16 fields.fru;
  fru_text = bytes_given 20 fields.fru_text;
  stamp = number_given fields.timestamp;
}

abbrev pub made_block : BlockFields → (section : List ℕ) → BlockValue
made_block fields section = record {
  status = status_for fields.severity;
  severity = severity_number fields.severity;
  entries = record { head = entry_head fields; body = section } ∷ [];
  raw = [];
  size = 92 + length section;
}
