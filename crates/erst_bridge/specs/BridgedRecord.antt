-- The record that a bridge makes of an error status block (UEFI 2.8, appendix N.2): one section, whose body is the block.
use Rattle.std.specs.Prelude.{ℕ, ◌+◌, ◌++◌, nat_lt, if◌then◌else◌, List, length, codes}
use Rattle.base_model.specs.Bytes.{number_at, joined}
pub use Rattle.base_model.specs.Bytes.{zeros}
use Rattle.cper_frame.specs.declared.heads.RecordHead.{RecordHead}
use Rattle.cper_frame.specs.declared.heads.SectionHead.{SectionHead}
use Rattle.cper_frame.specs.Grammar.{header, descriptor_fields}

-- the severity that a block says (ACPI 6.4, table 18.11); a number that is none counts as informational
abbrev pub severity_in : List ℕ → ℕ
severity_in block = if nat_lt (number_at block 16 4) 4 then number_at block 16 4 else 3

-- the header's fields, but for its section count and its length
abbrev pub bridged_head : List ℕ → ℕ → RecordHead
bridged_head block id = record {
  revision = 0x0101;
  severity = severity_in block;
  validation = 0;
  timestamp = 0;
  platform = zeros 16;
  partition = zeros 16;
  creator = codes "APEIBRIDGE" ++ zeros 6;
  notification = zeros 16;
  id = id;
  flags = 0;
  persistence = zeros 8;
  reserved = zeros 12;
}

-- the descriptor's fields, but for the place and the length of its body
abbrev pub bridged_section : List ℕ → SectionHead
bridged_section block = record {
  revision = 0x0300;
  validation = 0;
  reserved = 0;
  flags = 0;
  kind = codes "APEIBLOCK" ++ zeros 7;
  fru = zeros 16;
  severity = severity_in block;
  fru_text = zeros 20;
}

-- the header of one section, its descriptor, and the block as its body from byte 200 on
unfoldable pub bridged : List ℕ → ℕ → List ℕ
bridged block id =
    joined (header (bridged_head block id) 1 (200 + length block)) ++ joined (descriptor_fields (bridged_section block) 200 (length block)) ++ block
