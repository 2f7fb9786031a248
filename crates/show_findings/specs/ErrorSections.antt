-- What a section of an error says of itself.
use Rattle.std.specs.Prelude.{◌≡◌, ℕ, nat_lt, if◌then◌else◌, List, drop, codes}
use Rattle.base_model.specs.Bytes.{part, number_at}
use Rattle.field_lines.specs.Layouts.{Structure}
use Rattle.field_lines.specs.Records.{section_descriptor}
use Rattle.field_lines.specs.Blocks.{short_data_entry, long_data_entry}
use Rattle.field_lines.specs.Told.{text_told}
use Rattle.ghes_block.specs.Reading.{head_size}
use Rattle.show_findings.specs.Places.{data_part}

-- the rows of a data entry of a revision
abbrev pub entry_structure : ℕ → Structure
entry_structure revision = if nat_lt revision 0x300 then short_data_entry else long_data_entry

-- by the descriptor that begins at a place of a record (UEFI 2.8, N.2.2)
pub record IsDescribed (bytes : List ℕ) (at : ℕ) (kind : List ℕ) (severity flags : ℕ) (label body : List ℕ) : Type 0 where
  pub kind_is : kind ≡ part (part bytes at 72) 16 16
  pub severity_is : severity ≡ number_at (part bytes at 72) 48 4
  pub flags_are : flags ≡ number_at (part bytes at 72) 12 4
  pub label_is : label ≡ text_told section_descriptor (codes "FRU text") (part bytes at 72)
  pub body_is : body ≡ part bytes (number_at (part bytes at 72) 0 4) (number_at (part bytes at 72) 4 4)

-- by the data entry that begins at a place of a block (ACPI 6.4, 18.3.2.7.1)
pub record IsReported (block : List ℕ) (at : ℕ) (kind : List ℕ) (severity flags : ℕ) (label body : List ℕ) : Type 0 where
  pub kind_is : kind ≡ part (drop at (data_part block)) 0 16
  pub severity_is : severity ≡ number_at (drop at (data_part block)) 16 4
  pub flags_are : flags ≡ number_at (drop at (data_part block)) 23 1
  pub label_is : label ≡ text_told (entry_structure (number_at (drop at (data_part block)) 20 2)) (codes "FRU text") (drop at (data_part block))
  pub body_is : body ≡ part (drop at (data_part block)) (head_size (drop at (data_part block))) (number_at (drop at (data_part block)) 24 4)
