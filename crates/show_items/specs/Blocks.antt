-- Error status blocks (ACPI 6.4, section 18.3.2.7.1): what is shown of one.
use Rattle.std.specs.Prelude.{◌≡◌, ℕ, zero, suc, ◌+◌, nat_lt, if◌then◌else◌, List, [], ◌∷◌, ◌++◌, length, drop, codes, Option, Some, None, ◌⊎◌}
use Rattle.base_model.specs.Bytes.{part, number_at}
use Rattle.field_lines.specs.Layouts.{Structure}
use Rattle.ghes_block.specs.Reading.{head_size}
use Rattle.item_parts.specs.declared.items.Item.TheVariants.{Block}
use Rattle.show_findings.specs.Places.{HasDataEntry, data_part, seen_number}
use Rattle.show_items.specs.Groups.{Group, Head, bytes_group, fields_group, single, typed}
use Rattle.show_items.specs.Items.{Shown}
use Rattle.show_items.specs.Judged.{IsJudgedBy, IsShownAs}
use Rattle.show_items.specs.Parts.{ArePartsOf, ArePartsThen, part_groups}
use Rattle.show_items.specs.Sentences.{IsBlockSentence}
use Rattle.show_items.specs.declared.parts.Part.{Part}
use Rattle.show_items.specs.Records.{section_group}
use Rattle.field_lines.specs.Blocks.{block_status, long_data_entry, short_data_entry}

abbrev pub head_group : List ℕ → Group
head_group bytes = fields_group (single (codes "header")) block_status (part bytes 0 20)

-- the data entry that begins at a place of a block: its head, and behind that its data
abbrev pub entry_head : List ℕ → ℕ → List ℕ
entry_head block at = part (data_part block) at (head_size (drop at (data_part block)))

abbrev pub entry_body_at : List ℕ → ℕ → ℕ
entry_body_at block at = at + head_size (drop at (data_part block))

abbrev pub entry_body_len : List ℕ → ℕ → ℕ
entry_body_len block at = number_at (drop at (data_part block)) 24 4

abbrev pub entry_body : List ℕ → ℕ → List ℕ
entry_body block at = part (data_part block) (entry_body_at block at) (entry_body_len block at)

abbrev pub entry_end : List ℕ → ℕ → ℕ
entry_end block at = entry_body_at block at + entry_body_len block at

-- the type of its section, and the fields of its head by its revision
abbrev pub entry_guid : List ℕ → ℕ → List ℕ
entry_guid block at = part (entry_head block at) 0 16

abbrev pub entry_structure : (revision : ℕ) → Structure
entry_structure revision = if nat_lt revision 0x300 then short_data_entry else long_data_entry

abbrev pub entry_group : List ℕ → (index at : ℕ) → Group
entry_group block index at =
    fields_group (typed (codes "entry") index (entry_guid block at) at)
    (entry_structure (seen_number (entry_head block at) 20 2)) (entry_head block at)

abbrev pub data_group : List ℕ → (index at : ℕ) → Group
data_group block index at = section_group index (entry_guid block at) (entry_body_at block at) (entry_body block at)

-- the entries from a place on, at most so many; they end where too few bytes are left for a head
abbrev pub entry_groups : List ℕ → (most index at : ℕ) → List Group
entry_groups block zero index at = []
entry_groups block (suc most) index at =
    if nat_lt (length (data_part block)) (at + 64) then []
    else entry_group block index at
    ∷ data_group block index at
    ∷ entry_groups block most (index + 1) (entry_end block at)

-- the raw data behind the entries, where there are any
abbrev pub raw_at : ℕ → Head
raw_at at = record { name = codes "raw"; index = None; guid = None; base = at }

abbrev pub raw_groups : (at : ℕ) → (raw : List ℕ) → List Group
raw_groups at [] = []
raw_groups at raw = bytes_group (raw_at at) raw ∷ []

abbrev pub raw_of : List ℕ → List ℕ
raw_of bytes = part bytes (seen_number bytes 4 4) (seen_number bytes 8 4)

-- a block has no more entries than bytes
abbrev pub block_groups : List ℕ → List Group
block_groups bytes =
    head_group bytes ∷ entry_groups bytes (length bytes) 0 20 ++ raw_groups (seen_number bytes 4 4) (raw_of bytes)

-- the parts that the entries from a place on name by the structures of a table, at most so many
abbrev pub ArePartsBehind : (table block : List ℕ) → (most index at : ℕ) → List Part → Type 0
ArePartsBehind table block zero index at parts = parts ≡ []
ArePartsBehind table block (suc most) index at parts =
    ((¬ HasDataEntry block at) × (parts ≡ []))
    ⊎ (HasDataEntry block at × ArePartsThen
    (ArePartsOf (entry_guid block at) table (entry_body block at) index (entry_body_at block at))
    (ArePartsBehind table block most (index + 1) (entry_end block at)) parts)

-- without a table there are none
abbrev pub AreBlockParts : (smbios : Option (List ℕ)) → (block : List ℕ) → List Part → Type 0
AreBlockParts None block parts = parts ≡ []
AreBlockParts (Some table) block parts = ArePartsBehind table block (length block) 0 20 parts

-- a block that begins at a place of its file; behind its groups stand the parts that its sections name
pub record IsBlock (at : Option ℕ) (bytes : List ℕ) (item : Shown) : Type 0 where
  pub heading : IsShownAs (codes "block") at bytes item
  pub sentence : IsBlockSentence bytes item.heading.sentence
  pub parts : List Part
  pub are_parts : AreBlockParts item.smbios bytes parts
  pub groups : item.groups ≡ block_groups bytes ++ part_groups parts
  pub judged : IsJudgedBy Block bytes item
