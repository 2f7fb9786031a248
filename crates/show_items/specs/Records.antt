-- Error records (UEFI 2.8, appendix N.2): what is shown of one.
use Rattle.std.specs.Prelude.{◌≡◌, ℕ, zero, suc, ◌+◌, ◌-◌, ◌*◌, ◌^◌, nat_lt, min, if◌then◌else◌, List, [], ◌∷◌, ◌++◌, length, take, codes, Option, Some, None, ◌⊎◌}
use Rattle.apei_bytes.specs.Guid.{guid_text}
use Rattle.base_model.specs.Bytes.{part, number_at}
use Rattle.field_lines.specs.Layouts.{Structure}
use Rattle.item_parts.specs.declared.items.Item.TheVariants.{Record}
use Rattle.show_findings.specs.Places.{HasSection, seen_number}
use Rattle.show_findings.specs.Subjects.{is_of_linux}
use Rattle.show_items.specs.Groups.{Group, Head, fields_group, group_by, numbered, single, typed}
use Rattle.show_items.specs.Items.{Shown}
use Rattle.show_items.specs.Judged.{IsJudgedBy, IsShownAs}
use Rattle.show_items.specs.Parts.{ArePartsOf, ArePartsThen, part_groups}
use Rattle.show_items.specs.Sentences.{IsRecordSentence}
use Rattle.show_items.specs.declared.parts.Part.{Part}
use Rattle.field_lines.specs.Records.{linux_header, record_header, section_descriptor}
use Rattle.field_lines.specs.Sections.{section_structure}

-- the header; that of a record of Linux's has its time in seconds
abbrev pub header_structure : List ℕ → Structure
header_structure bytes = if is_of_linux bytes then linux_header else record_header

abbrev pub header_group : List ℕ → Group
header_group bytes = fields_group (single (codes "header")) (header_structure bytes) (part bytes 0 128)

-- the body of a section: its fields where its type is known, and its bytes where it isn't
abbrev pub section_group : (index : ℕ) → (guid : List ℕ) → (base : ℕ) → (body : List ℕ) → Group
section_group index guid base body =
    group_by (section_structure (guid_text guid)) (typed (codes "section") index guid base) body

-- the descriptors stand one behind another; each tells where the body of its section stands, its length, and its type
abbrev pub descriptor_at : ℕ → ℕ
descriptor_at index = 128 + 72 * index

abbrev pub descriptor_of : List ℕ → ℕ → List ℕ
descriptor_of bytes index = part bytes (descriptor_at index) 72

abbrev pub section_offset : List ℕ → ℕ → ℕ
section_offset bytes index = number_at bytes (descriptor_at index) 4

abbrev pub section_type : List ℕ → ℕ → List ℕ
section_type bytes index = part (descriptor_of bytes index) 16 16

abbrev pub section_body : List ℕ → ℕ → List ℕ
section_body bytes index = part bytes (section_offset bytes index) (number_at bytes (descriptor_at index + 4) 4)

abbrev pub descriptor_head : ℕ → Head
descriptor_head index = numbered (codes "descriptor") index (descriptor_at index)

abbrev pub descriptor_group : List ℕ → ℕ → Group
descriptor_group bytes index = fields_group (descriptor_head index) section_descriptor (descriptor_of bytes index)

-- no more of a body is shown than so many bytes
abbrev pub body_group : List ℕ → (index room : ℕ) → Group
body_group bytes index room =
    section_group index (section_type bytes index) (section_offset bytes index) (take room (section_body bytes index))

abbrev pub room_behind : List ℕ → (index room : ℕ) → ℕ
room_behind bytes index room = room - length (take room (section_body bytes index))

-- so many sections, from one on; they end before the first whose descriptor isn't all there
abbrev pub section_groups : List ℕ → (count index room : ℕ) → List Group
section_groups bytes zero index room = []
section_groups bytes (suc count) index room =
    if nat_lt (length bytes) (descriptor_at index + 72) then []
    else descriptor_group bytes index
    ∷ body_group bytes index room
    ∷ section_groups bytes count (index + 1) (room_behind bytes index room)

-- bodies may name the same bytes: all together they have at most 16 times as many as the record
abbrev pub room_of : List ℕ → ℕ
room_of bytes = min (length bytes * 16) (2 ^ 64 - 1)

abbrev pub record_groups : List ℕ → List Group
record_groups bytes = header_group bytes ∷ section_groups bytes (seen_number bytes 10 2) 0 (room_of bytes)

-- the parts that so many sections name by the structures of a table, from one section on
abbrev pub ArePartsFrom : (table bytes : List ℕ) → (count index : ℕ) → List Part → Type 0
ArePartsFrom table bytes zero index parts = parts ≡ []
ArePartsFrom table bytes (suc count) index parts =
    ((¬ HasSection bytes index) × (parts ≡ []))
    ⊎ (HasSection bytes index × ArePartsThen
    (ArePartsOf (section_type bytes index) table (section_body bytes index) index (section_offset bytes index))
    (ArePartsFrom table bytes count (index + 1)) parts)

-- without a table there are none
abbrev pub AreRecordParts : (smbios : Option (List ℕ)) → (bytes : List ℕ) → List Part → Type 0
AreRecordParts None bytes parts = parts ≡ []
AreRecordParts (Some table) bytes parts = ArePartsFrom table bytes (seen_number bytes 10 2) 0 parts

-- a record that begins at a place of its file; behind its groups stand the parts that its sections name
pub record IsRecord (at : Option ℕ) (bytes : List ℕ) (item : Shown) : Type 0 where
  pub heading : IsShownAs (codes "record") at bytes item
  pub sentence : IsRecordSentence bytes item.heading.sentence
  pub parts : List Part
  pub are_parts : AreRecordParts item.smbios bytes parts
  pub groups : item.groups ≡ record_groups bytes ++ part_groups parts
  pub judged : IsJudgedBy Record bytes item
