-- What a record is (UEFI 2.8, N.2): fields one after another, and bodies that are parts of it.
use Rattle.std.specs.Prelude.{◌≡◌, ℕ, ◌+◌, ◌-◌, ◌*◌, ◌^◌, ◌<◌, ◌≤◌, List, [], ◌∷◌, ◌++◌, length, codes}
use Rattle.std.specs.List.{flat_map}
use Rattle.std.specs.Prelude.{All}
use Rattle.base_model.specs.Bytes.{part, spelled, joined}
use Rattle.cper_frame.specs.declared.heads.RecordHead.{RecordHead}
use Rattle.cper_frame.specs.declared.heads.SectionHead.{SectionHead}

-- a section: what its descriptor says, and its bytes
pub record SectionValue : Type 0 where
  pub head : SectionHead
  pub offset : ℕ
  pub body : List ℕ

-- a record: what its header says, and its sections in the order of their descriptors
pub record RecordValue : Type 0 where
  pub head : RecordHead
  pub sections : List SectionValue

-- the fields of a header, 128 bytes: up to the record length, and behind it
abbrev pub header_front : RecordHead → ℕ → ℕ → List (List ℕ)
header_front head sections len =
    codes "CPER"
    ∷ spelled 2 head.revision
    ∷ spelled 4 (2 ^ 32 - 1)
    ∷ spelled 2 sections
    ∷ spelled 4 head.severity
    ∷ spelled 4 head.validation
    ∷ spelled 4 len
    ∷ []

abbrev pub header_back : RecordHead → List (List ℕ)
header_back head =
    spelled 8 head.timestamp
    ∷ head.platform
    ∷ head.partition
    ∷ head.creator
    ∷ head.notification
    ∷ spelled 8 head.id
    ∷ spelled 4 head.flags
    ∷ head.persistence
    ∷ head.reserved
    ∷ []

abbrev pub header : RecordHead → ℕ → ℕ → List (List ℕ)
header head sections len = header_front head sections len ++ header_back head

-- the fields of a descriptor, 72 bytes: its body begins at this offset and has so many bytes
abbrev pub descriptor_fields : SectionHead → ℕ → ℕ → List (List ℕ)
descriptor_fields head offset len =
    spelled 4 offset
    ∷ spelled 4 len
    ∷ spelled 2 head.revision
    ∷ spelled 1 head.validation
    ∷ spelled 1 head.reserved
    ∷ spelled 4 head.flags
    ∷ head.kind
    ∷ head.fru
    ∷ spelled 4 head.severity
    ∷ head.fru_text
    ∷ []

-- the descriptors, one after another
unfoldable pub descriptors : List SectionValue → List ℕ
descriptors sections = flat_map (λ section. joined (descriptor_fields section.head section.offset (length section.body))) sections

-- where bodies may begin: behind the header and so many descriptors
abbrev pub bodies_from : ℕ → ℕ
bodies_from sections = 128 + 72 * sections

-- each number of a header fits its field, and each array has its length
pub record IsRecordHead (head : RecordHead) : Type 0 where
  pub revision : head.revision < 2 ^ 16
  pub severity : head.severity < 2 ^ 32
  pub validation : head.validation < 2 ^ 32
  pub timestamp : head.timestamp < 2 ^ 64
  pub platform : length head.platform ≡ 16
  pub partition : length head.partition ≡ 16
  pub creator : length head.creator ≡ 16
  pub notification : length head.notification ≡ 16
  pub id : head.id < 2 ^ 64
  pub flags : head.flags < 2 ^ 32
  pub persistence : length head.persistence ≡ 8
  pub reserved : length head.reserved ≡ 12

-- the same of a descriptor
pub record IsSectionHead (head : SectionHead) : Type 0 where
  pub revision : head.revision < 2 ^ 16
  pub validation : head.validation < 2 ^ 8
  pub reserved : head.reserved < 2 ^ 8
  pub flags : head.flags < 2 ^ 32
  pub kind : length head.kind ≡ 16
  pub fru : length head.fru ≡ 16
  pub severity : head.severity < 2 ^ 32
  pub fru_text : length head.fru_text ≡ 20

-- a section's body is the part of the record at its offset, behind the descriptors
pub record IsSectionOf (first : ℕ) (bytes : List ℕ) (section : SectionValue) : Type 0 where
  pub head : IsSectionHead section.head
  pub behind : first ≤ section.offset
  pub within : section.offset + length section.body ≤ length bytes
  pub body : section.body ≡ part bytes section.offset (length section.body)

-- the bytes are exactly this record: header, descriptors, any bytes; bodies are parts, which may overlap
pub record IsRecord (value : RecordValue) (bytes : List ℕ) : Type 0 where
  pub few : length value.sections < 2 ^ 16
  pub short : length bytes < 2 ^ 32
  pub head : IsRecordHead value.head
  pub sections : All (IsSectionOf (bodies_from (length value.sections)) bytes) value.sections
  pub spelling : (rest : List ℕ) × (bytes ≡ joined (header value.head (length value.sections) (length bytes)) ++ descriptors value.sections ++ rest)
