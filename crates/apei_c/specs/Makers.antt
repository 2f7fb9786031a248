-- What C's makers put at the front of a buffer.
use Rattle.std.specs.Prelude.{◌≡◌, ◌⊎◌, ℕ, ◌+◌, ◌==◌, if◌then◌else◌, List, length, Option, Some, None}
use Rattle.base_model.specs.Bytes.{put_at}
use Rattle.item_makers.specs.declared.severity.Severity.{Severity}
use Rattle.item_makers.specs.declared.blocks.BlockFields.{BlockFields}
use Rattle.item_makers.specs.declared.records.RecordFields.{RecordFields}
use Rattle.item_makers.specs.declared.error.MakeError.{MakeError}
use Rattle.item_makers.specs.declared.error.MakeError.TheVariants as making
use Rattle.item_makers.specs.Sizes.{refusal}
use Rattle.item_makers.specs.Blocks.{block_bytes}
use Rattle.item_makers.specs.Records.{record_bytes}
use Rattle.apei_c.specs.declared.status.Status.{Status}
use Rattle.apei_c.specs.declared.status.Status.TheVariants.{Done, Short, Long, Choice}
use Rattle.apei_c.specs.declared.maker_structs.BlockNumbers.{BlockNumbers}
use Rattle.apei_c.specs.declared.maker_structs.RecordNumbers.{RecordNumbers}

-- a field is given where the number beside it isn't 0
abbrev pub if_given : {T : Type 0} → (given : ℕ) → T → Option T
if_given given value = if given == 0 then None else Some value

abbrev pub block_fields : BlockNumbers → Severity → BlockFields
block_fields numbers severity = record {
  severity = severity;
  kind = numbers.kind;
  flags = numbers.flags;
  fru = if_given numbers.has_fru numbers.fru;
  fru_text = if_given numbers.has_fru_text numbers.fru_text;
  timestamp = if_given numbers.has_timestamp numbers.timestamp;
}

abbrev pub record_fields : RecordNumbers → Severity → RecordFields
record_fields numbers severity = record {
  id = numbers.id;
  severity = severity;
  timestamp = if_given numbers.has_timestamp numbers.timestamp;
  creator = numbers.creator;
  notification = numbers.notification;
  flags = numbers.flags;
  kind = numbers.kind;
  section_flags = numbers.section_flags;
  fru = if_given numbers.has_fru numbers.fru;
  fru_text = if_given numbers.has_fru_text numbers.fru_text;
}

abbrev pub status_of_making : MakeError → Status
status_of_making (making.Long size) = Long
status_of_making (making.Room need) = Short

-- the size that is told of an item for which there is no room; else the one from before stays
abbrev pub size_told : MakeError → (was : ℕ) → ℕ
size_told (making.Long size) was = was
size_told (making.Room need) was = need

-- an item of so many bytes is made, or it is refused and nothing changes
abbrev pub MakesItem : (item : List ℕ) (len : ℕ) → (before : List ℕ) → (was : ℕ) → Status → (after : List ℕ) → (size : ℕ) → Type 0
MakesItem item len before was status after size =
    ((status ≡ Done) × (refusal (length before) len ≡ None) × (after ≡ put_at before 0 item) × (size ≡ len))
    ⊎ ((fault : MakeError) × (refusal (length before) len ≡ Some fault) × (status ≡ status_of_making fault) × (after ≡ before) × (size ≡ size_told fault was))

-- the block around a section, whose severity has to be one
abbrev pub MakesBlock : BlockNumbers → Option Severity → (section before : List ℕ) → (was : ℕ) → Status → (after : List ℕ) → (size : ℕ) → Type 0
MakesBlock numbers None section before was status after size = (status ≡ Choice) × (after ≡ before) × (size ≡ was)
MakesBlock numbers (Some severity) section before was status after size =
    MakesItem (block_bytes (block_fields numbers severity) section) (92 + length section) before was status after size

-- the record around a section
abbrev pub MakesRecord : RecordNumbers → Option Severity → (section before : List ℕ) → (was : ℕ) → Status → (after : List ℕ) → (size : ℕ) → Type 0
MakesRecord numbers None section before was status after size = (status ≡ Choice) × (after ≡ before) × (size ≡ was)
MakesRecord numbers (Some severity) section before was status after size =
    MakesItem (record_bytes (record_fields numbers severity) section) (200 + length section) before was status after size
