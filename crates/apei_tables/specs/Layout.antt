-- The 36 bytes of a table's header (ACPI 6.4, section 5.2.6).
use Rattle.std.specs.Prelude.{◌≡◌, ℕ, ◌<◌, ◌^◌, List, [], ◌∷◌, length}
use Rattle.base_model.specs.Bytes.{spelled, joined}
use Rattle.apei_tables.specs.declared.headers.Header.{Header}

-- signature, length, revision and checksum, OEM id, OEM table id, OEM revision, creator id, creator revision, one after another
unfoldable pub spelling : Header → List ℕ
spelling header = joined (
    header.signature
    ∷ spelled 4 header.length
    ∷ (header.revision ∷ header.checksum ∷ [])
    ∷ header.oem_id
    ∷ header.oem_table_id
    ∷ spelled 4 header.oem_revision
    ∷ header.creator_id
    ∷ spelled 4 header.creator_revision
    ∷ [])

-- the parts that are no numbers have their lengths
pub record HasSizes (header : Header) : Type 0 where
  pub signature : length header.signature ≡ 4
  pub oem_id : length header.oem_id ≡ 6
  pub oem_table_id : length header.oem_table_id ≡ 8
  pub creator_id : length header.creator_id ≡ 4

-- each part has its length, and each number fits its field
pub record IsHeader (header : Header) : Type 0 where
  pub signature : length header.signature ≡ 4
  pub size : header.length < 2 ^ 32
  pub revision : header.revision < 256
  pub checksum : header.checksum < 256
  pub oem_id : length header.oem_id ≡ 6
  pub oem_table_id : length header.oem_table_id ≡ 8
  pub oem_revision : header.oem_revision < 2 ^ 32
  pub creator_id : length header.creator_id ≡ 4
  pub creator_revision : header.creator_revision < 2 ^ 32
