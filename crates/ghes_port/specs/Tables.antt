-- The sources as their table states them.
use Rattle.std.specs.Prelude.{◌≡◌, ℕ, List, ◌++◌, length, All, map, codes}
use Rattle.base_model.specs.Bytes.{spelled, joined}
use Rattle.apei_tables.specs.Layout.{spelling}
use Rattle.apei_tables.specs.declared.headers.Header.{Header}
use Rattle.hest_sources.specs.declared.sources.HestSource.{HestSource}
use Rattle.hest_sources.specs.declared.sources.HestSource.TheVariants.{Ghes as Generic}
use Rattle.hest_sources.specs.Layout.{IsGhes, ghes_bytes}
use Rattle.ghes_port.specs.declared.setups.Setup.{Setup}

abbrev pub stated : List Setup → List HestSource
stated setups = map (λ s. Generic s.source) setups

-- each number of their structures fits its field
abbrev pub AreStructures : List Setup → Type 0
AreStructures setups = All (λ s. IsGhes s.source) setups

-- the header of a table of this signature
abbrev pub own_header : List ℕ → ℕ → ℕ → Header
own_header signature len checksum = record {
  signature = signature;
  length = len;
  revision = 1;
  checksum = checksum;
  oem_id = codes "APEIPR";
  oem_table_id = codes "APEIGHES";
  oem_revision = 1;
  creator_id = codes "APEI";
  creator_revision = 1;
}

-- the table of some sources, whose checksum is still 0
abbrev pub IsUnsealed : List Setup → List ℕ → Type 0
IsUnsealed setups table =
    table ≡ (spelling (own_header (codes "HEST") (length table) 0) ++ spelled 4 (length setups)) ++ joined (map (λ s. ghes_bytes s.source) setups)
