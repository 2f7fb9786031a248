-- The Boot Error Record Table (ACPI 6.4, 18.3.1).
use Rattle.std.specs.Prelude.{◌≡◌, ℕ, ◌≤◌, List, length, codes}
use Rattle.base_model.specs.Bytes.{number_at}
use Rattle.apei_tables.specs.declared.headers.Header.{Header}
use Rattle.apei_tables.specs.Layout.{IsHeader}
use Rattle.apei_tables.specs.Tables.{IsTable}
use Rattle.ghes_block.specs.declared.table.Bert.{Bert}

-- a sealed table of this signature with at least 48 bytes, that names this region
pub record IsBert (bert : Bert) (table : List ℕ) : Type 0 where
  pub is_table : (header : Header) × IsHeader header × IsTable header table × (header.signature ≡ (codes "BERT"))
  pub fixed : 48 ≤ length table
  pub len : number_at table 36 4 ≡ bert.len
  pub region : number_at table 40 8 ≡ bert.region
