-- What a Hardware Error Source Table is, and why bytes don't begin with one.
use Rattle.std.specs.Prelude.{◌≡◌, ℕ, ◌≤◌, List, [], length, take, drop, codes, ◌==◌, if◌then◌else◌, Option, Some, None, Ok, Err}
use Rattle.base_model.specs.Bytes.{number_at}
use Rattle.apei_bytes.specs.Walk.{AreItems}
use Rattle.apei_tables.specs.declared.headers.Header.{Header}
use Rattle.apei_tables.specs.Layout.{IsHeader}
use Rattle.apei_tables.specs.Tables.{IsTable, FindsTable, refusal as table_refusal}
use Rattle.hest_sources.specs.declared.sources.HestSource.{HestSource}
use Rattle.hest_sources.specs.declared.tables.HestError.{HestError}
use Rattle.hest_sources.specs.declared.tables.HestError.TheVariants.{Table, UnknownType, Cut, Count, Memory}
use Rattle.hest_sources.specs.Layout.{IsSource}
use Rattle.hest_sources.specs.Walk.{source_count}

-- a sealed table of this signature that has exactly the counted sources behind its first 40 bytes
pub record IsHest (sources : List HestSource) (table : List ℕ) : Type 0 where
  pub is_table : (header : Header) × IsHeader header × IsTable header table × (header.signature ≡ codes "HEST")
  pub fixed : 40 ≤ length table
  pub count : number_at table 36 4 ≡ length sources
  pub sources_are : AreItems IsSource (λ rest. rest ≡ []) 40 sources (drop 40 table)

-- the first reason why bytes don't begin with such a table: that of any table, a fault of the walk, or another count than was walked
abbrev pub refusal : List ℕ → Option HestError
refusal bytes =
    let table = take (number_at bytes 4 4) bytes in
    let declared = number_at table 36 4 in
    elim (table_refusal (codes "HEST") 40 bytes) [
      | Some error ↦ Some (Table error)
      | None ↦ elim (source_count table) [
        | Ok found ↦ if declared == found then None else Some (Count declared found)
        | Err error ↦ Some error
      ]
    ]

-- an error is that reason, and want of memory comes only where there is none
abbrev pub IsRefusal : List ℕ → HestError → Type 0
IsRefusal bytes (Table error) = refusal bytes ≡ Some (Table error)
IsRefusal bytes (UnknownType at code) = refusal bytes ≡ Some (UnknownType at code)
IsRefusal bytes (Cut at) = refusal bytes ≡ Some (Cut at)
IsRefusal bytes (Count declared found) = refusal bytes ≡ Some (Count declared found)
IsRefusal bytes Memory = refusal bytes ≡ None

-- an error other than want of memory
abbrev pub IsMalformed : HestError → Type 0
IsMalformed (Table error) = Unit {0}
IsMalformed (UnknownType at code) = Unit {0}
IsMalformed (Cut at) = Unit {0}
IsMalformed (Count declared found) = Unit {0}
IsMalformed Memory = ⊥

-- the bytes begin with this table, which has as many sources as it says
pub record CountsTable (bytes table : List ℕ) (count : ℕ) : Type 0 where
  pub header : Header
  pub finds : FindsTable (codes "HEST") 40 bytes header table
  pub found : source_count table ≡ Ok count
  pub declared : number_at table 36 4 ≡ count
