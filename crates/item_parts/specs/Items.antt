-- What bytes begin with, and its parts.
use Rattle.std.specs.Prelude.{◌≡◌, ℕ, ◌-◌, ◌^◌, ◌≤◌, List, [], length, take, slice_get, Option, Some, Result, Err, MatchResult, codes}
use Rattle.apei_tables.specs.Tables.{refusal as table_refusal}
use Rattle.erst_entries.specs.Layout.{Erst as ErstValue, FitsErst}
use Rattle.erst_entries.specs.Tables.{IsErst, refusal as erst_refusal}
use Rattle.hest_sources.specs.declared.sources.HestSource.{HestSource}
use Rattle.hest_sources.specs.declared.tables.HestError.TheVariants.{Memory}
use Rattle.hest_sources.specs.Tables.{IsHest, IsRefusal}
use Rattle.ghes_block.specs.declared.table.Bert.{Bert as BertValue}
use Rattle.ghes_block.specs.Table.{IsBert}
use Rattle.cper_frame.specs.Grammar.{RecordValue, IsRecord}
use Rattle.cper_frame.specs.Reading.{checked as record_checked}
use Rattle.ghes_block.specs.Grammar.{BlockValue, IsBlock}
use Rattle.ghes_block.specs.Reading.{checked as block_checked}
use Rattle.item_parts.specs.declared.parts.Part.{Part}
use Rattle.item_parts.specs.declared.items.Item.{Item}
use Rattle.item_parts.specs.declared.items.Item.TheVariants.{Erst, Hest, Bert, Record, Block}
use Rattle.item_parts.specs.declared.faults.ItemError.{ItemError}
use Rattle.item_parts.specs.declared.faults.ItemError.TheVariants.{Erst as ErstFault, Hest as HestFault, Bert as BertFault, Record as RecordFault, Block as BlockFault}
use Rattle.item_parts.specs.Parts.{entry_parts, source_parts, section_parts, data_parts}

-- these bytes, all of them, are an item of a kind, and these are its parts
abbrev pub ErstParts : List Part → List ℕ → Type 0
ErstParts parts table = (erst : ErstValue) × IsErst erst table × FitsErst erst × (parts ≡ entry_parts 48 erst.entries)

abbrev pub HestParts : List Part → List ℕ → Type 0
HestParts parts table = (sources : List HestSource) × IsHest sources table × (parts ≡ source_parts 40 sources)

abbrev pub BertParts : List Part → List ℕ → Type 0
BertParts parts table = (bert : BertValue) × IsBert bert table × (parts ≡ [])

abbrev pub RecordParts : List Part → List ℕ → Type 0
RecordParts parts bytes = (value : RecordValue) × IsRecord value bytes × (parts ≡ section_parts 128 value.sections)

abbrev pub BlockParts : List Part → List ℕ → Type 0
BlockParts parts bytes = (value : BlockValue) × IsBlock value bytes × (parts ≡ data_parts 20 value.entries)

abbrev pub PartsOf : Item → List Part → List ℕ → Type 0
PartsOf Erst = ErstParts
PartsOf Hest = HestParts
PartsOf Bert = BertParts
PartsOf Record = RecordParts
PartsOf Block = BlockParts

-- bytes begin with such an item
abbrev pub Begins : (List Part → List ℕ → Type 0) → List Part → List ℕ → Type 0
Begins Parts parts bytes = (size : ℕ) × (size ≤ length bytes) × Parts parts (take size bytes)

-- it has so many parts
abbrev pub Counts : (List Part → List ℕ → Type 0) → List ℕ → ℕ → Type 0
Counts Parts bytes count = (parts : List Part) × Begins Parts parts bytes × (count ≡ length parts)

-- this is its part of an index, or there is none
abbrev pub Tells : (List Part → List ℕ → Type 0) → List ℕ → ℕ → Option Part → Type 0
Tells Parts bytes index part = (parts : List Part) × Begins Parts parts bytes × (part ≡ slice_get parts index)

-- only a Hardware Error Source Table takes memory
abbrev pub IsOutOfMemory : ItemError → Type 0
IsOutOfMemory error = error ≡ HestFault Memory

-- what is such an item is found
abbrev pub FindsCount : (List Part → List ℕ → Type 0) → List ℕ → Result ℕ ItemError → Type 0
FindsCount Parts bytes result = (parts : List Part) → Begins Parts parts bytes → MatchResult result (λ count. count ≡ length parts) IsOutOfMemory

abbrev pub FindsPart : (List Part → List ℕ → Type 0) → List ℕ → ℕ → Result (Option Part) ItemError → Type 0
FindsPart Parts bytes index result = (parts : List Part) → Begins Parts parts bytes → MatchResult result (λ part. part ≡ slice_get parts index) IsOutOfMemory

-- the error is that of the item's decoder
abbrev pub IsFault : Item → List ℕ → ItemError → Type 0
IsFault Erst bytes (ErstFault error) = erst_refusal bytes ≡ Some error
IsFault Hest bytes (HestFault error) = IsRefusal bytes error
IsFault Bert bytes (BertFault error) = table_refusal (codes "BERT") 48 bytes ≡ Some error
IsFault Record bytes (RecordFault error) = record_checked (2 ^ 32 - 1) bytes ≡ Err error
IsFault Block bytes (BlockFault error) = block_checked bytes ≡ Err error
IsFault _ bytes _ = ⊥
