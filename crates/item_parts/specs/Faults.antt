-- Where each fault stands, and which it is.
use Rattle.std.specs.Prelude.{ℕ, ◌+◌, ◌*◌, ◌%◌, ◌^◌, Option, Some, None}
use Rattle.apei_tables.specs.declared.headers.TableError.{TableError}
use Rattle.apei_tables.specs.declared.headers.TableError.TheVariants.{Short, Signature, Length, Sum}
use Rattle.erst_entries.specs.declared.tables.ErstError.{ErstError}
use Rattle.erst_entries.specs.declared.tables.ErstError.TheVariants.{Table as ErstTable, HeaderSize as SizeFault, Count as EntryFault, Memory as ErstMemory}
use Rattle.hest_sources.specs.declared.tables.HestError.{HestError}
use Rattle.hest_sources.specs.declared.tables.HestError.TheVariants.{Table as HestTable, UnknownType, Cut, Count as SourceFault, Memory as HestMemory}
use Rattle.cper_frame.specs.declared.error.FrameError.{FrameError}
use Rattle.cper_frame.specs.declared.error.FrameError.TheVariants.{Need as RecordNeed, Start, End, Length as LengthFault, Section, Limit}
use Rattle.ghes_block.specs.declared.error.BlockError.{BlockError}
use Rattle.ghes_block.specs.declared.error.BlockError.TheVariants.{Need as BlockNeed, NotPublished, RawOffset, Entry, Rest}
use Rattle.item_parts.specs.declared.faults.ItemError.{ItemError}
use Rattle.item_parts.specs.declared.faults.ItemError.TheVariants.{Erst, Hest, Bert, Record, Block}
use Rattle.item_parts.specs.declared.faults.Fault.{Fault}
use Rattle.item_parts.specs.declared.faults.FaultKind.{FaultKind}
use Rattle.item_parts.specs.declared.faults.FaultKind.TheVariants.{TableShort, TableSignature, TableLength, TableSum, HeaderSize, EntryCount, SourceType}
use Rattle.item_parts.specs.declared.faults.FaultKind.TheVariants.{SourceCut, SourceCount, RecordShort, RecordStart, RecordEnd, RecordLength, RecordSection}
use Rattle.item_parts.specs.declared.faults.FaultKind.TheVariants.{RecordLimit, BlockShort, BlockNotPublished, BlockRawOffset, BlockEntry, BlockRest}

abbrev pub number_of_kind : FaultKind → ℕ
number_of_kind TableShort = 1
number_of_kind TableSignature = 2
number_of_kind TableLength = 3
number_of_kind TableSum = 4
number_of_kind HeaderSize = 5
number_of_kind EntryCount = 6
number_of_kind SourceType = 7
number_of_kind SourceCut = 8
number_of_kind SourceCount = 9
number_of_kind RecordShort = 10
number_of_kind RecordStart = 11
number_of_kind RecordEnd = 12
number_of_kind RecordLength = 13
number_of_kind RecordSection = 14
number_of_kind RecordLimit = 15
number_of_kind BlockShort = 16
number_of_kind BlockNotPublished = 17
number_of_kind BlockRawOffset = 18
number_of_kind BlockEntry = 19
number_of_kind BlockRest = 20

abbrev pub fault_at : ℕ → FaultKind → Fault
fault_at at kind = record { at = at; kind = kind }

abbrev pub table_fault : TableError → Fault
table_fault (Short have) = fault_at have TableShort
table_fault (Signature found) = fault_at 0 TableSignature
table_fault (Length found) = fault_at 4 TableLength
table_fault (Sum found) = fault_at 9 TableSum

abbrev pub erst_fault : ErstError → Option Fault
erst_fault (ErstTable error) = Some (table_fault error)
erst_fault (SizeFault found) = Some (fault_at 36 HeaderSize)
erst_fault (EntryFault found size) = Some (fault_at 44 EntryCount)
erst_fault ErstMemory = None

abbrev pub hest_fault : HestError → Option Fault
hest_fault (HestTable error) = Some (table_fault error)
hest_fault (UnknownType at code) = Some (fault_at at SourceType)
hest_fault (Cut at) = Some (fault_at at SourceCut)
hest_fault (SourceFault declared found) = Some (fault_at 36 SourceCount)
hest_fault HestMemory = None

-- of bytes of which so many were there; the descriptor of a section is the place of its fault
abbrev pub record_fault : FrameError → ℕ → Fault
record_fault (RecordNeed more) have = fault_at have RecordShort
record_fault Start have = fault_at 0 RecordStart
record_fault End have = fault_at 6 RecordEnd
record_fault (LengthFault found) have = fault_at 20 RecordLength
record_fault (Section index) have = fault_at (128 + 72 * (index % 2 ^ 16)) RecordSection
record_fault (Limit found) have = fault_at 20 RecordLimit

abbrev pub block_fault : BlockError → ℕ → Fault
block_fault (BlockNeed more) have = fault_at have BlockShort
block_fault NotPublished have = fault_at 0 BlockNotPublished
block_fault (RawOffset found) have = fault_at 4 BlockRawOffset
block_fault (Entry index at) have = fault_at at BlockEntry
block_fault (Rest left) have = fault_at 12 BlockRest

abbrev pub fault_of : ItemError → ℕ → Option Fault
fault_of (Erst error) have = erst_fault error
fault_of (Hest error) have = hest_fault error
fault_of (Bert error) have = Some (table_fault error)
fault_of (Record error) have = Some (record_fault error have)
fault_of (Block error) have = Some (block_fault error have)
