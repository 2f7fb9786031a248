-- A second table for the machine: the error log address range is its scratch memory, and the programs of the table itself move the record
-- between that memory and the machine's own log range.
use Rattle.std.specs.Prelude.{ℕ, ◌+◌, ◌-◌, ◌*◌, ◌/◌, ◌%◌, ◌^◌, min, sum, List, [], ◌∷◌, ◌++◌, length, codes}
use Rattle.erst_entries.specs.declared.actions.Action.TheVariants.{BeginWriteOperation, BeginReadOperation, BeginClearOperation, EndOperation, SetRecordOffset}
use Rattle.erst_entries.specs.declared.actions.Action.TheVariants.{ExecuteOperation, CheckBusyStatus, GetCommandStatus, GetRecordIdentifier}
use Rattle.erst_entries.specs.declared.actions.Action.TheVariants.{SetRecordIdentifier, GetRecordCount, BeginDummyWriteOperation, GetErrorLogAddressRange}
use Rattle.erst_entries.specs.declared.actions.Action.TheVariants.{GetErrorLogAddressRangeLength, GetErrorLogAddressRangeAttributes}
use Rattle.erst_entries.specs.declared.entries.Entry.{Entry}
use Rattle.erst_entries.specs.Layout.{Erst, spelling}
use Rattle.erst_device.specs.Actions.{log_range_at}
use Rattle.erst_shadow.specs.MoveEntries.{Offset, Source, Length, put_number, use_register, move_entries}
use Rattle.erst_machine.specs.declared.areas.Area.TheVariants.{Scratch}
use Rattle.erst_machine.specs.Areas.{base_of}
use Rattle.erst_machine.specs.OwnTables.{own_header, act, give, is_one, answer, tell, told_actions}

-- how many pieces of 128 bytes the longest record has: as many as the longest of the machine, and as fit below the registers of a move
abbrev pub pieces_of : (reach : ℕ) → ℕ
pieces_of reach = min 31 (reach / 128)

-- the entries before the two moves
abbrev pub entries_before : List Entry
entries_before = act BeginWriteOperation ∷ act BeginReadOperation ∷ act BeginClearOperation ∷ act EndOperation ∷ give SetRecordOffset ∷ act SetRecordOffset ∷ []

-- those between them: EXECUTE_OPERATION goes on behind the first
abbrev pub entries_between : List Entry
entries_between = act ExecuteOperation ∷ act CheckBusyStatus ∷ is_one CheckBusyStatus ∷ []

-- and those behind the second, with which GET_COMMAND_STATUS goes on. The log range is told by numbers that are put into a register
-- first; all else, and what follows, is the machine's own table
abbrev pub entries_behind : (size : ℕ) → List Entry
entries_behind size =
    act GetCommandStatus ∷ answer GetCommandStatus 0xFF
    ∷ act GetRecordIdentifier ∷ answer GetRecordIdentifier (2 ^ 64 - 1)
    ∷ give SetRecordIdentifier ∷ act SetRecordIdentifier
    ∷ act GetRecordCount ∷ answer GetRecordCount (2 ^ 32 - 1)
    ∷ act BeginDummyWriteOperation
    ∷ put_number GetErrorLogAddressRange Source (base_of Scratch) ∷ use_register GetErrorLogAddressRange 0x0 Source
    ∷ put_number GetErrorLogAddressRangeLength Length size ∷ use_register GetErrorLogAddressRangeLength 0x0 Length
    ∷ put_number GetErrorLogAddressRangeAttributes Offset 0 ∷ use_register GetErrorLogAddressRangeAttributes 0x0 Offset
    ∷ []

-- in the order of the actions: EXECUTE_OPERATION first moves the record into the machine's log range, and
-- GET_COMMAND_STATUS first moves the one that stands there back
unfoldable pub shadow_entries : (pieces : ℕ) → List Entry
shadow_entries pieces =
    entries_before ++ (move_entries ExecuteOperation (base_of Scratch) log_range_at (128 * pieces)
    ++ (entries_between ++ (move_entries GetCommandStatus log_range_at (base_of Scratch) (128 * pieces)
    ++ (entries_behind (128 * pieces) ++ tell told_actions))))

abbrev pub shadow_count : ℕ
shadow_count = 50 + length (tell told_actions)

-- the table with a checksum
abbrev pub table_with : (pieces checksum : ℕ) → Erst
table_with pieces checksum = record {
  header = own_header (codes "ERST") (48 + 32 * shadow_count) checksum;
  header_size = 48;
  reserved = 0;
  count = shadow_count;
  entries = shadow_entries pieces;
}

-- the checksum with which the bytes add to 0
unfoldable pub shadow_checksum : (pieces : ℕ) → ℕ
shadow_checksum pieces = (256 - sum (spelling (table_with pieces 0)) % 256) % 256

-- the table
abbrev pub shadow_erst : (pieces : ℕ) → Erst
shadow_erst pieces = table_with pieces (shadow_checksum pieces)
