-- The serialization actions (ACPI 6.4, section 18.5.1.1): their codes, of which 0xC has none, and the standard's names.
use Rattle.std.specs.Prelude.{ℕ, List, [], ◌∷◌, Option, Some, None, slice_get, codes}
use Rattle.apei_tables.specs.declared.structure.Gas.{Gas}
use Rattle.erst_entries.specs.declared.entries.Entry.{Entry}
use Rattle.erst_entries.specs.declared.actions.Action.{Action}
use Rattle.erst_entries.specs.declared.actions.Action.TheVariants.{BeginWriteOperation, BeginReadOperation, BeginClearOperation, EndOperation, SetRecordOffset}
use Rattle.erst_entries.specs.declared.actions.Action.TheVariants.{ExecuteOperation, CheckBusyStatus, GetCommandStatus, GetRecordIdentifier}
use Rattle.erst_entries.specs.declared.actions.Action.TheVariants.{SetRecordIdentifier, GetRecordCount, BeginDummyWriteOperation, GetErrorLogAddressRange}
use Rattle.erst_entries.specs.declared.actions.Action.TheVariants.{GetErrorLogAddressRangeLength, GetErrorLogAddressRangeAttributes, GetExecuteOperationTimings}

abbrev pub code_of : Action → ℕ
code_of action = elim action [
  | BeginWriteOperation ↦ 0x0
  | BeginReadOperation ↦ 0x1
  | BeginClearOperation ↦ 0x2
  | EndOperation ↦ 0x3
  | SetRecordOffset ↦ 0x4
  | ExecuteOperation ↦ 0x5
  | CheckBusyStatus ↦ 0x6
  | GetCommandStatus ↦ 0x7
  | GetRecordIdentifier ↦ 0x8
  | SetRecordIdentifier ↦ 0x9
  | GetRecordCount ↦ 0xA
  | BeginDummyWriteOperation ↦ 0xB
  | GetErrorLogAddressRange ↦ 0xD
  | GetErrorLogAddressRangeLength ↦ 0xE
  | GetErrorLogAddressRangeAttributes ↦ 0xF
  | GetExecuteOperationTimings ↦ 0x10
]

-- the action of a code: they stand in the order of their codes, from 0 on
abbrev pub action_of : ℕ → Option Action
action_of code =
    elim (slice_get (
    Some BeginWriteOperation ∷ Some BeginReadOperation ∷ Some BeginClearOperation ∷ Some EndOperation ∷ Some SetRecordOffset ∷ Some ExecuteOperation
    ∷ Some CheckBusyStatus ∷ Some GetCommandStatus ∷ Some GetRecordIdentifier ∷ Some SetRecordIdentifier ∷ Some GetRecordCount
    ∷ Some BeginDummyWriteOperation ∷ None ∷ Some GetErrorLogAddressRange ∷ Some GetErrorLogAddressRangeLength
    ∷ Some GetErrorLogAddressRangeAttributes ∷ Some GetExecuteOperationTimings ∷ []) code) [ None ↦ None | Some place ↦ place ]

abbrev pub action_name : Action → List ℕ
action_name action = elim action [
  | BeginWriteOperation ↦ codes "BEGIN_WRITE_OPERATION"
  | BeginReadOperation ↦ codes "BEGIN_READ_OPERATION"
  | BeginClearOperation ↦ codes "BEGIN_CLEAR_OPERATION"
  | EndOperation ↦ codes "END_OPERATION"
  | SetRecordOffset ↦ codes "SET_RECORD_OFFSET"
  | ExecuteOperation ↦ codes "EXECUTE_OPERATION"
  | CheckBusyStatus ↦ codes "CHECK_BUSY_STATUS"
  | GetCommandStatus ↦ codes "GET_COMMAND_STATUS"
  | GetRecordIdentifier ↦ codes "GET_RECORD_IDENTIFIER"
  | SetRecordIdentifier ↦ codes "SET_RECORD_IDENTIFIER"
  | GetRecordCount ↦ codes "GET_RECORD_COUNT"
  | BeginDummyWriteOperation ↦ codes "BEGIN_DUMMY_WRITE_OPERATION"
  | GetErrorLogAddressRange ↦ codes "GET_ERROR_LOG_ADDRESS_RANGE"
  | GetErrorLogAddressRangeLength ↦ codes "GET_ERROR_LOG_ADDRESS_RANGE_LENGTH"
  | GetErrorLogAddressRangeAttributes ↦ codes "GET_ERROR_LOG_ADDRESS_RANGE_ATTRIBUTES"
  | GetExecuteOperationTimings ↦ codes "GET_EXECUTE_OPERATION_TIMINGS"
]

-- an entry of an action, without flags
abbrev pub plain_entry : Action → ℕ → Gas → ℕ → ℕ → Entry
plain_entry action code region value mask = record { action = code_of action; code = code; flags = 0; spare = 0; region = region; value = value; mask = mask }
