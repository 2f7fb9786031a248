-- The table of a port (ACPI 6.4, section 18.5.1): ACTION stands where the registers' window begins, VALUE 8 bytes behind.
use Rattle.std.specs.Prelude.{ℕ, ◌+◌, ◌-◌, ◌*◌, ◌%◌, ◌^◌, sum, List, [], ◌∷◌, codes}
use Rattle.apei_tables.specs.declared.structure.Gas.{Gas}
use Rattle.erst_entries.specs.declared.actions.Action.{Action}
use Rattle.erst_entries.specs.declared.actions.Action.TheVariants.{BeginWriteOperation, BeginReadOperation, BeginClearOperation, EndOperation, SetRecordOffset}
use Rattle.erst_entries.specs.declared.actions.Action.TheVariants.{ExecuteOperation, CheckBusyStatus, GetCommandStatus, GetRecordIdentifier}
use Rattle.erst_entries.specs.declared.actions.Action.TheVariants.{SetRecordIdentifier, GetRecordCount, BeginDummyWriteOperation, GetErrorLogAddressRange}
use Rattle.erst_entries.specs.declared.actions.Action.TheVariants.{GetErrorLogAddressRangeLength, GetErrorLogAddressRangeAttributes, GetExecuteOperationTimings}
use Rattle.erst_entries.specs.declared.entries.Entry.{Entry}
use Rattle.erst_entries.specs.Actions.{code_of, plain_entry}
use Rattle.erst_entries.specs.Layout.{Erst, spelling}
use Rattle.erst_machine.specs.OwnTables.{own_header, register_of}

abbrev pub action_at : (registers : ℕ) → Gas
action_at registers = register_of 32 3 registers

abbrev pub value_at : (registers : ℕ) → Gas
value_at registers = register_of 64 4 (registers + 8)

-- WRITE_REGISTER_VALUE: the action's code goes to ACTION
abbrev pub carries_out : (registers : ℕ) → Action → Entry
carries_out registers action = plain_entry action 0x3 (action_at registers) (code_of action) (2 ^ 32 - 1)

-- WRITE_REGISTER: the given value goes to VALUE
abbrev pub gives : (registers : ℕ) → Action → Entry
gives registers action = plain_entry action 0x2 (value_at registers) 0 (2 ^ 64 - 1)

-- READ_REGISTER_VALUE: whether VALUE is 1
abbrev pub asks_for_one : (registers : ℕ) → Action → Entry
asks_for_one registers action = plain_entry action 0x1 (value_at registers) 1 (2 ^ 64 - 1)

-- READ_REGISTER: VALUE under a mask
abbrev pub takes : (registers : ℕ) → Action → ℕ → Entry
takes registers action mask = plain_entry action 0x0 (value_at registers) 0 mask

-- in the order of the actions
unfoldable pub port_entries : (registers : ℕ) → List Entry
port_entries registers =
    carries_out registers BeginWriteOperation ∷ carries_out registers BeginReadOperation ∷ carries_out registers BeginClearOperation
    ∷ carries_out registers EndOperation
    ∷ gives registers SetRecordOffset ∷ carries_out registers SetRecordOffset
    ∷ carries_out registers ExecuteOperation
    ∷ carries_out registers CheckBusyStatus ∷ asks_for_one registers CheckBusyStatus
    ∷ carries_out registers GetCommandStatus ∷ takes registers GetCommandStatus 0xFF
    ∷ carries_out registers GetRecordIdentifier ∷ takes registers GetRecordIdentifier (2 ^ 64 - 1)
    ∷ gives registers SetRecordIdentifier ∷ carries_out registers SetRecordIdentifier
    ∷ carries_out registers GetRecordCount ∷ takes registers GetRecordCount (2 ^ 32 - 1)
    ∷ carries_out registers BeginDummyWriteOperation
    ∷ carries_out registers GetErrorLogAddressRange ∷ takes registers GetErrorLogAddressRange (2 ^ 64 - 1)
    ∷ carries_out registers GetErrorLogAddressRangeLength ∷ takes registers GetErrorLogAddressRangeLength (2 ^ 64 - 1)
    ∷ carries_out registers GetErrorLogAddressRangeAttributes ∷ takes registers GetErrorLogAddressRangeAttributes (2 ^ 64 - 1)
    ∷ carries_out registers GetExecuteOperationTimings ∷ takes registers GetExecuteOperationTimings (2 ^ 64 - 1)
    ∷ []

abbrev pub port_count : ℕ
port_count = 26

abbrev pub port_size : ℕ
port_size = 48 + 32 * port_count

-- the table with a checksum
abbrev pub table_with : (registers checksum : ℕ) → Erst
table_with registers checksum = record {
  header = own_header (codes "ERST") port_size checksum;
  header_size = 48;
  reserved = 0;
  count = port_count;
  entries = port_entries registers;
}

-- the checksum with which the bytes add to 0
unfoldable pub port_checksum : (registers : ℕ) → ℕ
port_checksum registers = (256 - sum (spelling (table_with registers 0)) % 256) % 256

abbrev pub port_erst : (registers : ℕ) → Erst
port_erst registers = table_with registers (port_checksum registers)
