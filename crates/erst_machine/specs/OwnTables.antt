-- The machine's own tables (ACPI 6.4, sections 18.5.1, 18.3.2 and 18.3.1).
use Rattle.std.specs.Prelude.{ℕ, ◌+◌, ◌-◌, ◌*◌, ◌^◌, List, [], ◌∷◌, ◌++◌, length, codes, Some, replicate}
use Rattle.base_model.specs.Bytes.{spelled}
use Rattle.apei_tables.specs.declared.structure.Gas.{Gas}
use Rattle.apei_tables.specs.declared.headers.Header.{Header}
use Rattle.apei_tables.specs.Layout.{spelling as header_spelling}
use Rattle.erst_entries.specs.declared.actions.Action.{Action}
use Rattle.erst_entries.specs.declared.actions.Action.TheVariants.{BeginWriteOperation, BeginReadOperation, BeginClearOperation, EndOperation, SetRecordOffset}
use Rattle.erst_entries.specs.declared.actions.Action.TheVariants.{ExecuteOperation, CheckBusyStatus, GetCommandStatus, GetRecordIdentifier}
use Rattle.erst_entries.specs.declared.actions.Action.TheVariants.{SetRecordIdentifier, GetRecordCount, BeginDummyWriteOperation, GetErrorLogAddressRange}
use Rattle.erst_entries.specs.declared.actions.Action.TheVariants.{GetErrorLogAddressRangeLength, GetErrorLogAddressRangeAttributes, GetExecuteOperationTimings}
use Rattle.erst_entries.specs.declared.entries.Entry.{Entry}
use Rattle.erst_entries.specs.Actions.{code_of, plain_entry}
use Rattle.erst_entries.specs.Layout.{Erst}
use Rattle.hest_sources.specs.declared.sources.Ghes.{Ghes}
use Rattle.hest_sources.specs.Layout.{ghes_bytes}
use Rattle.ghes_block.specs.declared.table.Bert.{Bert}
use Rattle.erst_machine.specs.declared.areas.Area.TheVariants.{Device, Handover, BootErrors}
use Rattle.erst_machine.specs.Areas.{base_of, region_len}

abbrev pub own_header : List ℕ → ℕ → ℕ → Header
own_header signature size checksum = record {
  signature = signature;
  length = size;
  revision = 1;
  checksum = checksum;
  oem_id = codes "APEIPR";
  oem_table_id = codes "APEISIM ";
  oem_revision = 1;
  creator_id = codes "APEI";
  creator_revision = 1;
}

-- a register of so many bits, all of it one field, in memory
abbrev pub register_of : ℕ → ℕ → ℕ → Gas
register_of width access address = record { space = 0; width = width; offset = 0; access = access; address = address }

-- VALUE
abbrev pub value_register : Gas
value_register = register_of 64 4 (base_of Device + 8)

-- WRITE_REGISTER_VALUE: the action's code goes to ACTION
abbrev pub act : Action → Entry
act action = plain_entry action 0x3 (register_of 32 3 (base_of Device)) (code_of action) (2 ^ 32 - 1)

-- WRITE_REGISTER: the given value goes to VALUE
abbrev pub give : Action → Entry
give action = plain_entry action 0x2 value_register 0 (2 ^ 64 - 1)

-- READ_REGISTER_VALUE: whether VALUE is 1
abbrev pub is_one : Action → Entry
is_one action = plain_entry action 0x1 value_register 1 (2 ^ 64 - 1)

-- READ_REGISTER: VALUE under a mask
abbrev pub answer : Action → ℕ → Entry
answer action mask = plain_entry action 0x0 value_register 0 mask

-- the entries of actions that leave a number of 64 bits in VALUE, two of each
abbrev pub tell : List Action → List Entry
tell [] = []
tell (action ∷ rest) = act action ∷ answer action (2 ^ 64 - 1) ∷ tell rest

-- the actions of each of the machine's tables that only tell a number, but for the three of the log range
abbrev pub told_actions : List Action
told_actions = GetExecuteOperationTimings ∷ []

-- in the order of the actions
unfoldable pub own_entries : List Entry
own_entries =
    act BeginWriteOperation ∷ act BeginReadOperation ∷ act BeginClearOperation ∷ act EndOperation
    ∷ give SetRecordOffset ∷ act SetRecordOffset
    ∷ act ExecuteOperation
    ∷ act CheckBusyStatus ∷ is_one CheckBusyStatus
    ∷ act GetCommandStatus ∷ answer GetCommandStatus 0xFF
    ∷ act GetRecordIdentifier ∷ answer GetRecordIdentifier (2 ^ 64 - 1)
    ∷ give SetRecordIdentifier ∷ act SetRecordIdentifier
    ∷ act GetRecordCount ∷ answer GetRecordCount (2 ^ 32 - 1)
    ∷ act BeginDummyWriteOperation
    ∷ tell (GetErrorLogAddressRange ∷ GetErrorLogAddressRangeLength ∷ GetErrorLogAddressRangeAttributes ∷ told_actions)

abbrev pub own_size : ℕ
own_size = 48 + 32 * (24 + length (tell told_actions))

abbrev pub own_erst : Erst
own_erst = record {
  header = own_header (codes "ERST") own_size 0x83;
  header_size = 48;
  reserved = 0;
  count = 24 + length (tell told_actions);
  entries = own_entries;
}

-- the one error source: the handover's, with a read acknowledgement, polled every second
abbrev pub own_source : Ghes
own_source = record {
  id = 1;
  related = 0xFFFF;
  flags = 0;
  enabled = 1;
  records = 1;
  sections = 4;
  raw = 4096;
  status = register_of 64 4 (base_of Handover);
  notify = 0 ∷ 0x1C ∷ 0 ∷ 0 ∷ 0xE8 ∷ 3 ∷ 0 ∷ 0 ∷ replicate 20 0;
  block_len = 4096;
  ack = Some (record { register = register_of 64 4 (base_of Handover + 8); preserve = 2 ^ 64 - 2; write = 1 });
}

-- 132 bytes
unfoldable pub own_hest : List ℕ
own_hest = header_spelling (own_header (codes "HEST") 132 0x1E) ++ spelled 4 1 ++ ghes_bytes own_source

abbrev pub own_bert : Bert
own_bert = record { len = region_len; region = base_of BootErrors }

-- 48 bytes
unfoldable pub own_bert_bytes : List ℕ
own_bert_bytes = header_spelling (own_header (codes "BERT") 48 0x18) ++ spelled 4 own_bert.len ++ spelled 8 own_bert.region
