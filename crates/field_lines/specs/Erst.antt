-- The Error Record Serialization Table (ACPI 6.4, 18.5.1).
use Rattle.std.specs.Prelude.{ℕ, List, [], ◌∷◌, None, codes}
use Rattle.field_lines.specs.Fields.{Field, decimal_number, flags, hexadecimal, one_of, register, field}
use Rattle.field_lines.specs.Layouts.{Structure, structure}

-- the serialization actions (ACPI 6.4, 18.5.1.1)
abbrev pub actions : List (ℕ × List ℕ)
actions =
    (0, codes "BEGIN_WRITE_OPERATION")
    ∷ (1, codes "BEGIN_READ_OPERATION")
    ∷ (2, codes "BEGIN_CLEAR_OPERATION")
    ∷ (3, codes "END_OPERATION")
    ∷ (4, codes "SET_RECORD_OFFSET")
    ∷ (5, codes "EXECUTE_OPERATION")
    ∷ (6, codes "CHECK_BUSY_STATUS")
    ∷ (7, codes "GET_COMMAND_STATUS")
    ∷ (8, codes "GET_RECORD_IDENTIFIER")
    ∷ (9, codes "SET_RECORD_IDENTIFIER")
    ∷ (10, codes "GET_RECORD_COUNT")
    ∷ (11, codes "BEGIN_DUMMY_WRITE_OPERATION")
    ∷ (13, codes "GET_ERROR_LOG_ADDRESS_RANGE")
    ∷ (14, codes "GET_ERROR_LOG_ADDRESS_RANGE_LENGTH")
    ∷ (15, codes "GET_ERROR_LOG_ADDRESS_RANGE_ATTRIBUTES")
    ∷ (16, codes "GET_EXECUTE_OPERATION_TIMINGS")
    ∷ []

-- the serialization instructions (ACPI 6.4, 18.5.1.2)
abbrev pub instructions : List (ℕ × List ℕ)
instructions =
    (0, codes "READ_REGISTER")
    ∷ (1, codes "READ_REGISTER_VALUE")
    ∷ (2, codes "WRITE_REGISTER")
    ∷ (3, codes "WRITE_REGISTER_VALUE")
    ∷ (4, codes "NOOP")
    ∷ (5, codes "LOAD_VAR1")
    ∷ (6, codes "LOAD_VAR2")
    ∷ (7, codes "STORE_VAR1")
    ∷ (8, codes "ADD")
    ∷ (9, codes "SUBTRACT")
    ∷ (10, codes "ADD_VALUE")
    ∷ (11, codes "SUBTRACT_VALUE")
    ∷ (12, codes "STALL")
    ∷ (13, codes "STALL_WHILE_TRUE")
    ∷ (14, codes "SKIP_NEXT_INSTRUCTION_IF_TRUE")
    ∷ (15, codes "GOTO")
    ∷ (16, codes "SET_SRC_ADDRESS_BASE")
    ∷ (17, codes "SET_DST_ADDRESS_BASE")
    ∷ (18, codes "MOVE_DATA")
    ∷ []

-- the flags of instruction entries (ACPI 6.4, 18.5.1.2)
abbrev pub instruction_flags : List (ℕ × List ℕ)
instruction_flags =
    (0, codes "preserve register")
    ∷ []

-- what stands behind the header of an ERST (ACPI 6.4, 18.5.1)
abbrev pub erst_header_fields : List Field
erst_header_fields =
    field 36 4 None (codes "serialization header size") decimal_number
    ∷ field 44 4 None (codes "instruction entry count") decimal_number
    ∷ []

abbrev pub erst_header : Structure
erst_header = structure 0 erst_header_fields 0 []

-- a serialization instruction entry (ACPI 6.4, 18.5.1.2)
abbrev pub erst_entry_fields : List Field
erst_entry_fields =
    field 0 1 None (codes "serialization action") (one_of actions)
    ∷ field 1 1 None (codes "instruction") (one_of instructions)
    ∷ field 2 1 None (codes "flags") (flags instruction_flags)
    ∷ field 4 12 None (codes "register region") register
    ∷ field 16 8 None (codes "value") hexadecimal
    ∷ field 24 8 None (codes "mask") hexadecimal
    ∷ []

abbrev pub erst_entry : Structure
erst_entry = structure 0 erst_entry_fields 0 []
