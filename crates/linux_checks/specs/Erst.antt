-- Which instruction entries of an ERST Linux 6.12 refuses: apei_exec_for_each_entry of drivers/acpi/apei/apei-base.c, over the instructions
-- of erst_ins_type in drivers/acpi/apei/erst.c. One refused entry makes Linux refuse the table.
use Rattle.std.specs.Prelude.{ℕ, ◌==◌, ◌||◌, nat_lt, Bool, if◌then◌else◌, List, Option, Some, None}
use Rattle.base_model.specs.Bytes.{number_at}
use Rattle.linux_checks.specs.declared.reasons.Reason.TheVariants.{Instruction}
use Rattle.linux_checks.specs.declared.reasons.Refusal.{Refusal}
use Rattle.linux_checks.specs.Reasons.{refusal}
use Rattle.linux_checks.specs.Registers.{register_refusal}

-- NOOP, ADD, SUBTRACT, STALL and GOTO access no register (ACPI 6.4, section 18.5.1.2.2); each other one has APEI_EXEC_INS_ACCESS_REGISTER
abbrev pub has_no_register : (instruction : ℕ) → Bool
has_no_register instruction =
    instruction == 4 || (instruction == 8 || (instruction == 9 || (instruction == 12 || instruction == 15)))

abbrev pub refusal_by : (instruction : ℕ) → List ℕ → Option Refusal
refusal_by instruction entry =
    if nat_lt 18 instruction then Some (refusal 1 Instruction)
    else if has_no_register instruction then None
    else register_refusal entry 4

-- an entry of 32 bytes: its instruction is its second byte, and its register stands from byte 4 on
abbrev pub instruction_refusal : List ℕ → Option Refusal
instruction_refusal entry = refusal_by (number_at entry 1 1) entry
