-- IA-32 and x64 processor errors (UEFI 2.8, N.2.4.2).
use Rattle.std.specs.Prelude.{ℕ, List, [], ◌∷◌, Some, None, codes}
use Rattle.field_lines.specs.Fields.{Field, bits, decimal_number, digits_of_bytes, guid, hexadecimal, one_of, field}
use Rattle.field_lines.specs.Layouts.{Structure, structure, Group, group, fixed, told, Inside, inside, guid_sign, number_sign}

-- the transaction types of a check (UEFI 2.8, N.2.4.2.1)
abbrev pub transactions : List (ℕ × List ℕ)
transactions =
    (0, codes "instruction")
    ∷ (1, codes "data access")
    ∷ (2, codes "generic")
    ∷ []

-- the operations of a check (UEFI 2.8, N.2.4.2.1)
abbrev pub check_operations : List (ℕ × List ℕ)
check_operations =
    (0, codes "generic error")
    ∷ (1, codes "generic read")
    ∷ (2, codes "generic write")
    ∷ (3, codes "data read")
    ∷ (4, codes "data write")
    ∷ (5, codes "instruction fetch")
    ∷ (6, codes "prefetch")
    ∷ (7, codes "eviction")
    ∷ (8, codes "snoop")
    ∷ []

-- the participation types (UEFI 2.8, N.2.4.2.1)
abbrev pub participations : List (ℕ × List ℕ)
participations =
    (0, codes "local originator")
    ∷ (1, codes "local responder")
    ∷ (2, codes "local observer")
    ∷ (3, codes "generic")
    ∷ []

-- the address spaces of a bus check (UEFI 2.8, N.2.4.2.1)
abbrev pub bus_spaces : List (ℕ × List ℕ)
bus_spaces =
    (0, codes "memory access")
    ∷ (2, codes "I/O")
    ∷ (3, codes "other transaction")
    ∷ []

-- the error types of an MS check (UEFI 2.8, N.2.4.2.1)
abbrev pub ms_errors : List (ℕ × List ℕ)
ms_errors =
    (0, codes "no error")
    ∷ (1, codes "unclassified")
    ∷ (2, codes "microcode ROM parity error")
    ∷ (3, codes "external error")
    ∷ (4, codes "FRC error")
    ∷ (5, codes "internal unclassified")
    ∷ []

-- the types of register contexts (UEFI 2.8, N.2.4.2.2)
abbrev pub context_types : List (ℕ × List ℕ)
context_types =
    (0, codes "unclassified data")
    ∷ (1, codes "MSR registers")
    ∷ (2, codes "32-bit mode execution context")
    ∷ (3, codes "64-bit mode execution context")
    ∷ (4, codes "FXSAVE context")
    ∷ (5, codes "32-bit mode debug registers")
    ∷ (6, codes "64-bit mode debug registers")
    ∷ (7, codes "memory mapped registers")
    ∷ []

-- an IA-32 or x64 processor error (UEFI 2.8, N.2.4.2)
abbrev pub ia32_processor_fields : List Field
ia32_processor_fields =
    field 8 8 (Some 0) (codes "local APIC ID") hexadecimal
    ∷ field 16 48 (Some 1) (codes "CPUID info") digits_of_bytes
    ∷ []

-- a part of it: error information
abbrev pub ia32_error_fields : List Field
ia32_error_fields =
    field 0 16 None (codes "error structure type") guid
    ∷ field 24 8 (Some 0) (codes "check information") hexadecimal
    ∷ field 32 8 (Some 1) (codes "target identifier") hexadecimal
    ∷ field 40 8 (Some 2) (codes "requestor identifier") hexadecimal
    ∷ field 48 8 (Some 3) (codes "responder identifier") hexadecimal
    ∷ field 56 8 (Some 4) (codes "instruction pointer") hexadecimal
    ∷ []

-- what stands inside: cache check
abbrev pub check_fields : List Field
check_fields =
    field 0 8 (Some 0) (codes "transaction type") (bits 16 2 transactions)
    ∷ field 0 8 (Some 1) (codes "operation") (bits 18 4 check_operations)
    ∷ field 0 8 (Some 2) (codes "level") (bits 22 3 [])
    ∷ field 0 8 (Some 3) (codes "processor context corrupt") (bits 25 1 [])
    ∷ field 0 8 (Some 4) (codes "uncorrected") (bits 26 1 [])
    ∷ field 0 8 (Some 5) (codes "precise IP") (bits 27 1 [])
    ∷ field 0 8 (Some 6) (codes "restartable IP") (bits 28 1 [])
    ∷ field 0 8 (Some 7) (codes "overflow") (bits 29 1 [])
    ∷ []

-- what stands inside: bus check
abbrev pub bus_check_fields : List Field
bus_check_fields =
    field 0 8 (Some 0) (codes "transaction type") (bits 16 2 transactions)
    ∷ field 0 8 (Some 1) (codes "operation") (bits 18 4 check_operations)
    ∷ field 0 8 (Some 2) (codes "level") (bits 22 3 [])
    ∷ field 0 8 (Some 3) (codes "processor context corrupt") (bits 25 1 [])
    ∷ field 0 8 (Some 4) (codes "uncorrected") (bits 26 1 [])
    ∷ field 0 8 (Some 5) (codes "precise IP") (bits 27 1 [])
    ∷ field 0 8 (Some 6) (codes "restartable IP") (bits 28 1 [])
    ∷ field 0 8 (Some 7) (codes "overflow") (bits 29 1 [])
    ∷ field 0 8 (Some 8) (codes "participation type") (bits 30 2 participations)
    ∷ field 0 8 (Some 9) (codes "time out") (bits 32 1 [])
    ∷ field 0 8 (Some 10) (codes "address space") (bits 33 2 bus_spaces)
    ∷ []

-- what stands inside: MS check
abbrev pub ms_check_fields : List Field
ms_check_fields =
    field 0 8 (Some 0) (codes "error type") (bits 16 3 ms_errors)
    ∷ field 0 8 (Some 1) (codes "processor context corrupt") (bits 19 1 [])
    ∷ field 0 8 (Some 2) (codes "uncorrected") (bits 20 1 [])
    ∷ field 0 8 (Some 3) (codes "precise IP") (bits 21 1 [])
    ∷ field 0 8 (Some 4) (codes "restartable IP") (bits 22 1 [])
    ∷ field 0 8 (Some 5) (codes "overflow") (bits 23 1 [])
    ∷ []

-- a part of it: context
abbrev pub ia32_context_fields : List Field
ia32_context_fields =
    field 0 2 None (codes "register context type") (one_of context_types)
    ∷ field 2 2 None (codes "register array size") decimal_number
    ∷ field 4 4 None (codes "MSR address") hexadecimal
    ∷ field 8 8 None (codes "MM register address") hexadecimal
    ∷ []

-- what stands inside: the registers of an IA-32 context
abbrev pub ia32_registers_fields : List Field
ia32_registers_fields =
    field 0 4 None (codes "EAX") hexadecimal
    ∷ field 4 4 None (codes "EBX") hexadecimal
    ∷ field 8 4 None (codes "ECX") hexadecimal
    ∷ field 12 4 None (codes "EDX") hexadecimal
    ∷ field 16 4 None (codes "ESI") hexadecimal
    ∷ field 20 4 None (codes "EDI") hexadecimal
    ∷ field 24 4 None (codes "EBP") hexadecimal
    ∷ field 28 4 None (codes "ESP") hexadecimal
    ∷ field 32 2 None (codes "CS") hexadecimal
    ∷ field 34 2 None (codes "DS") hexadecimal
    ∷ field 36 2 None (codes "SS") hexadecimal
    ∷ field 38 2 None (codes "ES") hexadecimal
    ∷ field 40 2 None (codes "FS") hexadecimal
    ∷ field 42 2 None (codes "GS") hexadecimal
    ∷ field 44 4 None (codes "EFLAGS") hexadecimal
    ∷ field 48 4 None (codes "EIP") hexadecimal
    ∷ field 52 4 None (codes "CR0") hexadecimal
    ∷ field 56 4 None (codes "CR1") hexadecimal
    ∷ field 60 4 None (codes "CR2") hexadecimal
    ∷ field 64 4 None (codes "CR3") hexadecimal
    ∷ field 68 4 None (codes "CR4") hexadecimal
    ∷ field 72 8 None (codes "GDTR") hexadecimal
    ∷ field 80 8 None (codes "IDTR") hexadecimal
    ∷ field 88 2 None (codes "LDTR") hexadecimal
    ∷ field 90 2 None (codes "TR") hexadecimal
    ∷ []

-- what stands inside: the registers of an x64 context
abbrev pub x64_registers_fields : List Field
x64_registers_fields =
    field 0 8 None (codes "RAX") hexadecimal
    ∷ field 8 8 None (codes "RBX") hexadecimal
    ∷ field 16 8 None (codes "RCX") hexadecimal
    ∷ field 24 8 None (codes "RDX") hexadecimal
    ∷ field 32 8 None (codes "RSI") hexadecimal
    ∷ field 40 8 None (codes "RDI") hexadecimal
    ∷ field 48 8 None (codes "RBP") hexadecimal
    ∷ field 56 8 None (codes "RSP") hexadecimal
    ∷ field 64 8 None (codes "R8") hexadecimal
    ∷ field 72 8 None (codes "R9") hexadecimal
    ∷ field 80 8 None (codes "R10") hexadecimal
    ∷ field 88 8 None (codes "R11") hexadecimal
    ∷ field 96 8 None (codes "R12") hexadecimal
    ∷ field 104 8 None (codes "R13") hexadecimal
    ∷ field 112 8 None (codes "R14") hexadecimal
    ∷ field 120 8 None (codes "R15") hexadecimal
    ∷ field 128 2 None (codes "CS") hexadecimal
    ∷ field 130 2 None (codes "DS") hexadecimal
    ∷ field 132 2 None (codes "SS") hexadecimal
    ∷ field 134 2 None (codes "ES") hexadecimal
    ∷ field 136 2 None (codes "FS") hexadecimal
    ∷ field 138 2 None (codes "GS") hexadecimal
    ∷ field 144 8 None (codes "RFLAGS") hexadecimal
    ∷ field 152 8 None (codes "EIP") hexadecimal
    ∷ field 160 8 None (codes "CR0") hexadecimal
    ∷ field 168 8 None (codes "CR1") hexadecimal
    ∷ field 176 8 None (codes "CR2") hexadecimal
    ∷ field 184 8 None (codes "CR3") hexadecimal
    ∷ field 192 8 None (codes "CR4") hexadecimal
    ∷ field 200 8 None (codes "CR8") hexadecimal
    ∷ field 208 16 None (codes "GDTR") hexadecimal
    ∷ field 224 16 None (codes "IDTR") hexadecimal
    ∷ field 240 2 None (codes "LDTR") hexadecimal
    ∷ field 242 2 None (codes "TR") hexadecimal
    ∷ []

abbrev pub ia32_error_inside : List Inside
ia32_error_inside =
    inside (codes "cache check") (Some 0) (guid_sign 0 (codes "a55701f5-e3ef-43de-ac72-249b573fad2c")) 24 check_fields
    ∷ inside (codes "TLB check") (Some 0) (guid_sign 0 (codes "fc06b535-5e1f-4562-9f25-0a3b9adb63c3")) 24 check_fields
    ∷ inside (codes "bus check") (Some 0) (guid_sign 0 (codes "1cf3f8b3-c5b1-49a2-aa59-5eef92ffa63c")) 24 bus_check_fields
    ∷ inside (codes "MS check") (Some 0) (guid_sign 0 (codes "48ab7f57-dc34-4f6c-a7d3-b0b5b0a74314")) 24 ms_check_fields
    ∷ []

abbrev pub ia32_context_inside : List Inside
ia32_context_inside =
    inside (codes "registers") None (number_sign 0 2 2) 16 ia32_registers_fields
    ∷ inside (codes "registers") None (number_sign 0 2 3) 16 x64_registers_fields
    ∷ []

abbrev pub ia32_processor_groups : List Group
ia32_processor_groups =
    group (codes "error information") 0 8 2 6 (fixed 64) 16 ia32_error_fields ia32_error_inside
    ∷ group (codes "context") 0 8 8 6 (told 2 2 16) 0 ia32_context_fields ia32_context_inside
    ∷ []

unfoldable pub ia32_processor : Structure
ia32_processor = structure 0 ia32_processor_fields 64 ia32_processor_groups
