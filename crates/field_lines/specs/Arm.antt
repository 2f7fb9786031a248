-- ARM processor errors (UEFI 2.8, N.2.4.4).
use Rattle.std.specs.Prelude.{ℕ, List, [], ◌∷◌, Some, None, codes}
use Rattle.field_lines.specs.Fields.{Field, bits, decimal_number, flags, hexadecimal, one_of, field, register_fields}
use Rattle.field_lines.specs.Layouts.{Structure, structure, Group, group, fixed, told, Inside, inside, number_sign}
use Rattle.field_lines.specs.Ia32.{transactions, participations}

-- the running states (UEFI 2.8, N.2.4.4)
abbrev pub running_states : List (ℕ × List ℕ)
running_states =
    (0, codes "running")
    ∷ []

-- the types of ARM errors, by bits (UEFI 2.8, N.2.4.4.1, as its errata have them)
abbrev pub arm_error_types : List (ℕ × List ℕ)
arm_error_types =
    (1, codes "cache error")
    ∷ (2, codes "TLB error")
    ∷ (3, codes "bus error")
    ∷ (4, codes "micro-architectural error")
    ∷ []

-- the flags of ARM errors (UEFI 2.8, N.2.4.4.1)
abbrev pub arm_error_flags : List (ℕ × List ℕ)
arm_error_flags =
    (0, codes "first error captured")
    ∷ (1, codes "last error captured")
    ∷ (2, codes "propagated")
    ∷ (3, codes "overflow")
    ∷ []

-- the operations of ARM cache errors (UEFI 2.8, N.2.4.4.1)
abbrev pub arm_operations : List (ℕ × List ℕ)
arm_operations =
    (0, codes "generic error")
    ∷ (1, codes "generic read")
    ∷ (2, codes "generic write")
    ∷ (3, codes "data read")
    ∷ (4, codes "data write")
    ∷ (5, codes "instruction fetch")
    ∷ (6, codes "prefetch")
    ∷ (7, codes "eviction")
    ∷ (8, codes "snooping")
    ∷ (9, codes "snooped")
    ∷ (10, codes "management")
    ∷ []

-- the operations of ARM TLB errors (UEFI 2.8, N.2.4.4.1)
abbrev pub arm_tlb_operations : List (ℕ × List ℕ)
arm_tlb_operations =
    (0, codes "generic error")
    ∷ (1, codes "generic read")
    ∷ (2, codes "generic write")
    ∷ (3, codes "data read")
    ∷ (4, codes "data write")
    ∷ (5, codes "instruction fetch")
    ∷ (6, codes "prefetch")
    ∷ (7, codes "local management")
    ∷ (8, codes "external management")
    ∷ []

-- the operations of ARM bus errors (UEFI 2.8, N.2.4.4.1)
abbrev pub arm_bus_operations : List (ℕ × List ℕ)
arm_bus_operations =
    (0, codes "generic error")
    ∷ (1, codes "generic read")
    ∷ (2, codes "generic write")
    ∷ (3, codes "data read")
    ∷ (4, codes "data write")
    ∷ (5, codes "instruction fetch")
    ∷ (6, codes "prefetch")
    ∷ []

-- the address spaces of ARM bus errors (UEFI 2.8, N.2.4.4.1)
abbrev pub arm_spaces : List (ℕ × List ℕ)
arm_spaces =
    (0, codes "external memory")
    ∷ (1, codes "internal memory")
    ∷ (3, codes "device memory")
    ∷ []

-- the access modes of ARM bus errors (UEFI 2.8, N.2.4.4.1)
abbrev pub access_modes : List (ℕ × List ℕ)
access_modes =
    (0, codes "secure")
    ∷ (1, codes "normal")
    ∷ []

-- the types of ARM register contexts (UEFI 2.8, N.2.4.4.2)
abbrev pub arm_context_types : List (ℕ × List ℕ)
arm_context_types =
    (0, codes "AArch32 general")
    ∷ (1, codes "AArch32 EL1")
    ∷ (2, codes "AArch32 EL2")
    ∷ (3, codes "AArch32 secure")
    ∷ (4, codes "AArch64 general")
    ∷ (5, codes "AArch64 EL1")
    ∷ (6, codes "AArch64 EL2")
    ∷ (7, codes "AArch64 EL3")
    ∷ (8, codes "system register")
    ∷ []

-- an ARM processor error (UEFI 2.8, N.2.4.4)
abbrev pub arm_processor_fields : List Field
arm_processor_fields =
    field 4 2 None (codes "ERR_INFO_NUM") decimal_number
    ∷ field 6 2 None (codes "CONTEXT_INFO_NUM") decimal_number
    ∷ field 8 4 None (codes "section length") decimal_number
    ∷ field 12 1 (Some 1) (codes "error affinity level") decimal_number
    ∷ field 16 8 (Some 0) (codes "MPIDR_EL1") hexadecimal
    ∷ field 24 8 None (codes "MIDR_EL1") hexadecimal
    ∷ field 32 4 (Some 2) (codes "running state") (flags running_states)
    ∷ field 36 4 (Some 2) (codes "PSCI state") hexadecimal
    ∷ []

-- a part of it: error information
abbrev pub arm_error_fields : List Field
arm_error_fields =
    field 0 1 None (codes "version") decimal_number
    ∷ field 1 1 None (codes "length") decimal_number
    ∷ field 4 1 None (codes "type") (flags arm_error_types)
    ∷ field 5 2 (Some 0) (codes "multiple error") decimal_number
    ∷ field 7 1 (Some 1) (codes "flags") (flags arm_error_flags)
    ∷ field 8 8 (Some 2) (codes "error information") hexadecimal
    ∷ field 16 8 (Some 3) (codes "virtual fault address") hexadecimal
    ∷ field 24 8 (Some 4) (codes "physical fault address") hexadecimal
    ∷ []

-- what stands inside: cache error
abbrev pub arm_cache_error_fields : List Field
arm_cache_error_fields =
    field 0 8 (Some 0) (codes "transaction type") (bits 16 2 transactions)
    ∷ field 0 8 (Some 1) (codes "operation") (bits 18 4 arm_operations)
    ∷ field 0 8 (Some 2) (codes "level") (bits 22 3 [])
    ∷ field 0 8 (Some 3) (codes "processor context corrupt") (bits 25 1 [])
    ∷ field 0 8 (Some 4) (codes "corrected") (bits 26 1 [])
    ∷ field 0 8 (Some 5) (codes "precise PC") (bits 27 1 [])
    ∷ field 0 8 (Some 6) (codes "restartable PC") (bits 28 1 [])
    ∷ []

-- what stands inside: TLB error
abbrev pub arm_tlb_error_fields : List Field
arm_tlb_error_fields =
    field 0 8 (Some 0) (codes "transaction type") (bits 16 2 transactions)
    ∷ field 0 8 (Some 1) (codes "operation") (bits 18 4 arm_tlb_operations)
    ∷ field 0 8 (Some 2) (codes "level") (bits 22 3 [])
    ∷ field 0 8 (Some 3) (codes "processor context corrupt") (bits 25 1 [])
    ∷ field 0 8 (Some 4) (codes "corrected") (bits 26 1 [])
    ∷ field 0 8 (Some 5) (codes "precise PC") (bits 27 1 [])
    ∷ field 0 8 (Some 6) (codes "restartable PC") (bits 28 1 [])
    ∷ []

-- what stands inside: bus error
abbrev pub arm_bus_error_fields : List Field
arm_bus_error_fields =
    field 0 8 (Some 0) (codes "transaction type") (bits 16 2 transactions)
    ∷ field 0 8 (Some 1) (codes "operation") (bits 18 4 arm_bus_operations)
    ∷ field 0 8 (Some 2) (codes "level") (bits 22 3 [])
    ∷ field 0 8 (Some 3) (codes "processor context corrupt") (bits 25 1 [])
    ∷ field 0 8 (Some 4) (codes "corrected") (bits 26 1 [])
    ∷ field 0 8 (Some 5) (codes "precise PC") (bits 27 1 [])
    ∷ field 0 8 (Some 6) (codes "restartable PC") (bits 28 1 [])
    ∷ field 0 8 (Some 7) (codes "participation type") (bits 29 2 participations)
    ∷ field 0 8 (Some 8) (codes "time out") (bits 31 1 [])
    ∷ field 0 8 (Some 9) (codes "address space") (bits 32 2 arm_spaces)
    ∷ field 0 8 (Some 10) (codes "memory access attributes") (bits 34 9 [])
    ∷ field 0 8 (Some 11) (codes "access mode") (bits 43 1 access_modes)
    ∷ []

-- a part of it: context
abbrev pub arm_context_fields : List Field
arm_context_fields =
    field 0 2 None (codes "version") decimal_number
    ∷ field 2 2 None (codes "register context type") (one_of arm_context_types)
    ∷ field 4 4 None (codes "register array size") decimal_number
    ∷ []

-- what stands inside: the general purpose registers of AArch32
abbrev pub aarch32_registers_fields : List Field
aarch32_registers_fields =
    register_fields 4 0
    (codes "R0"
    ∷ codes "R1"
    ∷ codes "R2"
    ∷ codes "R3"
    ∷ codes "R4"
    ∷ codes "R5"
    ∷ codes "R6"
    ∷ codes "R7"
    ∷ codes "R8"
    ∷ codes "R9"
    ∷ codes "R10"
    ∷ codes "R11"
    ∷ codes "R12"
    ∷ codes "R13"
    ∷ codes "R14"
    ∷ codes "R15"
    ∷ [])

-- what stands inside: the EL1 registers of AArch32
abbrev pub aarch32_el1_fields : List Field
aarch32_el1_fields =
    register_fields 4 0
    (codes "DFAR"
    ∷ codes "DFSR"
    ∷ codes "IFAR"
    ∷ codes "ISR"
    ∷ codes "MAIR0"
    ∷ codes "MAIR1"
    ∷ codes "MIDR"
    ∷ codes "MPIDR"
    ∷ codes "NMRR"
    ∷ codes "PRRR"
    ∷ codes "SCTLR_NS"
    ∷ codes "SPSR"
    ∷ codes "SPSR_abt"
    ∷ codes "SPSR_fiq"
    ∷ codes "SPSR_irq"
    ∷ codes "SPSR_svc"
    ∷ codes "SPSR_und"
    ∷ codes "TPIDRPRW"
    ∷ codes "TPIDRURO"
    ∷ codes "TPIDRURW"
    ∷ codes "TTBCR"
    ∷ codes "TTBR0"
    ∷ codes "TTBR1"
    ∷ codes "DACR"
    ∷ [])

-- what stands inside: the EL2 registers of AArch32
abbrev pub aarch32_el2_fields : List Field
aarch32_el2_fields =
    register_fields 4 0
    (codes "ELR_hyp"
    ∷ codes "HAMAIR0"
    ∷ codes "HAMAIR1"
    ∷ codes "HCR"
    ∷ codes "HCR2"
    ∷ codes "HDFAR"
    ∷ codes "HIFAR"
    ∷ codes "HPFAR"
    ∷ codes "HSR"
    ∷ codes "HTCR"
    ∷ codes "HTPIDR"
    ∷ codes "HTTBR"
    ∷ codes "SPSR_hyp"
    ∷ codes "VTCR"
    ∷ codes "VTTBR"
    ∷ codes "DACR32_EL2"
    ∷ [])

-- what stands inside: the secure registers of AArch32
abbrev pub aarch32_secure_fields : List Field
aarch32_secure_fields =
    register_fields 4 0
    (codes "SCTLR_S"
    ∷ codes "SPSR_mon"
    ∷ [])

-- what stands inside: the general purpose registers of AArch64
abbrev pub aarch64_registers_fields : List Field
aarch64_registers_fields =
    register_fields 8 0
    (codes "X0"
    ∷ codes "X1"
    ∷ codes "X2"
    ∷ codes "X3"
    ∷ codes "X4"
    ∷ codes "X5"
    ∷ codes "X6"
    ∷ codes "X7"
    ∷ codes "X8"
    ∷ codes "X9"
    ∷ codes "X10"
    ∷ codes "X11"
    ∷ codes "X12"
    ∷ codes "X13"
    ∷ codes "X14"
    ∷ codes "X15"
    ∷ codes "X16"
    ∷ codes "X17"
    ∷ codes "X18"
    ∷ codes "X19"
    ∷ codes "X20"
    ∷ codes "X21"
    ∷ codes "X22"
    ∷ codes "X23"
    ∷ codes "X24"
    ∷ codes "X25"
    ∷ codes "X26"
    ∷ codes "X27"
    ∷ codes "X28"
    ∷ codes "X29"
    ∷ codes "X30"
    ∷ codes "SP"
    ∷ [])

-- what stands inside: the EL1 registers of AArch64
abbrev pub aarch64_el1_fields : List Field
aarch64_el1_fields =
    register_fields 8 0
    (codes "ELR_EL1"
    ∷ codes "ESR_EL1"
    ∷ codes "FAR_EL1"
    ∷ codes "ISR_EL1"
    ∷ codes "MAIR_EL1"
    ∷ codes "MIDR_EL1"
    ∷ codes "MPIDR_EL1"
    ∷ codes "SCTLR_EL1"
    ∷ codes "SP_EL0"
    ∷ codes "SP_EL1"
    ∷ codes "SPSR_EL1"
    ∷ codes "TCR_EL1"
    ∷ codes "TPIDR_EL0"
    ∷ codes "TPIDR_EL1"
    ∷ codes "TPIDRRO_EL0"
    ∷ codes "TTBR0_EL1"
    ∷ codes "TTBR1_EL1"
    ∷ [])

-- what stands inside: the EL2 registers of AArch64
abbrev pub aarch64_el2_fields : List Field
aarch64_el2_fields =
    register_fields 8 0
    (codes "ELR_EL2"
    ∷ codes "ESR_EL2"
    ∷ codes "FAR_EL2"
    ∷ codes "HACR_EL2"
    ∷ codes "HCR_EL2"
    ∷ codes "HPFAR_EL2"
    ∷ codes "MAIR_EL2"
    ∷ codes "SCTLR_EL2"
    ∷ codes "SP_EL2"
    ∷ codes "SPSR_EL2"
    ∷ codes "TCR_EL2"
    ∷ codes "TPIDR_EL2"
    ∷ codes "TTBR0_EL2"
    ∷ codes "VTCR_EL2"
    ∷ codes "VTTBR_EL2"
    ∷ [])

-- what stands inside: the EL3 registers of AArch64
abbrev pub aarch64_el3_fields : List Field
aarch64_el3_fields =
    register_fields 8 0
    (codes "ELR_EL3"
    ∷ codes "ESR_EL3"
    ∷ codes "FAR_EL3"
    ∷ codes "MAIR_EL3"
    ∷ codes "SCTLR_EL3"
    ∷ codes "SP_EL3"
    ∷ codes "SPSR_EL3"
    ∷ codes "TCR_EL3"
    ∷ codes "TPIDR_EL3"
    ∷ codes "TTBR0_EL3"
    ∷ [])

abbrev pub arm_error_inside : List Inside
arm_error_inside =
    inside (codes "cache error") (Some 2) (number_sign 4 1 2) 8 arm_cache_error_fields
    ∷ inside (codes "TLB error") (Some 2) (number_sign 4 1 4) 8 arm_tlb_error_fields
    ∷ inside (codes "bus error") (Some 2) (number_sign 4 1 8) 8 arm_bus_error_fields
    ∷ []

abbrev pub arm_context_inside : List Inside
arm_context_inside =
    inside (codes "registers") None (number_sign 2 2 0) 8 aarch32_registers_fields
    ∷ inside (codes "registers") None (number_sign 2 2 1) 8 aarch32_el1_fields
    ∷ inside (codes "registers") None (number_sign 2 2 2) 8 aarch32_el2_fields
    ∷ inside (codes "registers") None (number_sign 2 2 3) 8 aarch32_secure_fields
    ∷ inside (codes "registers") None (number_sign 2 2 4) 8 aarch64_registers_fields
    ∷ inside (codes "registers") None (number_sign 2 2 5) 8 aarch64_el1_fields
    ∷ inside (codes "registers") None (number_sign 2 2 6) 8 aarch64_el2_fields
    ∷ inside (codes "registers") None (number_sign 2 2 7) 8 aarch64_el3_fields
    ∷ []

abbrev pub arm_processor_groups : List Group
arm_processor_groups =
    group (codes "error information") 4 2 0 16 (fixed 32) 2 arm_error_fields arm_error_inside
    ∷ group (codes "context") 6 2 0 16 (told 4 4 8) 0 arm_context_fields arm_context_inside
    ∷ []

unfoldable pub arm_processor : Structure
arm_processor = structure 0 arm_processor_fields 40 arm_processor_groups
