-- Linux's own sections: a machine check, `struct mce` of its arch/x86/include/uapi/asm/mce.h, and messages.
use Rattle.std.specs.Prelude.{ℕ, List, [], ◌∷◌, None, codes}
use Rattle.field_lines.specs.Fields.{Field, all_lines, decimal_number, hexadecimal, one_of, field, seconds}
use Rattle.field_lines.specs.Layouts.{Structure, structure}

-- the processor vendors as Linux numbers them
abbrev pub vendors : List (ℕ × List ℕ)
vendors =
    (0, codes "Intel")
    ∷ (1, codes "Cyrix")
    ∷ (2, codes "AMD")
    ∷ (3, codes "UMC")
    ∷ (5, codes "Centaur")
    ∷ (7, codes "Transmeta")
    ∷ (8, codes "NSC")
    ∷ (9, codes "Hygon")
    ∷ (10, codes "Zhaoxin")
    ∷ (11, codes "Vortex")
    ∷ []

-- Linux's machine check
abbrev pub linux_machine_check_fields : List Field
linux_machine_check_fields =
    field 0 8 None (codes "status") hexadecimal
    ∷ field 8 8 None (codes "misc") hexadecimal
    ∷ field 16 8 None (codes "addr") hexadecimal
    ∷ field 24 8 None (codes "mcgstatus") hexadecimal
    ∷ field 32 8 None (codes "ip") hexadecimal
    ∷ field 40 8 None (codes "tsc") hexadecimal
    ∷ field 48 8 None (codes "time") seconds
    ∷ field 56 1 None (codes "cpuvendor") (one_of vendors)
    ∷ field 57 1 None (codes "inject flags") hexadecimal
    ∷ field 58 1 None (codes "severity") decimal_number
    ∷ field 60 4 None (codes "cpuid") hexadecimal
    ∷ field 64 1 None (codes "cs") hexadecimal
    ∷ field 65 1 None (codes "bank") decimal_number
    ∷ field 66 1 None (codes "cpu") decimal_number
    ∷ field 67 1 None (codes "finished") decimal_number
    ∷ field 68 4 None (codes "extcpu") decimal_number
    ∷ field 72 4 None (codes "socketid") decimal_number
    ∷ field 76 4 None (codes "apicid") decimal_number
    ∷ field 80 8 None (codes "mcgcap") hexadecimal
    ∷ field 88 8 None (codes "synd") hexadecimal
    ∷ field 96 8 None (codes "ipid") hexadecimal
    ∷ field 104 8 None (codes "ppin") hexadecimal
    ∷ field 112 4 None (codes "microcode") hexadecimal
    ∷ field 120 8 None (codes "kflags") hexadecimal
    ∷ []

unfoldable pub linux_machine_check : Structure
linux_machine_check = structure 0 linux_machine_check_fields 0 []

-- Linux's messages
abbrev pub linux_dmesg_fields : List Field
linux_dmesg_fields =
    field 0 1 None (codes "text") all_lines
    ∷ []

unfoldable pub linux_dmesg : Structure
linux_dmesg = structure 0 linux_dmesg_fields 0 []
