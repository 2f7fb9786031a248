-- Which error sources of a HEST Linux 6.12 refuses: ghes_probe, ghes_new and ghes_add_timer of drivers/acpi/apei/ghes.c. Only generic
-- sources have a driver there, types 9 and 10 (ACPI 6.4, sections 18.3.2.7 and 18.3.2.8); of one that is not enabled nothing is asked.
use Rattle.std.specs.Prelude.{ℕ, ◌==◌, ◌&&◌, ◌||◌, nat_lt, Bool, if◌then◌else◌, List, length, Option, Some, None}
use Rattle.base_model.specs.Bytes.{number_at}
use Rattle.linux_checks.specs.declared.reasons.Reason.TheVariants.{NeverPolled, Notification, ShortBlock}
use Rattle.linux_checks.specs.declared.reasons.Refusal.{Refusal}
use Rattle.linux_checks.specs.Reasons.{refusal}
use Rattle.linux_checks.specs.Registers.{register_refusal}

-- the bytes of a generic source, and of one of version 2
abbrev pub size_by : (kind : ℕ) → ℕ
size_by kind = if kind == 9 then 64 else 92

abbrev pub is_generic : (kind : ℕ) → Bool
is_generic kind = kind == 9 || kind == 10

-- the notifications that Linux takes: polled, external interrupt, SCI, NMI, GPIO signal, SEA, GSIV and software delegated exception
abbrev pub is_taken : (notification : ℕ) → Bool
is_taken notification =
    nat_lt notification 2
    || (notification == 3 || (notification == 4 || (notification == 7 || (notification == 8 || (notification == 10 || notification == 11)))))

-- the first of two refusals
abbrev pub first_of : Option Refusal → Option Refusal → Option Refusal
first_of (Some refused) other = Some refused
first_of None other = other

-- the register that acknowledges a block, which only version 2 has
abbrev pub ack_refusal : (kind : ℕ) → List ℕ → Option Refusal
ack_refusal kind source = if kind == 10 then register_refusal source 64 else None

-- a polled source is polled never where its interval is 0
abbrev pub poll_refusal : List ℕ → Option Refusal
poll_refusal source =
    if (number_at source 32 1 == 0) && (number_at source 36 4 == 0) then Some (refusal 36 NeverPolled) else None

abbrev pub enabled_refusal : (kind : ℕ) → List ℕ → Option Refusal
enabled_refusal kind source =
    if is_taken (number_at source 32 1)
    then if nat_lt (number_at source 60 4) 20 then Some (refusal 60 ShortBlock)
    else first_of (ack_refusal kind source) (first_of (register_refusal source 20) (poll_refusal source))
    else Some (refusal 32 Notification)

abbrev pub generic_refusal : (kind : ℕ) → List ℕ → Option Refusal
generic_refusal kind source = if number_at source 7 1 == 0 then None else enabled_refusal kind source

-- one that is cut off has a fault of its own
abbrev pub source_refusal : (kind : ℕ) → List ℕ → Option Refusal
source_refusal kind source =
    if is_generic kind then if nat_lt (length source) (size_by kind) then None else generic_refusal kind source
    else None
