-- Which boot error regions Linux 6.12 refuses: bert_check_table and bert_init of drivers/acpi/apei/bert.c.
use Rattle.std.specs.Prelude.{ℕ, nat_lt, if◌then◌else◌, List, length, Option, Some, None}
use Rattle.base_model.specs.Bytes.{number_at}
use Rattle.linux_checks.specs.declared.reasons.Reason.TheVariants.{ShortRegion, TooHigh}
use Rattle.linux_checks.specs.declared.reasons.Refusal.{Refusal}
use Rattle.linux_checks.specs.Reasons.{refusal}
use Rattle.linux_checks.specs.Registers.{is_too_high}

-- the length of the region stands at byte 36 of its table, and its address at byte 40 (ACPI 6.4, section 18.3.1)
abbrev pub region_refusal : List ℕ → Option Refusal
region_refusal table =
    if nat_lt (length table) 48 then None
    else if nat_lt (number_at table 36 4) 20 then Some (refusal 36 ShortRegion)
    else if is_too_high (number_at table 40 8) then Some (refusal 40 TooHigh)
    else None
