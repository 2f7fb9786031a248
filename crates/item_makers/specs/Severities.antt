-- The numbers of severities (ACPI 6.4, table 18.11; UEFI 2.8, N.2.1).
use Rattle.std.specs.Prelude.{ℕ, ◌==◌, if◌then◌else◌, Option, Some, None}
use Rattle.item_makers.specs.declared.severity.Severity.{Severity}
use Rattle.item_makers.specs.declared.severity.Severity.TheVariants.{Recoverable, Fatal, Corrected, Informational}

abbrev pub severity_number : Severity → ℕ
severity_number Recoverable = 0
severity_number Fatal = 1
severity_number Corrected = 2
severity_number Informational = 3

abbrev pub severity_of : ℕ → Option Severity
severity_of number =
    if number == 0 then Some Recoverable
    else if number == 1 then Some Fatal
    else if number == 2 then Some Corrected
    else if number == 3 then Some Informational
    else None
