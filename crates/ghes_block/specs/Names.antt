-- The words for the severities of blocks and their entries (ACPI 6.4, section 18.3.2.7.1).
use Rattle.std.specs.Prelude.{ℕ, ◌==◌, if◌then◌else◌, List, Option, Some, None, codes}

abbrev pub block_severity_word : ℕ → Option (List ℕ)
block_severity_word severity =
    if severity == 0 then Some (codes "recoverable")
    else if severity == 1 then Some (codes "fatal")
    else if severity == 2 then Some (codes "corrected")
    else if severity == 3 then Some (codes "none")
    else None
