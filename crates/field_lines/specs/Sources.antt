-- The fields of error sources, by the numbers of their types (ACPI 6.4, 18.3.2).
use Rattle.std.specs.Prelude.{ℕ, ◌==◌, ◌&&◌, if◌then◌else◌, Bool, true, List, [], ◌∷◌, Option, Some, None}
use Rattle.field_lines.specs.Layouts.{Structure, is_sound_structure}
use Rattle.field_lines.specs.Code.{structure_of}
use Rattle.field_lines.specs.declared.sources.Source.{Source}
use Rattle.field_lines.specs.Checks.{machine_check, corrected_check, nmi_source}
use Rattle.field_lines.specs.Pcie.{root_port, pcie_device, pcie_bridge}
use Rattle.field_lines.specs.Generic.{generic_source, generic_source_2}

abbrev pub source_tables : List (ℕ × Structure)
source_tables =
    (0, machine_check)
    ∷ (1, corrected_check)
    ∷ (2, nmi_source)
    ∷ (6, root_port)
    ∷ (7, pcie_device)
    ∷ (8, pcie_bridge)
    ∷ (9, generic_source)
    ∷ (10, generic_source_2)
    ∷ (11, corrected_check)
    ∷ []

abbrev pub structure_in : List (ℕ × Structure) → ℕ → Option Structure
structure_in [] key = None
structure_in (table ∷ tables) key = if table.0 == key then Some table.1 else structure_in tables key

abbrev pub all_sound : List (ℕ × Structure) → Bool
all_sound [] = true
all_sound (table ∷ tables) = is_sound_structure table.1 && all_sound tables

abbrev pub source_of : Source → ℕ × Structure
source_of source = (source.kind, structure_of source.layout)
