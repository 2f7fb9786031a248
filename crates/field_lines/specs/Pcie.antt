-- Error sources of PCI Express (ACPI 6.4, 18.3.2.3 to 18.3.2.5).
use Rattle.std.specs.Prelude.{ℕ, List, [], ◌∷◌, None, codes}
use Rattle.field_lines.specs.Fields.{Field, decimal_number, flags, hexadecimal, one_of, field}
use Rattle.field_lines.specs.Layouts.{Structure, structure}
use Rattle.field_lines.specs.Checks.{source_types, source_flags}

-- a PCI Express root port (ACPI 6.4, 18.3.2.3)
abbrev pub root_port_fields : List Field
root_port_fields =
    field 0 2 None (codes "type") (one_of source_types)
    ∷ field 2 2 None (codes "source ID") decimal_number
    ∷ field 6 1 None (codes "flags") (flags source_flags)
    ∷ field 7 1 None (codes "enabled") decimal_number
    ∷ field 8 4 None (codes "number of records to pre-allocate") decimal_number
    ∷ field 12 4 None (codes "max sections per record") decimal_number
    ∷ field 16 4 None (codes "bus") hexadecimal
    ∷ field 20 2 None (codes "device") decimal_number
    ∷ field 22 2 None (codes "function") decimal_number
    ∷ field 24 2 None (codes "device control") hexadecimal
    ∷ field 28 4 None (codes "uncorrectable error mask") hexadecimal
    ∷ field 32 4 None (codes "uncorrectable error severity") hexadecimal
    ∷ field 36 4 None (codes "correctable error mask") hexadecimal
    ∷ field 40 4 None (codes "advanced error capabilities and control") hexadecimal
    ∷ field 44 4 None (codes "root error command") hexadecimal
    ∷ []

abbrev pub root_port : Structure
root_port = structure 0 root_port_fields 0 []

-- a PCI Express device (ACPI 6.4, 18.3.2.4)
abbrev pub pcie_device_fields : List Field
pcie_device_fields =
    field 0 2 None (codes "type") (one_of source_types)
    ∷ field 2 2 None (codes "source ID") decimal_number
    ∷ field 6 1 None (codes "flags") (flags source_flags)
    ∷ field 7 1 None (codes "enabled") decimal_number
    ∷ field 8 4 None (codes "number of records to pre-allocate") decimal_number
    ∷ field 12 4 None (codes "max sections per record") decimal_number
    ∷ field 16 4 None (codes "bus") hexadecimal
    ∷ field 20 2 None (codes "device") decimal_number
    ∷ field 22 2 None (codes "function") decimal_number
    ∷ field 24 2 None (codes "device control") hexadecimal
    ∷ field 28 4 None (codes "uncorrectable error mask") hexadecimal
    ∷ field 32 4 None (codes "uncorrectable error severity") hexadecimal
    ∷ field 36 4 None (codes "correctable error mask") hexadecimal
    ∷ field 40 4 None (codes "advanced error capabilities and control") hexadecimal
    ∷ []

abbrev pub pcie_device : Structure
pcie_device = structure 0 pcie_device_fields 0 []

-- a PCI Express bridge (ACPI 6.4, 18.3.2.5)
abbrev pub pcie_bridge_fields : List Field
pcie_bridge_fields =
    field 0 2 None (codes "type") (one_of source_types)
    ∷ field 2 2 None (codes "source ID") decimal_number
    ∷ field 6 1 None (codes "flags") (flags source_flags)
    ∷ field 7 1 None (codes "enabled") decimal_number
    ∷ field 8 4 None (codes "number of records to pre-allocate") decimal_number
    ∷ field 12 4 None (codes "max sections per record") decimal_number
    ∷ field 16 4 None (codes "bus") hexadecimal
    ∷ field 20 2 None (codes "device") decimal_number
    ∷ field 22 2 None (codes "function") decimal_number
    ∷ field 24 2 None (codes "device control") hexadecimal
    ∷ field 28 4 None (codes "uncorrectable error mask") hexadecimal
    ∷ field 32 4 None (codes "uncorrectable error severity") hexadecimal
    ∷ field 36 4 None (codes "correctable error mask") hexadecimal
    ∷ field 40 4 None (codes "advanced error capabilities and control") hexadecimal
    ∷ field 44 4 None (codes "secondary uncorrectable error mask") hexadecimal
    ∷ field 48 4 None (codes "secondary uncorrectable error severity") hexadecimal
    ∷ field 52 4 None (codes "secondary advanced error capabilities and control") hexadecimal
    ∷ []

abbrev pub pcie_bridge : Structure
pcie_bridge = structure 0 pcie_bridge_fields 0 []
