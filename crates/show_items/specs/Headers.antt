-- Headers that files begin with: that of QEMU's storage of acpi-erst, and that of a medium of the library.
use Rattle.std.specs.Prelude.{◌≡◌, ℕ, List, [], ◌∷◌, codes, Option, Some, None, is_some}
use Rattle.field_lines.specs.Fields.{Field, decimal_number, hexadecimal, field, text}
use Rattle.field_lines.specs.Layouts.{Structure, structure}
use Rattle.show_findings.specs.declared.faults.Fault.{Fault}
use Rattle.show_items.specs.Groups.{fields_group, single}
use Rattle.show_items.specs.Items.{Shown}
use Rattle.show_items.specs.Judged.{IsShownAs}

-- the storage of QEMU's acpi-erst, behind whose header a map of identifiers stands
abbrev pub qemu_fields : List Field
qemu_fields =
    field 0 8 None (codes "magic") text
    ∷ field 8 4 None (codes "record size") decimal_number
    ∷ field 12 4 None (codes "storage offset") decimal_number
    ∷ field 16 2 None (codes "version") hexadecimal
    ∷ field 18 2 None (codes "reserved") hexadecimal
    ∷ field 20 4 None (codes "record count") decimal_number
    ∷ []

abbrev pub qemu_structure : Structure
qemu_structure = structure 0 qemu_fields 0 []

-- the first sector of a medium, with the marks of its format
abbrev pub medium_fields : List Field
medium_fields =
    field 0 8 None (codes "signature") text
    ∷ field 8 4 None (codes "version") decimal_number
    ∷ field 12 4 None (codes "header length") decimal_number
    ∷ field 16 4 None (codes "sector size") decimal_number
    ∷ field 20 4 None (codes "sectors per slot") decimal_number
    ∷ field 24 4 None (codes "slots") decimal_number
    ∷ field 28 4 None (codes "reserved") hexadecimal
    ∷ field 32 8 None (codes "medium size") decimal_number
    ∷ field 40 4 None (codes "checksum") hexadecimal
    ∷ field 44 4 None (codes "reserved 2") hexadecimal
    ∷ field 48 1 None (codes "whole mark") hexadecimal
    ∷ field 49 1 None (codes "format mark") hexadecimal
    ∷ []

abbrev pub medium_structure : Structure
medium_structure = structure 0 medium_fields 0 []

-- a header is an item of all bytes of its file; one with a fault is bad
pub record IsHeader (kind : List ℕ) (structure : Structure) (head bytes : List ℕ) (fault : Option Fault) (item : Shown)
    : Type 0 where
  pub heading : IsShownAs kind (Some 0) bytes item
  pub groups : item.groups ≡ fields_group (single (codes "header")) structure head ∷ []
  pub told : item.fault ≡ fault
  pub bad : item.bad ≡ is_some fault
