-- Errors of PCI Express, PCI and PCI-X (UEFI 2.8, N.2.7 to N.2.9).
use Rattle.std.specs.Prelude.{ℕ, List, [], ◌∷◌, Some, None, codes}
use Rattle.field_lines.specs.Fields.{Field, bits, decimal_number, flags, hexadecimal, one_of, field}
use Rattle.field_lines.specs.Layouts.{Structure, structure, Group, group, fixed}
use Rattle.field_lines.specs.Memory.{error_types}

-- the types of PCI Express ports (UEFI 2.8, N.2.7)
abbrev pub port_types : List (ℕ × List ℕ)
port_types =
    (0, codes "PCI Express end point")
    ∷ (1, codes "legacy PCI end point")
    ∷ (4, codes "root port")
    ∷ (5, codes "upstream switch port")
    ∷ (6, codes "downstream switch port")
    ∷ (7, codes "PCI Express to PCI/PCI-X bridge")
    ∷ (8, codes "PCI/PCI-X to PCI Express bridge")
    ∷ (9, codes "root complex integrated endpoint")
    ∷ (10, codes "root complex event collector")
    ∷ []

-- the bits of a PCI command register
abbrev pub command_bits : List (ℕ × List ℕ)
command_bits =
    (0, codes "I/O space")
    ∷ (1, codes "memory space")
    ∷ (2, codes "bus master")
    ∷ (6, codes "parity error response")
    ∷ (8, codes "SERR#")
    ∷ (10, codes "interrupt disable")
    ∷ []

-- the bits of a PCI status register
abbrev pub status_bits : List (ℕ × List ℕ)
status_bits =
    (3, codes "interrupt status")
    ∷ (4, codes "capabilities list")
    ∷ (8, codes "master data parity error")
    ∷ (11, codes "signaled target abort")
    ∷ (12, codes "received target abort")
    ∷ (13, codes "received master abort")
    ∷ (14, codes "signaled system error")
    ∷ (15, codes "detected parity error")
    ∷ []

-- the bits of a bridge's secondary status register
abbrev pub secondary_bits : List (ℕ × List ℕ)
secondary_bits =
    (8, codes "master data parity error")
    ∷ (11, codes "signaled target abort")
    ∷ (12, codes "received target abort")
    ∷ (13, codes "received master abort")
    ∷ (14, codes "received system error")
    ∷ (15, codes "detected parity error")
    ∷ []

-- the uncorrectable errors of a PCI Express device
abbrev pub uncorrectable_bits : List (ℕ × List ℕ)
uncorrectable_bits =
    (4, codes "data link protocol error")
    ∷ (5, codes "surprise down error")
    ∷ (12, codes "poisoned TLP")
    ∷ (13, codes "flow control protocol error")
    ∷ (14, codes "completion timeout")
    ∷ (15, codes "completer abort")
    ∷ (16, codes "unexpected completion")
    ∷ (17, codes "receiver overflow")
    ∷ (18, codes "malformed TLP")
    ∷ (19, codes "ECRC error")
    ∷ (20, codes "unsupported request")
    ∷ (21, codes "ACS violation")
    ∷ (22, codes "uncorrectable internal error")
    ∷ (23, codes "MC blocked TLP")
    ∷ (24, codes "AtomicOp egress blocked")
    ∷ (25, codes "TLP prefix blocked")
    ∷ (26, codes "poisoned TLP egress blocked")
    ∷ []

-- the correctable errors of a PCI Express device
abbrev pub correctable_bits : List (ℕ × List ℕ)
correctable_bits =
    (0, codes "receiver error")
    ∷ (6, codes "bad TLP")
    ∷ (7, codes "bad DLLP")
    ∷ (8, codes "REPLAY_NUM rollover")
    ∷ (12, codes "replay timer timeout")
    ∷ (13, codes "advisory non-fatal error")
    ∷ (14, codes "corrected internal error")
    ∷ (15, codes "header log overflow")
    ∷ []

-- the types of PCI bus errors (UEFI 2.8, N.2.8)
abbrev pub bus_errors : List (ℕ × List ℕ)
bus_errors =
    (0, codes "unknown or OEM system specific error")
    ∷ (1, codes "data parity error")
    ∷ (2, codes "system error")
    ∷ (3, codes "master abort")
    ∷ (4, codes "bus timeout")
    ∷ (5, codes "master data parity error")
    ∷ (6, codes "address parity error")
    ∷ (7, codes "command parity error")
    ∷ []

-- a PCI Express error (UEFI 2.8, N.2.7)
abbrev pub pci_express_fields : List Field
pci_express_fields =
    field 8 4 (Some 0) (codes "port type") (one_of port_types)
    ∷ field 12 1 (Some 1) (codes "version minor") hexadecimal
    ∷ field 13 1 (Some 1) (codes "version major") hexadecimal
    ∷ field 16 2 (Some 2) (codes "command") (flags command_bits)
    ∷ field 18 2 (Some 2) (codes "status") (flags status_bits)
    ∷ field 24 2 (Some 3) (codes "vendor ID") hexadecimal
    ∷ field 26 2 (Some 3) (codes "device ID") hexadecimal
    ∷ field 28 3 (Some 3) (codes "class code") hexadecimal
    ∷ field 31 1 (Some 3) (codes "function number") decimal_number
    ∷ field 32 1 (Some 3) (codes "device number") decimal_number
    ∷ field 33 2 (Some 3) (codes "segment number") decimal_number
    ∷ field 35 1 (Some 3) (codes "primary bus number") decimal_number
    ∷ field 36 1 (Some 3) (codes "secondary bus number") decimal_number
    ∷ field 37 2 (Some 3) (codes "slot number") (bits 3 13 [])
    ∷ field 40 8 (Some 4) (codes "device serial number") hexadecimal
    ∷ field 48 2 (Some 5) (codes "secondary status") (flags secondary_bits)
    ∷ field 50 2 (Some 5) (codes "bridge control") hexadecimal
    ∷ field 52 1 (Some 6) (codes "capability ID") hexadecimal
    ∷ field 53 1 (Some 6) (codes "next capability") hexadecimal
    ∷ field 54 2 (Some 6) (codes "PCI Express capabilities") hexadecimal
    ∷ field 56 4 (Some 6) (codes "device capabilities") hexadecimal
    ∷ field 60 2 (Some 6) (codes "device control") hexadecimal
    ∷ field 62 2 (Some 6) (codes "device status") hexadecimal
    ∷ field 64 4 (Some 6) (codes "link capabilities") hexadecimal
    ∷ field 68 2 (Some 6) (codes "link control") hexadecimal
    ∷ field 70 2 (Some 6) (codes "link status") hexadecimal
    ∷ field 72 4 (Some 6) (codes "slot capabilities") hexadecimal
    ∷ field 76 2 (Some 6) (codes "slot control") hexadecimal
    ∷ field 78 2 (Some 6) (codes "slot status") hexadecimal
    ∷ field 80 2 (Some 6) (codes "root control") hexadecimal
    ∷ field 82 2 (Some 6) (codes "root capabilities") hexadecimal
    ∷ field 84 4 (Some 6) (codes "root status") hexadecimal
    ∷ field 88 4 (Some 6) (codes "device capabilities 2") hexadecimal
    ∷ field 92 2 (Some 6) (codes "device control 2") hexadecimal
    ∷ field 94 2 (Some 6) (codes "device status 2") hexadecimal
    ∷ field 96 4 (Some 6) (codes "link capabilities 2") hexadecimal
    ∷ field 100 2 (Some 6) (codes "link control 2") hexadecimal
    ∷ field 102 2 (Some 6) (codes "link status 2") hexadecimal
    ∷ field 104 4 (Some 6) (codes "slot capabilities 2") hexadecimal
    ∷ field 108 2 (Some 6) (codes "slot control 2") hexadecimal
    ∷ field 110 2 (Some 6) (codes "slot status 2") hexadecimal
    ∷ field 112 4 (Some 7) (codes "AER capability header") hexadecimal
    ∷ field 116 4 (Some 7) (codes "uncorrectable error status") (flags uncorrectable_bits)
    ∷ field 120 4 (Some 7) (codes "uncorrectable error mask") (flags uncorrectable_bits)
    ∷ field 124 4 (Some 7) (codes "uncorrectable error severity") (flags uncorrectable_bits)
    ∷ field 128 4 (Some 7) (codes "correctable error status") (flags correctable_bits)
    ∷ field 132 4 (Some 7) (codes "correctable error mask") (flags correctable_bits)
    ∷ field 136 4 (Some 7) (codes "advanced error capabilities and control") hexadecimal
    ∷ field 140 4 (Some 7) (codes "header log 0") hexadecimal
    ∷ field 144 4 (Some 7) (codes "header log 1") hexadecimal
    ∷ field 148 4 (Some 7) (codes "header log 2") hexadecimal
    ∷ field 152 4 (Some 7) (codes "header log 3") hexadecimal
    ∷ field 156 4 (Some 7) (codes "root error command") hexadecimal
    ∷ field 160 4 (Some 7) (codes "root error status") hexadecimal
    ∷ field 164 2 (Some 7) (codes "correctable error source") hexadecimal
    ∷ field 166 2 (Some 7) (codes "uncorrectable error source") hexadecimal
    ∷ []

unfoldable pub pci_express : Structure
pci_express = structure 0 pci_express_fields 0 []

-- a PCI or PCI-X bus error (UEFI 2.8, N.2.8)
abbrev pub pci_bus_fields : List Field
pci_bus_fields =
    field 8 8 (Some 0) (codes "error status") hexadecimal
    ∷ field 8 8 (Some 0) (codes "error status type") (bits 8 8 error_types)
    ∷ field 16 2 (Some 1) (codes "error type") (one_of bus_errors)
    ∷ field 18 1 (Some 2) (codes "bus number") decimal_number
    ∷ field 19 1 (Some 2) (codes "segment number") decimal_number
    ∷ field 24 8 (Some 3) (codes "bus address") hexadecimal
    ∷ field 32 8 (Some 4) (codes "bus data") hexadecimal
    ∷ field 40 8 (Some 5) (codes "bus command") hexadecimal
    ∷ field 48 8 (Some 6) (codes "bus requestor ID") hexadecimal
    ∷ field 56 8 (Some 7) (codes "bus completer ID") hexadecimal
    ∷ field 64 8 (Some 8) (codes "target ID") hexadecimal
    ∷ []

unfoldable pub pci_bus : Structure
pci_bus = structure 0 pci_bus_fields 0 []

-- a PCI or PCI-X component error (UEFI 2.8, N.2.9)
abbrev pub pci_component_fields : List Field
pci_component_fields =
    field 8 8 (Some 0) (codes "error status") hexadecimal
    ∷ field 8 8 (Some 0) (codes "error status type") (bits 8 8 error_types)
    ∷ field 16 2 (Some 1) (codes "vendor ID") hexadecimal
    ∷ field 18 2 (Some 1) (codes "device ID") hexadecimal
    ∷ field 20 3 (Some 1) (codes "class code") hexadecimal
    ∷ field 23 1 (Some 1) (codes "function number") decimal_number
    ∷ field 24 1 (Some 1) (codes "device number") decimal_number
    ∷ field 25 1 (Some 1) (codes "bus number") decimal_number
    ∷ field 26 1 (Some 1) (codes "segment number") decimal_number
    ∷ field 32 4 (Some 2) (codes "memory number") decimal_number
    ∷ field 36 4 (Some 3) (codes "IO number") decimal_number
    ∷ []

-- a part of it: memory register
abbrev pub register_pair_fields : List Field
register_pair_fields =
    field 0 8 None (codes "address") hexadecimal
    ∷ field 8 8 None (codes "value") hexadecimal
    ∷ []

abbrev pub pci_component_groups : List Group
pci_component_groups =
    group (codes "memory register") 32 4 0 32 (fixed 16) 0 register_pair_fields []
    ∷ group (codes "IO register") 36 4 0 32 (fixed 16) 0 register_pair_fields []
    ∷ []

unfoldable pub pci_component : Structure
pci_component = structure 0 pci_component_fields 40 pci_component_groups
