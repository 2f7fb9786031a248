-- Firmware error records, DMA remapping and CCIX (UEFI 2.8, N.2.10 to N.2.12).
use Rattle.std.specs.Prelude.{ℕ, List, [], ◌∷◌, Some, None, codes}
use Rattle.field_lines.specs.Fields.{Field, all_bytes, decimal_number, guid, hexadecimal, one_of, field, text}
use Rattle.field_lines.specs.Layouts.{Structure, structure}

-- the types of firmware error records (UEFI 2.8, N.2.10)
abbrev pub firmware_records : List (ℕ × List ℕ)
firmware_records =
    (0, codes "IPF SAL error record")
    ∷ (1, codes "SOC firmware error record type 1")
    ∷ (2, codes "SOC firmware error record type 2")
    ∷ []

-- the reasons of DMA remapping faults (UEFI 2.8, N.2.11.1)
abbrev pub fault_reasons : List (ℕ × List ℕ)
fault_reasons =
    (1, codes "domain mapping table entry is not present")
    ∷ (2, codes "invalid domain mapping table entry")
    ∷ (3, codes "access to the domain mapping table failed")
    ∷ (4, codes "reserved bit set in the domain mapping table")
    ∷ (5, codes "address beyond the device address width")
    ∷ (6, codes "invalid read or write access")
    ∷ (7, codes "invalid device request")
    ∷ (8, codes "access to the address translation table failed")
    ∷ (9, codes "reserved bit set in the address translation table")
    ∷ (10, codes "illegal command error")
    ∷ (11, codes "access to the command buffer failed")
    ∷ (12, codes "other")
    ∷ []

-- the access types (UEFI 2.8, N.2.11.1)
abbrev pub dma_accesses : List (ℕ × List ℕ)
dma_accesses =
    (0, codes "DMA read")
    ∷ (1, codes "DMA write")
    ∷ []

-- the address types (UEFI 2.8, N.2.11.1)
abbrev pub dma_addresses : List (ℕ × List ℕ)
dma_addresses =
    (0, codes "untranslated request")
    ∷ (1, codes "translation request")
    ∷ []

-- the architecture types (UEFI 2.8, N.2.11.1)
abbrev pub dma_architectures : List (ℕ × List ℕ)
dma_architectures =
    (1, codes "VT-d")
    ∷ (2, codes "IOMMU")
    ∷ []

-- a reference to a firmware error record (UEFI 2.8, N.2.10)
abbrev pub firmware_record_fields : List Field
firmware_record_fields =
    field 0 1 None (codes "firmware error record type") (one_of firmware_records)
    ∷ field 1 1 None (codes "revision") decimal_number
    ∷ field 8 8 None (codes "record identifier") hexadecimal
    ∷ field 16 16 None (codes "record identifier GUID extension") guid
    ∷ []

unfoldable pub firmware_record : Structure
firmware_record = structure 0 firmware_record_fields 0 []

-- a DMA remapping error (UEFI 2.8, N.2.11.1)
abbrev pub dma_remapping_fields : List Field
dma_remapping_fields =
    field 0 2 None (codes "requester ID") hexadecimal
    ∷ field 2 2 None (codes "segment number") decimal_number
    ∷ field 4 1 None (codes "fault reason") (one_of fault_reasons)
    ∷ field 5 1 None (codes "access type") (one_of dma_accesses)
    ∷ field 6 1 None (codes "address type") (one_of dma_addresses)
    ∷ field 7 1 None (codes "architecture type") (one_of dma_architectures)
    ∷ field 8 8 None (codes "device address") hexadecimal
    ∷ []

unfoldable pub dma_remapping : Structure
dma_remapping = structure 0 dma_remapping_fields 0 []

-- an error of Intel's VT for Directed I/O (UEFI 2.8, N.2.11.2)
abbrev pub directed_io_fields : List Field
directed_io_fields =
    field 0 1 None (codes "version") decimal_number
    ∷ field 1 1 None (codes "revision") decimal_number
    ∷ field 2 6 None (codes "OEM ID") text
    ∷ field 8 8 None (codes "capability register") hexadecimal
    ∷ field 16 8 None (codes "extended capability register") hexadecimal
    ∷ field 24 4 None (codes "global command register") hexadecimal
    ∷ field 28 4 None (codes "global status register") hexadecimal
    ∷ field 32 4 None (codes "fault status register") hexadecimal
    ∷ field 48 16 None (codes "fault record") hexadecimal
    ∷ field 64 16 None (codes "root entry") hexadecimal
    ∷ field 80 16 None (codes "context entry") hexadecimal
    ∷ field 96 8 None (codes "level 6 page table entry") hexadecimal
    ∷ field 104 8 None (codes "level 5 page table entry") hexadecimal
    ∷ field 112 8 None (codes "level 4 page table entry") hexadecimal
    ∷ field 120 8 None (codes "level 3 page table entry") hexadecimal
    ∷ field 128 8 None (codes "level 2 page table entry") hexadecimal
    ∷ field 136 8 None (codes "level 1 page table entry") hexadecimal
    ∷ []

unfoldable pub directed_io : Structure
directed_io = structure 0 directed_io_fields 0 []

-- an error of an IOMMU (UEFI 2.8, N.2.11.3)
abbrev pub iommu_fields : List Field
iommu_fields =
    field 0 1 None (codes "revision") decimal_number
    ∷ field 8 8 None (codes "control register") hexadecimal
    ∷ field 16 8 None (codes "status register") hexadecimal
    ∷ field 32 16 None (codes "event log entry") hexadecimal
    ∷ field 64 32 None (codes "device table entry") hexadecimal
    ∷ field 96 8 None (codes "level 6 page table entry") hexadecimal
    ∷ field 104 8 None (codes "level 5 page table entry") hexadecimal
    ∷ field 112 8 None (codes "level 4 page table entry") hexadecimal
    ∷ field 120 8 None (codes "level 3 page table entry") hexadecimal
    ∷ field 128 8 None (codes "level 2 page table entry") hexadecimal
    ∷ field 136 8 None (codes "level 1 page table entry") hexadecimal
    ∷ []

unfoldable pub iommu : Structure
iommu = structure 0 iommu_fields 0 []

-- a CCIX PER log (UEFI 2.8, N.2.12)
abbrev pub ccix_fields : List Field
ccix_fields =
    field 0 4 None (codes "length") decimal_number
    ∷ field 12 1 (Some 0) (codes "CCIX source ID") decimal_number
    ∷ field 13 1 (Some 1) (codes "CCIX port ID") decimal_number
    ∷ field 16 1 (Some 2) (codes "CCIX PER log") all_bytes
    ∷ []

unfoldable pub ccix : Structure
ccix = structure 4 ccix_fields 0 []
