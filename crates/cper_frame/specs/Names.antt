-- The standard's words for the numbers and the GUIDs of a record.
use Rattle.std.specs.Prelude.{ℕ, ◌==◌, if◌then◌else◌, List, [], ◌∷◌, Option, Some, None, codes, bytes_eq}

-- for the severities of records and their sections (UEFI 2.8, N.2.1)
abbrev pub severity_word : ℕ → Option (List ℕ)
severity_word severity =
    if severity == 0 then Some (codes "recoverable")
    else if severity == 1 then Some (codes "fatal")
    else if severity == 2 then Some (codes "corrected")
    else if severity == 3 then Some (codes "informational")
    else None

-- for the notification types, by the texts of their GUIDs (UEFI 2.8, N.2.1)
abbrev pub notifications : List (List ℕ × List ℕ)
notifications =
    (codes "2dce8bb1-bdd7-450e-b9ad-9cf4ebd4f890", codes "Corrected Machine Check")
    ∷ (codes "4e292f96-d843-4a55-a8c2-d481f27ebeee", codes "Corrected Platform Error")
    ∷ (codes "e8f56ffe-919c-4cc5-ba88-65abe14913bb", codes "Machine Check Exception")
    ∷ (codes "cf93c01f-1a16-4dfc-b8bc-9c4daf67c104", codes "PCI Express Error")
    ∷ (codes "cc5263e8-9308-454a-89d0-340bd39bc98e", codes "INIT")
    ∷ (codes "5bad89ff-b7e6-42c9-814a-cf2485d6e98a", codes "Non-Maskable Interrupt")
    ∷ (codes "3d61a466-ab40-409a-a698-f362d464b38f", codes "Boot")
    ∷ (codes "667dd791-c6b3-4c27-8a6b-0f8e722deb41", codes "DMA Remapping Error")
    ∷ (codes "9a78788a-bbe8-11e4-809e-67611e5d46b0", codes "Synchronous External Abort")
    ∷ (codes "5c284c81-b0ae-4e87-a322-b04c85624323", codes "SError Interrupt")
    ∷ (codes "09a9d5ac-5204-4214-96e5-94992e752bcd", codes "Platform Error Interrupt")
    ∷ []

-- for the section types (UEFI 2.8, N.2.2)
abbrev pub sections : List (List ℕ × List ℕ)
sections =
    (codes "9876ccad-47b4-4bdb-b65e-16f193c4f3db", codes "Processor Generic")
    ∷ (codes "dc3ea0b0-a144-4797-b95b-53fa242b6e1d", codes "IA32/X64 Processor")
    ∷ (codes "e429faf1-3cb7-11d4-bca7-0080c73c8881", codes "IPF Processor")
    ∷ (codes "e19e3d16-bc11-11e4-9caa-c2051d5d46b0", codes "ARM Processor")
    ∷ (codes "a5bc1114-6f64-4ede-b863-3e83ed7c83b1", codes "Platform Memory")
    ∷ (codes "61ec04fc-48e6-d813-25c9-8daa44750b12", codes "Platform Memory 2")
    ∷ (codes "d995e954-bbc1-430f-ad91-b44dcb3c6f35", codes "PCI Express")
    ∷ (codes "81212a96-09ed-4996-9471-8d729c8e69ed", codes "Firmware Error Record Reference")
    ∷ (codes "c5753963-3b84-4095-bf78-eddad3f9c9dd", codes "PCI/PCI-X Bus")
    ∷ (codes "eb5e4685-ca66-4769-b6a2-26068b001326", codes "PCI Component")
    ∷ (codes "5b51fef7-c79d-4434-8f1b-aa62de3e2c64", codes "DMAr Generic")
    ∷ (codes "71761d37-32b2-45cd-a7d0-b0fedd93e8cf", codes "Intel VT for Directed I/O")
    ∷ (codes "036f84e1-7f37-428c-a79e-575fdfaa84ec", codes "IOMMU")
    ∷ []

-- the name behind a GUID
abbrev pub name_in : List (List ℕ × List ℕ) → List ℕ → Option (List ℕ)
name_in [] guid = None
name_in (row ∷ rows) guid = if bytes_eq row.0 guid then Some row.1 else name_in rows guid
