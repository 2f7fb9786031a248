-- Who made a record, and the names of sections, by the text of their GUIDs.
use Rattle.std.specs.Prelude.{ℕ, nat_lt, Bool, false, List, length, Option, Some, None, codes, if◌then◌else◌}
use Rattle.std.specs.Str.{bytes_eq}
use Rattle.apei_bytes.specs.Guid.{guid_text}
use Rattle.base_model.specs.Bytes.{part}
use Rattle.cper_frame.specs.Names.{name_in, sections}
use Rattle.show_findings.specs.Kinds.{first_of}

-- what a CXL device reports (UEFI 2.10, N.2.13 and N.2.14)
abbrev pub cxl_title : List ℕ → Option (List ℕ)
cxl_title guid =
    if bytes_eq guid (codes "80b9efb4-52b5-4de3-a777-68784b771048") then Some (codes "CXL Protocol Error")
    else if bytes_eq guid (codes "fbcd0a77-c260-417f-85a9-088b1621eba6") then Some (codes "CXL General Media Event")
    else if bytes_eq guid (codes "601dcbb3-9c06-4eab-b8af-4e9bfb5c9624") then Some (codes "CXL DRAM Event")
    else if bytes_eq guid (codes "fe927475-dd59-4339-a586-79bab113b774") then Some (codes "CXL Memory Module Event")
    else None

-- those that Linux stores by itself (a machine check, and a kernel's log, as it is and packed), and one of UEFI 2.8 (N.2.12)
abbrev pub other_title : List ℕ → Option (List ℕ)
other_title guid =
    if bytes_eq guid (codes "fe08ffbe-95e4-4be7-bc73-4096044a38fc") then Some (codes "Linux machine check")
    else if bytes_eq guid (codes "c197e04e-d545-4a70-9c17-a5549419eb12") then Some (codes "Linux kernel log")
    else if bytes_eq guid (codes "4f118707-04dd-4055-b5dd-956d34ddfac6") then Some (codes "Linux kernel log, packed")
    else if bytes_eq guid (codes "91335ef6-ebfb-4478-a6a6-88b728cf75d7") then Some (codes "CCIX PER Log")
    else cxl_title guid

abbrev pub section_title : List ℕ → Option (List ℕ)
section_title guid = first_of (other_title guid) (name_in sections guid)

-- the creator in a record's header (UEFI 2.8, N.2.1) is the one that Linux writes
abbrev pub is_of_linux : List ℕ → Bool
is_of_linux bytes =
    if nat_lt (length bytes) 128 then false
    else bytes_eq (guid_text (part bytes 64 16)) (codes "75a574e3-5052-4b29-8a8e-be2c6490b89d")
