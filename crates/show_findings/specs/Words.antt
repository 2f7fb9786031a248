-- What a sentence says of a section.
use Rattle.std.specs.Prelude.{ℕ, ◌+◌, ◌==◌, nat_lt, Bool, true, false, if◌then◌else◌, List, [], ◌∷◌, ◌++◌, Option, Some, None, codes, decimal, bytes_eq}
use Rattle.base_model.specs.Bytes.{part}
use Rattle.apei_bytes.specs.Guid.{guid_text}
use Rattle.cper_frame.specs.Names.{severity_word}
use Rattle.field_lines.specs.Layouts.{Structure, structure}
use Rattle.field_lines.specs.Names.{name_in}
use Rattle.field_lines.specs.Numbers.{has_bit}
use Rattle.field_lines.specs.Records.{record_header}
use Rattle.field_lines.specs.Sections.{section_kinds, kind_in, section_structure}
use Rattle.field_lines.specs.Told.{number_told}
use Rattle.field_lines.specs.declared.sections.SectionKind.{SectionKind}
use Rattle.field_lines.specs.declared.sections.SectionKind.TheVariants.{ProcessorGeneric, Ia32Processor, ArmProcessor, MemoryError, MemoryError2, PciExpress}
use Rattle.field_lines.specs.declared.sections.SectionKind.TheVariants.{PciBus, PciComponent, FirmwareRecord, DmaRemapping, DirectedIo, Iommu, Ccix}
use Rattle.field_lines.specs.declared.sections.SectionKind.TheVariants.{LinuxMachineCheck, LinuxDmesg}
use Rattle.show_findings.specs.Phrases.{Phrase, phrase, Marks, phrases_text, place_text, is_told}
use Rattle.show_findings.specs.declared.phrases.Manner.TheVariants.{Tens, Sixteens, Two, Four, Flags}
use Rattle.show_findings.specs.Labels.{label_text, has_label}
use Rattle.show_findings.specs.declared.labels.Gap.TheVariants.{Start}
use Rattle.show_findings.specs.Subjects.{section_title}

abbrev pub severity_words : Option (List ℕ) → List ℕ
severity_words None = []
severity_words (Some word) = word ++ codes " "

-- what a section is about, by its type
abbrev pub title_words : Option (List ℕ) → (guid : List ℕ) → List ℕ
title_words None guid = codes "error of the unknown type " ++ guid_text guid
title_words (Some title) guid = codes "error, " ++ title

abbrev pub other_words : (guid : List ℕ) → List ℕ
other_words guid =
    if bytes_eq (guid_text guid) (codes "4f118707-04dd-4055-b5dd-956d34ddfac6") then codes "error, the kernel's log of it, packed"
    else title_words (section_title (guid_text guid)) guid

abbrev pub known_words : SectionKind → Option (List ℕ)
known_words MemoryError = Some (codes "memory error")
known_words MemoryError2 = Some (codes "memory error")
known_words ProcessorGeneric = Some (codes "processor error")
known_words Ia32Processor = Some (codes "processor error")
known_words ArmProcessor = Some (codes "processor error")
known_words PciExpress = Some (codes "PCI Express error")
known_words LinuxMachineCheck = Some (codes "machine check")
known_words LinuxDmesg = Some (codes "error, the kernel's log of it")
known_words PciBus = None
known_words PciComponent = None
known_words FirmwareRecord = None
known_words DmaRemapping = None
known_words DirectedIo = None
known_words Iommu = None
known_words Ccix = None

abbrev pub words_of_kind : Option SectionKind → Option (List ℕ)
words_of_kind None = None
words_of_kind (Some kind) = known_words kind

abbrev pub or_other : Option (List ℕ) → (guid : List ℕ) → List ℕ
or_other None guid = other_words guid
or_other (Some words) guid = words

abbrev pub subject_words : (guid : List ℕ) → List ℕ
subject_words guid = or_other (words_of_kind (kind_in section_kinds (guid_text guid))) guid

-- how many bits or symbols of memory were wrong (UEFI 2.8, N.2.5)
abbrev pub width_for : ℕ → List ℕ
width_for number =
    if number == 2 then codes "single-bit "
    else if number == 3 then codes "multi-bit "
    else if number == 4 then codes "single-symbol "
    else if number == 5 then codes "multi-symbol "
    else []

abbrev pub width_words : Option (ℕ × List (ℕ × List ℕ)) → List ℕ
width_words None = []
width_words (Some named) = width_for named.0

-- any other kind of memory error, by its name; 0 and 1 say that the kind is not known
abbrev pub behind_comma : Option (List ℕ) → List ℕ
behind_comma None = []
behind_comma (Some name) = codes ", " ++ name

abbrev pub cause_words : Option (ℕ × List (ℕ × List ℕ)) → List ℕ
cause_words None = []
cause_words (Some named) = if nat_lt 5 named.0 then behind_comma (name_in named.1 named.0) else []

-- what was found in a processor, and by a PCI Express device: of a corrected error among its correctable ones
abbrev pub cause_phrases : (is_corrected : Bool) → List Phrase
cause_phrases true = phrase (codes "processor error type") (codes ", ") Flags ∷ phrase (codes "correctable error status") (codes ", ") Flags ∷ []
cause_phrases false = phrase (codes "processor error type") (codes ", ") Flags ∷ phrase (codes "uncorrectable error status") (codes ", ") Flags ∷ []

abbrev pub place_phrases : List Phrase
place_phrases =
    phrase (codes "processor ID") (codes "processor 0x") Sixteens
    ∷ phrase (codes "local APIC ID") (codes "APIC ") Tens
    ∷ phrase (codes "MPIDR_EL1") (codes "MPIDR 0x") Sixteens
    ∷ phrase (codes "extcpu") (codes "processor ") Tens
    ∷ phrase (codes "node") (codes "node ") Tens
    ∷ phrase (codes "card") (codes "card ") Tens
    ∷ phrase (codes "module") (codes "module ") Tens
    ∷ phrase (codes "rank number") (codes "rank ") Tens
    ∷ phrase (codes "rank") (codes "rank ") Tens
    ∷ phrase (codes "bank") (codes "bank ") Tens
    ∷ phrase (codes "bank group") (codes "bank group ") Tens
    ∷ phrase (codes "bank address") (codes "bank address ") Tens
    ∷ phrase (codes "device") (codes "device ") Tens
    ∷ phrase (codes "row") (codes "row ") Tens
    ∷ phrase (codes "extended row") (codes "extended row ") Tens
    ∷ phrase (codes "column") (codes "column ") Tens
    ∷ []

-- behind the place
abbrev pub address_phrases : List Phrase
address_phrases =
    phrase (codes "module handle") (codes ", handle 0x") Sixteens
    ∷ phrase (codes "physical address") (codes ", physical 0x") Sixteens
    ∷ phrase (codes "target address") (codes ", address 0x") Sixteens
    ∷ []

-- a PCI Express device, as `0000:03:00.0`: its last byte is that of the bus
abbrev pub device_phrases : List Phrase
device_phrases =
    phrase (codes "segment number") (codes ", device ") Four
    ∷ phrase (codes "primary bus number") (codes ":") Two
    ∷ phrase (codes "device number") (codes ":") Two
    ∷ phrase (codes "function number") (codes ".") Sixteens
    ∷ []

abbrev pub device_words : Structure → (body : List ℕ) → List ℕ
device_words structure body = if is_told (number_told structure (codes "primary bus number") body) then phrases_text structure body device_phrases else []

-- the address of a machine check, where its status says that there is one
abbrev pub says_address : Option (ℕ × List (ℕ × List ℕ)) → Bool
says_address None = false
says_address (Some named) = has_bit named.0 58

abbrev pub checked_phrases : List Phrase
checked_phrases = phrase (codes "addr") (codes ", address 0x") Sixteens ∷ []

abbrev pub checked_words : Structure → (body : List ℕ) → List ℕ
checked_words structure body = if says_address (number_told structure (codes "status") body) then phrases_text structure body checked_phrases else []

-- the label stands before a place in brackets
abbrev pub marks_for : (labelled : Bool) → Marks
marks_for true = record { start = codes " ("; end = codes ")" }
marks_for false = record { start = codes ", "; end = [] }

abbrev pub place_words : Structure → (label body : List ℕ) → List ℕ
place_words structure label body = label_text Start label ++ place_text (marks_for (has_label label)) false structure body place_phrases

-- a machine check that stands alone has no label
abbrev pub check_words : Structure → (body : List ℕ) → List ℕ
check_words structure body = place_words structure [] body ++ checked_words structure body

-- what a section is about and what was found, by the rows of its type
abbrev pub kind_words : Structure → (severity : ℕ) → (guid body : List ℕ) → List ℕ
kind_words structure severity guid body =
    width_words (number_told structure (codes "memory error type") body)
    ++ subject_words guid
    ++ cause_words (number_told structure (codes "memory error type") body)
    ++ phrases_text structure body (cause_phrases (severity == 2))

-- which part, and where
abbrev pub part_words : Structure → (label body : List ℕ) → List ℕ
part_words structure label body =
    place_words structure label body
    ++ phrases_text structure body address_phrases
    ++ device_words structure body
    ++ checked_words structure body

-- a type that is not known has no rows
abbrev pub or_no_rows : Option Structure → Structure
or_no_rows None = structure 0 [] 0 []
or_no_rows (Some found) = found

-- a flag of a section (UEFI 2.8, N.2.2)
abbrev pub threshold_words : (flags : ℕ) → List ℕ
threshold_words flags = if has_bit flags 3 then codes ", threshold exceeded" else []

abbrev pub others_words : (others : ℕ) → List ℕ
others_words others = if nat_lt 0 others then codes ", and " ++ decimal others ++ codes " more" else []

abbrev pub section_words : (kind : List ℕ) → (severity flags : ℕ) → (label body : List ℕ) → (others : ℕ) → List ℕ
section_words kind severity flags label body others =
    severity_words (severity_word severity)
    ++ kind_words (or_no_rows (section_structure (guid_text kind))) severity kind body
    ++ part_words (or_no_rows (section_structure (guid_text kind))) label body
    ++ threshold_words flags
    ++ others_words others

-- flags of a record (UEFI 2.8, N.2.1.2)
abbrev pub previous_words : (flags : ℕ) → List ℕ
previous_words flags = if has_bit flags 1 then codes ", of an earlier boot" else []

abbrev pub simulated_words : (flags : ℕ) → List ℕ
simulated_words flags = if has_bit flags 2 then codes ", simulated" else []

abbrev pub flags_words : Option (ℕ × List (ℕ × List ℕ)) → List ℕ
flags_words None = []
flags_words (Some named) = previous_words named.0 ++ simulated_words named.0

abbrev pub record_words : List ℕ → List ℕ
record_words bytes = flags_words (number_told record_header (codes "flags") (part bytes 0 128))
