-- The types of sections, by the texts of their GUIDs (UEFI 2.8, N.2.2), and the fields of the bodies of each.
use Rattle.std.specs.Prelude.{ℕ, if◌then◌else◌, List, [], ◌∷◌, Option, Some, None, codes, bytes_eq}
use Rattle.field_lines.specs.Layouts.{Structure}
use Rattle.field_lines.specs.declared.sections.Named.{Named}
use Rattle.field_lines.specs.declared.sections.SectionKind.{SectionKind}
use Rattle.field_lines.specs.declared.sections.SectionKind.TheVariants.{ProcessorGeneric, Ia32Processor, ArmProcessor, MemoryError, MemoryError2, PciExpress}
use Rattle.field_lines.specs.declared.sections.SectionKind.TheVariants.{PciBus, PciComponent, FirmwareRecord, DmaRemapping, DirectedIo, Iommu, Ccix}
use Rattle.field_lines.specs.declared.sections.SectionKind.TheVariants.{LinuxMachineCheck, LinuxDmesg}
use Rattle.field_lines.specs.Processor.{processor_generic}
use Rattle.field_lines.specs.Ia32.{ia32_processor}
use Rattle.field_lines.specs.Arm.{arm_processor}
use Rattle.field_lines.specs.Memory.{memory_error, memory_error_2}
use Rattle.field_lines.specs.Pci.{pci_express, pci_bus, pci_component}
use Rattle.field_lines.specs.Remapping.{firmware_record, dma_remapping, directed_io, iommu, ccix}
use Rattle.field_lines.specs.Linux.{linux_machine_check, linux_dmesg}

abbrev pub section_kinds : List (List ℕ × SectionKind)
section_kinds =
    (codes "9876ccad-47b4-4bdb-b65e-16f193c4f3db", ProcessorGeneric)
    ∷ (codes "dc3ea0b0-a144-4797-b95b-53fa242b6e1d", Ia32Processor)
    ∷ (codes "e19e3d16-bc11-11e4-9caa-c2051d5d46b0", ArmProcessor)
    ∷ (codes "a5bc1114-6f64-4ede-b863-3e83ed7c83b1", MemoryError)
    ∷ (codes "61ec04fc-48e6-d813-25c9-8daa44750b12", MemoryError2)
    ∷ (codes "d995e954-bbc1-430f-ad91-b44dcb3c6f35", PciExpress)
    ∷ (codes "c5753963-3b84-4095-bf78-eddad3f9c9dd", PciBus)
    ∷ (codes "eb5e4685-ca66-4769-b6a2-26068b001326", PciComponent)
    ∷ (codes "81212a96-09ed-4996-9471-8d729c8e69ed", FirmwareRecord)
    ∷ (codes "5b51fef7-c79d-4434-8f1b-aa62de3e2c64", DmaRemapping)
    ∷ (codes "71761d37-32b2-45cd-a7d0-b0fedd93e8cf", DirectedIo)
    ∷ (codes "036f84e1-7f37-428c-a79e-575fdfaa84ec", Iommu)
    ∷ (codes "91335ef6-ebfb-4478-a6a6-88b728cf75d7", Ccix)
    ∷ (codes "fe08ffbe-95e4-4be7-bc73-4096044a38fc", LinuxMachineCheck)
    ∷ (codes "c197e04e-d545-4a70-9c17-a5549419eb12", LinuxDmesg)
    ∷ []

abbrev pub kind_in : List (List ℕ × SectionKind) → List ℕ → Option SectionKind
kind_in [] guid = None
kind_in (kind ∷ kinds) guid = if bytes_eq kind.0 guid then Some kind.1 else kind_in kinds guid

abbrev pub kind_of : Named → List ℕ × SectionKind
kind_of named = (named.guid.now, named.kind)

abbrev pub structure_for : SectionKind → Structure
structure_for ProcessorGeneric = processor_generic
structure_for Ia32Processor = ia32_processor
structure_for ArmProcessor = arm_processor
structure_for MemoryError = memory_error
structure_for MemoryError2 = memory_error_2
structure_for PciExpress = pci_express
structure_for PciBus = pci_bus
structure_for PciComponent = pci_component
structure_for FirmwareRecord = firmware_record
structure_for DmaRemapping = dma_remapping
structure_for DirectedIo = directed_io
structure_for Iommu = iommu
structure_for Ccix = ccix
structure_for LinuxMachineCheck = linux_machine_check
structure_for LinuxDmesg = linux_dmesg

-- the fields of the body of a section, by the text of the GUID of its type
abbrev pub fields_if_known : Option SectionKind → Option Structure
fields_if_known None = None
fields_if_known (Some kind) = Some (structure_for kind)

abbrev pub section_structure : List ℕ → Option Structure
section_structure guid = fields_if_known (kind_in section_kinds guid)
