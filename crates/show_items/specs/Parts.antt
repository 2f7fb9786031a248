-- The part of the machine that a section names: a group behind the others of its item, where the structures of the machine's SMBIOS are known.
use Rattle.std.specs.Prelude.{◌≡◌, ℕ, Bool, true, false, if◌then◌else◌, List, [], ◌∷◌, ◌++◌, codes, decimal, Option, Some, None, map, option_map}
use Rattle.apei_bytes.specs.Guid.{guid_text}
use Rattle.field_lines.specs.Sections.{kind_in, section_kinds}
use Rattle.field_lines.specs.Styles.{place_text}
use Rattle.field_lines.specs.Texts.{escaped_lines, shown_byte}
use Rattle.field_lines.specs.declared.sections.SectionKind.{SectionKind}
use Rattle.field_lines.specs.declared.sections.SectionKind.TheVariants as kinds
use Rattle.machine_parts.specs.declared.arrays.MemoryArray.{MemoryArray}
use Rattle.machine_parts.specs.declared.numbers.Naming.{Naming}
use Rattle.machine_parts.specs.declared.numbers.Naming.TheVariants as namings
use Rattle.machine_parts.specs.declared.parts.Card.{Card}
use Rattle.machine_parts.specs.declared.parts.Card.TheVariants as cards
use Rattle.machine_parts.specs.declared.parts.Module.{Module}
use Rattle.machine_parts.specs.declared.parts.Module.TheVariants as modules
use Rattle.machine_parts.specs.declared.parts.Slot.{Slot}
use Rattle.machine_parts.specs.declared.parts.Slot.TheVariants as slots
use Rattle.machine_parts.specs.Parts.{IsCard, IsModule, IsSlot}
use Rattle.show_items.specs.Groups.{Group, Head, members, numbered, title}
use Rattle.show_items.specs.declared.parts.Named.{Named}
use Rattle.show_items.specs.declared.parts.Named.TheVariants as nameds
use Rattle.show_items.specs.declared.parts.Part.{Part}
use Rattle.show_items.specs.declared.parts.Writer.{Writer}
use Rattle.show_items.specs.declared.sheet.Form.{Form}
use Rattle.show_items.specs.declared.sheet.Form.TheVariants.{Json}
use Rattle.smbios.specs.declared.memory.MemoryDevice.{MemoryDevice}

-- the types of sections that name a part
abbrev pub naming_of : Option SectionKind → Option Naming
naming_of (Some kinds.MemoryError) = Some namings.Memory
naming_of (Some kinds.MemoryError2) = Some namings.Memory2
naming_of (Some kinds.PciExpress) = Some namings.PciExpress
naming_of other = None

-- one thing that is told: a line of text, or a member of a JSON object
abbrev pub begin_text : Writer → (name : List ℕ) → List ℕ
begin_text writer name =
    if writer.is_json then codes ",\"" ++ name ++ codes "\":"
    else codes "    " ++ place_text writer.places writer.base ++ name ++ codes ": "

-- what can't be printed is a dot in text
abbrev pub dotted : List ℕ → List ℕ
dotted [] = []
dotted (byte ∷ bytes) = shown_byte byte ∷ dotted bytes

abbrev pub value_text : Writer → (text : List ℕ) → List ℕ
value_text writer text = if writer.is_json then codes "\"" ++ escaped_lines text ++ codes "\"" else dotted text ++ codes "\n"

abbrev pub text_told : Writer → (name : List ℕ) → Option (List ℕ) → List ℕ
text_told writer name None = []
text_told writer name (Some text) = begin_text writer name ++ value_text writer text

abbrev pub number_value : Writer → ℕ → List ℕ
number_value writer number = if writer.is_json then decimal number else decimal number ++ codes "\n"

abbrev pub number_told : Writer → (name : List ℕ) → Option ℕ → List ℕ
number_told writer name None = []
number_told writer name (Some number) = begin_text writer name ++ number_value writer number

-- a module: what its memory device says
abbrev pub socket_text : Writer → MemoryDevice → List ℕ
socket_text writer device =
    text_told writer (codes "device locator") (option_map (λ it. it.now) device.locator)
    ++ text_told writer (codes "bank locator") (option_map (λ it. it.now) device.bank)

abbrev pub maker_text : Writer → MemoryDevice → List ℕ
maker_text writer device =
    text_told writer (codes "manufacturer") (option_map (λ it. it.now) device.maker)
    ++ text_told writer (codes "serial number") (option_map (λ it. it.now) device.serial)
    ++ text_told writer (codes "part number") (option_map (λ it. it.now) device.part_number)

abbrev pub size_text : Writer → MemoryDevice → List ℕ
size_text writer device = number_told writer (codes "size in KiB") device.size ++ number_told writer (codes "speed in MT/s") device.speed

abbrev pub device_text : Writer → MemoryDevice → List ℕ
device_text writer device = socket_text writer device ++ maker_text writer device ++ size_text writer device

abbrev pub module_text : Writer → Module → List ℕ
module_text writer modules.Unnamed = text_told writer (codes "module") (Some (codes "the section has no module handle"))
module_text writer (modules.Absent number) = text_told writer (codes "module") (Some (codes "no memory device has this module handle"))
module_text writer (modules.Found device) = device_text writer device

-- its card
abbrev pub array_text : Writer → MemoryArray → List ℕ
array_text writer array =
    number_told writer (codes "memory array location") array.location
    ++ number_told writer (codes "memory array sockets") array.devices

abbrev pub card_text : Writer → Card → List ℕ
card_text writer cards.Unnamed = []
card_text writer (cards.Absent number) = text_told writer (codes "card") (Some (codes "no memory array has this card handle"))
card_text writer (cards.Found array) = array_text writer array

-- a slot
abbrev pub slot_text : Writer → Slot → List ℕ
slot_text writer slots.Unnamed = text_told writer (codes "slot") (Some (codes "the section has no slot number"))
slot_text writer (slots.Absent number) = text_told writer (codes "slot") (Some (codes "no system slot has this number"))
slot_text writer (slots.Found label) = text_told writer (codes "slot designation") (option_map (λ it. it.now) label)

-- a part, in text and in JSON
abbrev pub part_text : Writer → Named → List ℕ
part_text writer (nameds.Memory one card) = module_text writer one ++ card_text writer card
part_text writer (nameds.Slot slot) = slot_text writer slot

abbrev pub line_writer : Bool → (base : ℕ) → Writer
line_writer places base = record { is_json = false; places = places; base = base }

abbrev pub json_writer : (base : ℕ) → Writer
json_writer base = record { is_json = true; places = false; base = base }

abbrev pub part_lines : Bool → Head → Named → List ℕ
part_lines places head part = title head ++ part_text (line_writer places head.base) part

abbrev pub part_json : Head → Named → List ℕ
part_json head part = members head ++ part_text (json_writer head.base) part ++ codes "}"

abbrev pub part_as : Form → Bool → Head → Named → List ℕ
part_as Json places head part = part_json head part
part_as form places head part = part_lines places head part

-- the groups of parts
abbrev pub part_head : Part → Head
part_head part = numbered (codes "part") part.index part.base

abbrev pub part_group : Part → Group
part_group part manner = part_as manner.form manner.places (part_head part) part.named

abbrev pub part_groups : List Part → List Group
part_groups parts = map part_group parts

-- what a section names, by the structures of a table
abbrev pub is_of_slot : Naming → Bool
is_of_slot namings.PciExpress = true
is_of_slot other = false

abbrev pub IsNamed : (table : List ℕ) → Naming → (body : List ℕ) → Named → Type 0
IsNamed table naming body (nameds.Memory one card) = (is_of_slot naming ≡ false) × IsModule table naming body one × IsCard table naming body card
IsNamed table naming body (nameds.Slot slot) = (is_of_slot naming ≡ true) × IsSlot table naming body slot

-- the part that a section of this index names, whose body begins there; a section of another type names none
abbrev pub ArePartsBy : Option Naming → (table body : List ℕ) → (index base : ℕ) → List Part → Type 0
ArePartsBy None table body index base parts = parts ≡ []
ArePartsBy (Some naming) table body index base parts =
    (part : Part) × (part.index ≡ index) × (part.base ≡ base) × IsNamed table naming body part.named × (parts ≡ part ∷ [])

abbrev pub ArePartsOf : (guid table body : List ℕ) → (index base : ℕ) → List Part → Type 0
ArePartsOf guid table body index base parts =
    ArePartsBy (naming_of (kind_in section_kinds (guid_text guid))) table body index base parts

-- some parts, and more behind them
abbrev pub ArePartsThen : (First More : List Part → Type 0) → List Part → Type 0
ArePartsThen First More parts = (some : List Part) × (more : List Part) × First some × More more × (parts ≡ some ++ more)
