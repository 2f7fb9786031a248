-- The parts of items, in their order from a place on.
use Rattle.std.specs.Prelude.{ℕ, ◌+◌, List, [], ◌∷◌, length, if◌then◌else◌}
use Rattle.erst_entries.specs.declared.entries.Entry.{Entry}
use Rattle.hest_sources.specs.declared.sources.HestSource.{HestSource}
use Rattle.hest_sources.specs.declared.sources.HestSource.TheVariants.{Ghes, Other}
use Rattle.hest_sources.specs.Layout.{size_of, type_of}
use Rattle.cper_frame.specs.Grammar.{SectionValue}
use Rattle.ghes_block.specs.Grammar.{EntryValue, is_stamped, entry_bytes}
use Rattle.item_parts.specs.declared.parts.Part.{Part}

-- an instruction entry
abbrev pub entry_part : ℕ → Entry → Part
entry_part at entry = record { at = at; len = 32; body = 0; body_len = 0; kind = entry.action }

abbrev pub entry_parts : ℕ → List Entry → List Part
entry_parts at [] = []
entry_parts at (entry ∷ entries) = entry_part at entry ∷ entry_parts (at + 32) entries

-- an error source, by its length and its type
abbrev pub size_of_source : HestSource → ℕ
size_of_source (Ghes source) = size_of source.ack
size_of_source (Other kind at len) = len

abbrev pub type_of_source : HestSource → ℕ
type_of_source (Ghes source) = type_of source.ack
type_of_source (Other kind at len) = kind

abbrev pub source_part : ℕ → HestSource → Part
source_part at source = record { at = at; len = size_of_source source; body = 0; body_len = 0; kind = type_of_source source }

abbrev pub source_parts : ℕ → List HestSource → List Part
source_parts at [] = []
source_parts at (source ∷ sources) = source_part at source ∷ source_parts (at + size_of_source source) sources

-- a section: its descriptor, and its body, which stands where the descriptor says
abbrev pub section_part : ℕ → SectionValue → Part
section_part at section = record { at = at; len = 72; body = section.offset; body_len = length section.body; kind = 0 }

abbrev pub section_parts : ℕ → List SectionValue → List Part
section_parts at [] = []
section_parts at (section ∷ sections) = section_part at section ∷ section_parts (at + 72) sections

-- a data entry: its header, which is longer where it has a timestamp, and its data behind the header
abbrev pub header_size : EntryValue → ℕ
header_size entry = if is_stamped entry.head.revision then 72 else 64

abbrev pub data_part : ℕ → EntryValue → Part
data_part at entry = record { at = at; len = header_size entry; body = at + header_size entry; body_len = length entry.body; kind = 0 }

abbrev pub data_parts : ℕ → List EntryValue → List Part
data_parts at [] = []
data_parts at (entry ∷ entries) = data_part at entry ∷ data_parts (at + length (entry_bytes entry)) entries
