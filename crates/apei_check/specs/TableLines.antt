-- The lines of tables: labels, and numbers in decimal digits.
use Rattle.std.specs.Prelude.{ℕ, List, ◌++◌, codes, decimal}
use Rattle.erst_entries.specs.declared.entries.Entry.{Entry}
use Rattle.hest_sources.specs.declared.sources.HestSource.{HestSource}
use Rattle.hest_sources.specs.declared.sources.HestSource.TheVariants.{Ghes as Generic, Other}
use Rattle.hest_sources.specs.Layout.{type_of}

abbrev pub entry_line : ℕ → Entry → List ℕ
entry_line index entry =
    codes "entry " ++ decimal index
    ++ codes " action " ++ decimal entry.action
    ++ codes " instruction " ++ decimal entry.code
    ++ codes " flags " ++ decimal entry.flags
    ++ codes " space " ++ decimal entry.region.space
    ++ codes " width " ++ decimal entry.region.width
    ++ codes " offset " ++ decimal entry.region.offset
    ++ codes " access " ++ decimal entry.region.access
    ++ codes " address " ++ decimal entry.region.address
    ++ codes " value " ++ decimal entry.value
    ++ codes " mask " ++ decimal entry.mask

-- of a generic source more is shown than its type
abbrev pub source_line : ℕ → HestSource → List ℕ
source_line index (Generic source) =
    codes "source " ++ decimal index
    ++ codes " kind " ++ decimal (type_of source.ack)
    ++ codes " id " ++ decimal source.id
    ++ codes " enabled " ++ decimal source.enabled
    ++ codes " block " ++ decimal source.block_len
source_line index (Other kind at len) = codes "source " ++ decimal index ++ codes " kind " ++ decimal kind
