-- What the owner of error sources owns.
use Rattle.std.specs.Prelude.{Option, Some, None}
use Rattle.std.specs.Coded.{Coded, coded_option}
use base.Fml.{Fml, ftrue}
use denote.RawPtr.{Ptr}
use Rattle.std.specs.Box.Ownership.{box_owns}
use Rattle.std.specs.Global.{Global}
use Rattle.std_heap.specs.contracts.GlobalAllocator.TheImpl.{ghosts}
use Rattle.ghes_port.specs.contracts.sources.Sources.{the_row}

-- the memory of the sources, or nothing
abbrev pub owns_sources : Global → Ptr → Option the_row.Denot → Fml
owns_sources alloc at (Some sources) = box_owns (ghosts.dealloc_token alloc) the_row at sources
owns_sources alloc at None = ftrue

abbrev pub sources_code : Coded (Option the_row.Denot)
sources_code = coded_option the_row.coded
