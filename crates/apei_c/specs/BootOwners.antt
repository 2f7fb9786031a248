-- What the owner of a boot error region owns.
use Rattle.std.specs.Prelude.{Option, Some, None}
use Rattle.std.specs.Coded.{Coded, coded_option}
use base.Fml.{Fml, ftrue}
use denote.RawPtr.{Ptr}
use Rattle.std.specs.Box.Ownership.{box_owns}
use Rattle.std.specs.Global.{Global}
use Rattle.std_heap.specs.contracts.GlobalAllocator.TheImpl.{ghosts}
use Rattle.ghes_port.specs.contracts.boot.BootRegion.{the_row}

-- the memory of the region, or nothing
abbrev pub owns_region : Global → Ptr → Option the_row.Denot → Fml
owns_region alloc at (Some region) = box_owns (ghosts.dealloc_token alloc) the_row at region
owns_region alloc at None = ftrue

abbrev pub region_code : Coded (Option the_row.Denot)
region_code = coded_option the_row.coded
