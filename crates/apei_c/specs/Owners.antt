-- What the owner of a port owns.
use Rattle.std.specs.Prelude.{Option, Some, None}
use Rattle.std.specs.Coded.{Coded, coded_option}
use base.Fml.{Fml, ftrue}
use denote.RawPtr.{Ptr}
use Rattle.std.specs.Box.Ownership.{box_owns}
use Rattle.std.specs.Global.{Global}
use Rattle.std_heap.specs.contracts.GlobalAllocator.TheImpl.{ghosts}
use Rattle.erst_port.specs.contracts.port.Port.{the_row}

-- the memory of the port, or nothing
abbrev pub owns_port : Global → Ptr → Option the_row.Denot → Fml
owns_port alloc at (Some port) = box_owns (ghosts.dealloc_token alloc) the_row at port
owns_port alloc at None = ftrue

abbrev pub port_code : Coded (Option the_row.Denot)
port_code = coded_option the_row.coded
