-- What the owner of a session owns.
use Rattle.std.specs.Prelude.{Option, Some, None}
use Rattle.std.specs.Coded.{Coded, coded_option}
use base.Fml.{Fml, ftrue}
use denote.RawPtr.{Ptr}
use Rattle.std.specs.Box.Ownership.{box_owns}
use Rattle.std.specs.Global.{Global}
use Rattle.std_heap.specs.contracts.GlobalAllocator.TheImpl.{ghosts}
use Rattle.erst_session.specs.contracts.sessions.Session.{the_row}

-- the memory of the session, or nothing
abbrev pub owns_session : Global → Ptr → Option the_row.Denot → Fml
owns_session alloc at (Some session) = box_owns (ghosts.dealloc_token alloc) the_row at session
owns_session alloc at None = ftrue

abbrev pub session_code : Coded (Option the_row.Denot)
session_code = coded_option the_row.coded
