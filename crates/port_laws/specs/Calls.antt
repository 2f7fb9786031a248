-- A caller's calls of a port, and what each leaves of the port and of the medium that the caller keeps for it.
use Rattle.std.specs.Prelude.{◌≡◌, ℕ, ◌<◌, ◌≤◌, List, length, drop, slice_get, Some, Result, Ok}
use Rattle.base_model.specs.Bytes.{SameOutside, put_at}
use Rattle.base_model.specs.Flash.{Change}
use Rattle.apei_tables.specs.declared.widths.Width.{Width}
use Rattle.erst_port.specs.declared.due.Kind.{Kind}
use Rattle.erst_port.specs.declared.errors.BadAddresses.{BadAddresses}
use Rattle.erst_port.specs.declared.errors.PortError.{PortError}
use Rattle.erst_port.specs.declared.windows.Addresses.{Addresses}
use Rattle.erst_port.specs.declared.windows.Window.{Window}
use Rattle.erst_port.specs.Places.{range_location, location_of}
use Rattle.erst_port.specs.Parts.{held}
use Rattle.erst_port.specs.PortState.{PortState, flash_of}
use Rattle.erst_port.specs.Accesses.{NumberWritten, bytes_stored, Resets}
use Rattle.erst_port.specs.Changes.{IsDueOn, NotesMade}
use Rattle.erst_port.specs.Moves.{Moves}

-- a port, and the bytes of its medium
pub record Embedded : Type 0 where
  pub port : PortState
  pub medium : List ℕ

-- a call, with its answer: a write of a number, one of bytes of the log range, and a restart; other addresses; one that only tells something;
-- and the caller's own change of the medium: the bytes of a part at its place, which it then says are there
pub data Call : Type 0 where
  Writes : (window : Window) (offset : ℕ) (width : Width) (value : ℕ) (answer : Result (Unit {0}) PortError) → Call
  Puts : (offset : ℕ) (bytes : List ℕ) (answer : Result (Unit {0}) PortError) → Call
  Restarts : (answer : Result (Unit {0}) PortError) → Call
  MovesTo : (addresses : Addresses) (answer : Result (Unit {0}) BadAddresses) → Call
  Looks : Call
  Makes : (kind : Kind) (at : ℕ) (bytes : List ℕ) → Call

-- a port before a call and after it
abbrev pub Does : PortState → Call → PortState → Type 0
Does old (Writes window offset width value answer) new = NumberWritten (location_of window (length old.range) offset width) old width value answer new
Does old (Puts offset bytes answer) new =
    (answer ≡ (bytes_stored (range_location (length old.range) offset (length bytes)) old bytes).0)
    × (new ≡ (bytes_stored (range_location (length old.range) offset (length bytes)) old bytes).1)
Does old (Restarts answer) new = Resets old answer new
Does old (MovesTo addresses answer) new = Moves old addresses answer new
Does old Looks new = new ≡ old
Does old (Makes kind at bytes) new = IsDueOn old kind at bytes × NotesMade old (Ok tt) new

-- the medium after a call: nothing but the caller's own change alters it
abbrev pub medium_after : Call → List ℕ → List ℕ
medium_after (Makes kind at bytes) medium = put_at medium at bytes
medium_after call medium = medium

-- each change so far is told, as Port::changes_are_counted says of every port
abbrev pub IsCounted : PortState → Type 0
IsCounted port = length (flash_of port).told.past ≡ (flash_of port).steps

-- a port beside its medium, before a call and after it
pub record Happens (old : Embedded) (call : Call) (new : Embedded) : Type 0 where
  pub counted : IsCounted old.port
  pub does : Does old.port call new.port
  pub medium : new.medium ≡ medium_after call old.medium

-- the flash behind the first bytes of the medium holds what the port's flash held after so many changes as the medium made, with the bytes of the
-- next one that the medium made. Where there are such, it differs from what it was before that change in the range of the change alone
pub record IsInStep (now : Embedded) : Type 0 where
  pub behind : now.port.made.changes ≤ length (flash_of now.port).told.past
  pub begun : 0 < now.port.made.bytes
      → (change : Change) × (slice_get (flash_of now.port).told.past now.port.made.changes ≡ Some change) × SameOutside change.at change.len change.before (drop now.port.origin now.medium)
  pub room : now.port.origin ≤ length now.medium
  pub image : drop now.port.origin now.medium ≡ held (flash_of now.port).told now.port.made
