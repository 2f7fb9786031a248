-- What C's calls do with a port.
use Rattle.std.specs.Prelude.{◌≡◌, ◌⊎◌, ℕ, ◌+◌, ◌-◌, ◌^◌, ◌<◌, ◌≤◌, Bool, true, false, List, length, Option, Some, None, Result, Ok, Err, MatchResult}
use Rattle.base_model.specs.Bytes.{part}
use Rattle.apei_tables.specs.declared.widths.Width.{Width}
use Rattle.erst_port.specs.declared.due.Kind.{Kind}
use Rattle.erst_port.specs.declared.due.Kind.TheVariants.{Program, Erase}
use Rattle.erst_port.specs.declared.windows.Window.{Window}
use Rattle.erst_port.specs.declared.errors.PortError.{PortError}
use Rattle.erst_port.specs.PortState.{PortState, flash_of, IsMade}
use Rattle.erst_entries.specs.Layout.{spelling}
use Rattle.erst_port.specs.declared.windows.Addresses.{Addresses as AnyAddresses}
use Rattle.erst_port.specs.Places.{location_of, range_location, are_apart}
use Rattle.erst_port.specs.PortTables.{port_erst}
use Rattle.erst_port.specs.Accesses.{number_read, NumberWritten, bytes_read, bytes_stored, Resets}
use Rattle.erst_port.specs.Changes.{IsDueOn, noted}
use Rattle.apei_c.specs.declared.status.Status.{Status}
use Rattle.apei_c.specs.declared.status.Status.TheVariants.{Done, Window as NoWindow, Access, Nothing, Short, Addresses}
use Rattle.apei_c.specs.Buffers.{Fills, ToldChange, told_change}
use Rattle.apei_c.specs.Statuses.{status_of_error, status_of_access}

-- an access to a number: its window, its width, and where it is in the window
pub record NumberAccess : Type 0 where
  pub window : Window
  pub width : Width
  pub offset : ℕ

-- the access, or the status where the caller's numbers name no window or no width
abbrev pub access_of : Option Window → Option Width → (offset : ℕ) → Result NumberAccess Status
access_of None width offset = Err NoWindow
access_of (Some window) None offset = Err Access
access_of (Some window) (Some width) offset = Ok (record { window = window; width = width; offset = offset })

-- a read of a number, which takes the place of the one before where it is done
abbrev pub ReadsNumber : Result NumberAccess Status → PortState → (before : ℕ) → Status → (after : ℕ) → Type 0
ReadsNumber (Err refusal) port before status after = (status ≡ refusal) × (after ≡ before)
ReadsNumber (Ok access) port before status after =
    MatchResult (number_read (location_of access.window (length port.range) access.offset access.width) port access.width)
    (λ number. (status ≡ Done) × (after ≡ number)) (λ error. (status ≡ status_of_error error) × (after ≡ before))

abbrev pub WritesNumber : Result NumberAccess Status → (value : ℕ) → PortState → Status → PortState → Type 0
WritesNumber (Err refusal) value old status new = (status ≡ refusal) × (new ≡ old)
WritesNumber (Ok access) value old status new =
    (answer : Result (Unit {0}) PortError) × (status ≡ status_of_access answer)
    × NumberWritten (location_of access.window (length old.range) access.offset access.width) old access.width value answer new

abbrev pub GetsBytes : (offset : ℕ) → (before : List ℕ) → PortState → Status → (after : List ℕ) → Type 0
GetsBytes offset before port status after =
    let outcome = bytes_read (range_location (length port.range) offset (length before)) port before in
    (status ≡ status_of_access outcome.0) × (after ≡ outcome.1)

abbrev pub PutsBytes : (offset : ℕ) → (bytes : List ℕ) → PortState → Status → PortState → Type 0
PutsBytes offset bytes old status new =
    let outcome = bytes_stored (range_location (length old.range) offset (length bytes)) old bytes in
    (status ≡ status_of_access outcome.0) × (new ≡ outcome.1)

abbrev pub Restarts : PortState → Status → PortState → Type 0
Restarts old status new = (answer : Result (Unit {0}) PortError) × (status ≡ status_of_access answer) × Resets old answer new

-- the number of a change's kind; its bytes are handed out where it is a program
abbrev pub number_of_kind : Kind → ℕ
number_of_kind Program = 0
number_of_kind Erase = 1

abbrev pub HandsDue : Kind → (bytes before : List ℕ) → (has_room : Bool) → (after : List ℕ) → Type 0
HandsDue Program bytes before has_room after = Fills bytes before has_room after
HandsDue Erase bytes before has_room after = (has_room ≡ true) × (after ≡ before)

-- the part of a change that is due is told, by its place in the medium; or none is due; or the buffer has no room for its bytes, as no buffer of
-- 256 lacks it; or it has 2^32 of them, which no geometry has
pub data TellsChange (port : PortState) (old : ToldChange) : Status → ToldChange → Type 0 where
  IsTold : (kind : Kind) (at : ℕ) (bytes after : List ℕ) → IsDueOn port kind at bytes → HandsDue kind bytes old.bytes true after
      → TellsChange port old Done (told_change (record { offset = at; length = length bytes; kind = number_of_kind kind }) after)
  NoChange : IsMade port → TellsChange port old Nothing old
  NoRoom : (kind : Kind) (at : ℕ) (bytes after : List ℕ) → IsDueOn port kind at bytes → HandsDue kind bytes old.bytes false after → length old.bytes < 256
      → TellsChange port old Short (told_change old.change after)
  TooLong : (kind : Kind) (at : ℕ) (bytes : List ℕ) → IsDueOn port kind at bytes → 2 ^ 32 ≤ length bytes → TellsChange port old Short old

-- the part that was due was made
abbrev pub MakesChange : PortState → Status → PortState → Type 0
MakesChange old status new =
    ((status ≡ Nothing) × IsMade old × (new ≡ old)) ⊎ ((status ≡ Done) × (IsMade old → ⊥) × (new ≡ noted old))

-- the table, and its size, also where the buffer is too short
abbrev pub TellsTable : (before : List ℕ) → PortState → Status → (after : List ℕ) → (size : ℕ) → Type 0
TellsTable before port status after size =
    (size ≡ length port.table) × (((status ≡ Done) × Fills port.table before true after) ⊎ ((status ≡ Short) × Fills port.table before false after))

abbrev pub TellsRangeSize : PortState → Status → (size : ℕ) → Type 0
TellsRangeSize port status size = (status ≡ Done) × (size ≡ length port.range)

-- bytes of the flash by their places in the medium
abbrev pub TellsImage : (offset : ℕ) → (before : List ℕ) → PortState → Status → (after : List ℕ) → Type 0
TellsImage offset before port status after =
    ((status ≡ Done) × (port.origin ≤ offset) × (offset + length before ≤ port.origin + length (flash_of port).told.image)
    × (after ≡ part (flash_of port).told.image (offset - port.origin) (length before)))
    ⊎ ((status ≡ Access) × ((port.origin ≤ offset → offset + length before ≤ port.origin + length (flash_of port).told.image → ⊥)) × (after ≡ before))

-- the windows are moved, and the table says so, unless they would overlap or not end below 2^64
abbrev pub MovesTo : AnyAddresses → PortState → Status → PortState → Type 0
MovesTo places old status new =
    ((status ≡ Addresses) × (are_apart (length old.range) places ≡ false) × (new ≡ old))
    ⊎ ((status ≡ Done) × (are_apart (length old.range) places ≡ true) × (new ≡ record old { addresses = places; table = spelling (port_erst places.registers) }))
