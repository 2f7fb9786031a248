-- What C's calls do with error sources.
use Rattle.std.specs.Prelude.{◌≡◌, ◌⊎◌, ℕ, ◌<◌, ◌≤◌, ◌==◌, if◌then◌else◌, true, false, List, length, map, Option, Some, None}
use Rattle.base_model.specs.Bytes.{put_at}
use Rattle.apei_tables.specs.declared.registers.Place.{Place}
use Rattle.apei_tables.specs.declared.registers.Place.TheVariants.{Memory as InMemory, Io}
use Rattle.hest_sources.specs.Tables.{IsHest}
use Rattle.ghes_port.specs.declared.errors.OpenError.{OpenError}
use Rattle.ghes_port.specs.declared.errors.SubmitError.{SubmitError}
use Rattle.ghes_port.specs.declared.stages.Unacknowledged.{Unacknowledged}
use Rattle.ghes_port.specs.declared.stages.Unacknowledged.TheVariants.{TellAgain, Forget}
use Rattle.ghes_port.specs.Machine.{Told, Nothing as TellsNothing, Reads, Writes, Notifies, told, after, outcome_at, refusal, submitted, reset}
use Rattle.ghes_port.specs.Setups.{begun, open_fault}
use Rattle.ghes_port.specs.Several.{SourcesState, IsAt, Becomes}
use Rattle.ghes_port.specs.Tables.{stated}
use Rattle.apei_c.specs.declared.status.Status.{Status}
use Rattle.apei_c.specs.declared.status.Status.TheVariants.{Done, Nothing, Short, Memory, Source, SourceType, Choice}
use Rattle.apei_c.specs.declared.source_structs.SourceNumbers.{SourceNumbers}
use Rattle.apei_c.specs.declared.source_structs.GuestAccess.{GuestAccess}
use Rattle.apei_c.specs.SourceStatuses.{status_of_sources, index_told, status_of_submitting, status_of_outcome}
use Rattle.apei_c.specs.SourceSetups.{setups_of, untyped}
use Rattle.apei_c.specs.Buffers.{Fills}

-- the sources of some numbers, before their first access, with the table that states them; nothing else is told
pub record IsOpenedBy (numbers : List SourceNumbers) (s : SourcesState) : Type 0 where
  pub typed : untyped 0 numbers ≡ None
  pub sound : open_fault (setups_of numbers) ≡ None
  pub list : s.list ≡ map begun (setups_of numbers)
  pub table : IsHest (stated (setups_of numbers)) s.table

-- why there are none: a source of another type; else the first reason of the sources; or want of memory
abbrev pub RefusesNumbers : List SourceNumbers → (was : ℕ) → Status → (index : ℕ) → Type 0
RefusesNumbers numbers was status index =
    ((untyped 0 numbers ≡ Some index) × (status ≡ SourceType))
    ⊎ ((error : OpenError) × (untyped 0 numbers ≡ None) × (open_fault (setups_of numbers) ≡ Some error) × (status ≡ status_of_sources error)
    × (index ≡ index_told error was))
    ⊎ ((untyped 0 numbers ≡ None) × (status ≡ Memory) × (index ≡ was))

-- there is no source of this number
abbrev pub HasNoSource : ℕ → SourcesState → Status → Type 0
HasNoSource i s status = (length s.list ≤ i) × (status ≡ Source)

-- a block is taken over, or it is refused and nothing changes
abbrev pub Submits : ℕ → List ℕ → SourcesState → Status → SourcesState → Type 0
Submits i block old status new =
    (HasNoSource i old status × (new ≡ old))
    ⊎ ((status ≡ Done) × IsAt i old.list (λ s. refusal s block ≡ None) × Becomes i old new (λ s. submitted s block))
    ⊎ ((fault : SubmitError) × IsAt i old.list (λ s. refusal s block ≡ Some fault) × (status ≡ status_of_submitting fault) × (new ≡ old))

-- what was told was done, and what was read is this number
abbrev pub GoesOn : ℕ → (value : ℕ) → SourcesState → Status → SourcesState → Type 0
GoesOn i value old status new =
    (HasNoSource i old status × (new ≡ old))
    ⊎ (Becomes i old new (λ s. after s value) × IsAt i old.list (λ s. status ≡ status_of_outcome (outcome_at s.map s.queue s.stage value)))

-- what becomes of the blocks that are not acknowledged, by its number
abbrev pub unacknowledged_of : ℕ → Option Unacknowledged
unacknowledged_of number = if number == 0 then Some TellAgain else (if number == 1 then Some Forget else None)

abbrev pub StartsAgain : ℕ → Option Unacknowledged → SourcesState → Status → SourcesState → Type 0
StartsAgain i None old status new = (status ≡ Choice) × (new ≡ old)
StartsAgain i (Some blocks) old status new = (HasNoSource i old status × (new ≡ old)) ⊎ ((status ≡ Done) × Becomes i old new (λ s. reset blocks s))

-- an access as C sees it: its kind is 0 for a read, 1 for a write and 2 for a notification
abbrev pub access_at : Place → (bytes kind : ℕ) → GuestAccess
access_at (InMemory at) bytes kind = record { address = at; length = bytes; kind = kind; space = 0; reserved = 0 }
access_at (Io at) bytes kind = record { address = at; length = bytes; kind = kind; space = 1; reserved = 0 }

abbrev pub notification : GuestAccess
notification = record { address = 0; length = 0; kind = 2; space = 0; reserved = 0 }

-- what is told to C, with the bytes of a write in a buffer
abbrev pub IsToldAs : Told → (was : GuestAccess) → (before : List ℕ) → Status → (now : GuestAccess) → (behind : List ℕ) → Type 0
IsToldAs TellsNothing was before status now behind = (status ≡ Nothing) × (now ≡ was) × (behind ≡ before)
IsToldAs (Reads place n) was before status now behind = (status ≡ Done) × (now ≡ access_at place n 0) × (behind ≡ before)
IsToldAs (Writes place bytes) was before status now behind =
    (status ≡ Done) × (now ≡ access_at place (length bytes) 1) × (behind ≡ put_at before 0 bytes)
IsToldAs Notifies was before status now behind = (status ≡ Done) × (now ≡ notification) × (behind ≡ before)

-- the next access of a source; a buffer of 64 bytes is never too short
abbrev pub TellsAccess : ℕ → SourcesState → (was : GuestAccess) → (before : List ℕ) → Status → (now : GuestAccess) → (behind : List ℕ) → Type 0
TellsAccess i s was before status now behind =
    (HasNoSource i s status × (now ≡ was) × (behind ≡ before))
    ⊎ ((i < length s.list) × (length before < 64) × (status ≡ Short) × (now ≡ was) × (behind ≡ before))
    ⊎ IsAt i s.list (λ source. IsToldAs (told source) was before status now behind)

-- the table of the sources, and its size, also where the buffer is too short
abbrev pub TellsHest : SourcesState → (before : List ℕ) → Status → (behind : List ℕ) → (size : ℕ) → Type 0
TellsHest s before status behind size =
    (size ≡ length s.table) × (((status ≡ Done) × Fills s.table before true behind) ⊎ ((status ≡ Short) × Fills s.table before false behind))
