-- The records after a prefix of the writes and clears that were carried out.
use Rattle.std.specs.Prelude.{◌≡◌, ◌⊎◌, ℕ, zero, suc, ◌<◌, ◌≤◌, List, [], ◌∷◌, length, take, Option, Some, None, Ok}
use Rattle.base_model.specs.Faults.{Rose}
use Rattle.record_model.specs.Records.{Stored}
use Rattle.record_model.specs.RecordMap.{Command, made_by}
use Rattle.flash_model.specs.declared.geometry.Geometry.{Geometry}
use Rattle.apei_space.specs.Accesses.{Move, Trail}
use Rattle.erst_port.specs.declared.windows.Location.TheVariants.{Action}
use Rattle.erst_port.specs.Places.{location_of}
use Rattle.erst_port.specs.PortState.{PortState, flash_of}
use Rattle.port_laws.specs.Beginnings.{Begins}
use Rattle.port_laws.specs.Calls.{Embedded, Call, Writes, Happens}
use Rattle.port_laws.specs.Commands.{records_of, completed, made_with}

abbrev pub Calls : Type 0
Calls = List (Move Call Embedded)

-- a port that was opened over its medium, and the calls that were made of it
pub record PortRun (origin : ℕ) (geometry : Geometry) : Type 0 where
  pub first : Embedded
  pub calls : Calls
  pub last : Embedded
  pub begins : Begins origin geometry first
  pub happened : Trail Happens first calls last

-- the records after the first n calls
abbrev pub records_after : ℕ → Embedded → Calls → Stored
records_after n now [] = records_of now.port
records_after zero now (move ∷ rest) = records_of now.port
records_after (suc n) now (move ∷ rest) = records_after n move.left rest

-- the command that the call behind the first n completes where the flash fails nothing
abbrev pub completed_next : ℕ → Embedded → Calls → Option Command
completed_next n now [] = None
completed_next zero now (move ∷ rest) = completed now.port move.event
completed_next (suc n) now (move ∷ rest) = completed_next n move.left rest

-- the faults that the flash counted after the first n calls
abbrev pub faults_after : ℕ → Embedded → Calls → ℕ
faults_after n now [] = (flash_of now.port).faults
faults_after zero now (move ∷ rest) = (flash_of now.port).faults
faults_after (suc n) now (move ∷ rest) = faults_after n move.left rest

-- call number n completes its command, or leaves the records as they are: that only where it completes none, or the flash counted a fault
pub record IsHistory (now : Embedded) (calls : Calls) : Type 0 where
  pub each : (n : ℕ) → n < length calls
      → (records_after (suc n) now calls ≡ records_after n now calls)
      ⊎ (records_after (suc n) now calls ≡ made_with (completed_next n now calls) (records_after n now calls))
  pub made : (n : ℕ) → n < length calls → (Rose (faults_after n now calls) (faults_after (suc n) now calls) → ⊥)
      → records_after (suc n) now calls ≡ made_with (completed_next n now calls) (records_after n now calls)

-- ACTION took a code. A status is told by such a call
abbrev pub TakesCode : PortState → Call → Type 0
TakesCode port (Writes window offset width value answer) = (location_of window (length port.range) offset width ≡ Action) × (answer ≡ Ok tt)
TakesCode port call = ⊥

-- call number n is one for which ACTION took a code
abbrev pub IsTaken : ℕ → Embedded → Calls → Type 0
IsTaken n now [] = ⊥
IsTaken zero now (move ∷ rest) = TakesCode now.port move.event
IsTaken (suc n) now (move ∷ rest) = IsTaken n move.left rest

-- the records are those after a first part of the calls; or the command of the call behind it is with them. All calls are in that part
-- that stand before one for which ACTION took a code
pub record ShowsPrefix (now : Embedded) (calls : Calls) (shown : Stored) : Type 0 where
  pub count : ℕ
  pub within : count ≤ length calls
  pub settled : (n : ℕ) → IsTaken n now calls → n ≤ count
  pub shown_are : (shown ≡ records_after count now calls) ⊎ (shown ≡ made_with (completed_next count now calls) (records_after count now calls))

-- the flash counted no fault in any call. It counts one only where no further change can be counted
abbrev pub CountsNoFault : Embedded → Calls → Type 0
CountsNoFault now calls = (n : ℕ) → n < length calls → Rose (faults_after n now calls) (faults_after (suc n) now calls) → ⊥

abbrev pub and_then : Option Command → List Command → List Command
and_then (Some command) rest = command ∷ rest
and_then None rest = rest

-- the commands that the first n calls complete
abbrev pub commands_in : ℕ → Embedded → Calls → List Command
commands_in n now [] = []
commands_in zero now (move ∷ rest) = []
commands_in (suc n) now (move ∷ rest) = and_then (completed now.port move.event) (commands_in n move.left rest)

-- the records that commands leave, one after another
abbrev pub played : List Command → Stored → Stored
played [] stored = stored
played (command ∷ rest) stored = played rest (made_by command stored)

-- the records are those that the first of the commands leave. Each is among them that was completed before a call for which ACTION took a code
pub record ShowsFirst (now : Embedded) (calls : Calls) (shown : Stored) : Type 0 where
  pub count : ℕ
  pub within : count ≤ length (commands_in (length calls) now calls)
  pub settled : (n : ℕ) → IsTaken n now calls → length (commands_in n now calls) ≤ count
  pub shown_are : shown ≡ played (take count (commands_in (length calls) now calls)) (records_of now.port)
