-- A request that makes no access itself, and what its answer says.
use Rattle.std.specs.Prelude.{◌≡◌, ℕ, ◌-◌, ◌^◌, ◌==◌, if◌then◌else◌, List, Option, Some, None, Result, Ok, Err}
use Rattle.apei_space.specs.declared.faults.SpaceFault.{SpaceFault}
use Rattle.apei_space.specs.Calls.{Call}
use Rattle.erst_entries.specs.declared.actions.Action.{Action}
use Rattle.erst_entries.specs.declared.entries.Entry.{Entry}
use Rattle.erst_entries.specs.Actions.{code_of}
use Rattle.erst_entries.specs.Programs.{program_of}
use Rattle.erst_interp.specs.declared.stops.RunStop.{RunStop}
use Rattle.erst_interp.specs.Told.{first_state, demanded, answered, Comes, Stands}
use Rattle.erst_client.specs.declared.asking.Asking.{Asking}
use Rattle.erst_client.specs.declared.errors.ClientError.{ClientError}
use Rattle.erst_client.specs.declared.errors.ClientError.TheVariants.{Hardware, Stopped}
use Rattle.erst_client.specs.Positions.{MadeBy}

abbrev pub asking_first : List Entry → Action → ℕ → Asking
asking_first entries action steps = record { action = action; state = first_state (program_of (code_of action) entries); left = steps }

abbrev pub asking_answered : Asking → Result ℕ SpaceFault → Asking
asking_answered at answer = record { action = at.action; state = (answered at.state at.left answer).0; left = (answered at.state at.left answer).1 }

-- what it does without an access
abbrev pub AskingMoves : List Entry → Asking → Asking → Type 0
AskingMoves entries old at = (at.action ≡ old.action) × Comes (program_of (code_of old.action) entries) 0 old.state old.left at.state at.left

-- the run of this action's program over the space, which began in `first`, stands here
abbrev pub AskingStands : {W : Type 0} → (W → Call → W → Type 0) → List Entry → Action → ℕ → W → Asking → W → Type 0
AskingStands allows entries action steps first at now = (at.action ≡ action) × Stands allows (program_of (code_of action) entries) 0 steps first at.state at.left now

-- what the access that it tells, with its answer, does to a space
abbrev pub AskingMade : {W : Type 0} → (W → Call → W → Type 0) → Asking → W → Result ℕ SpaceFault → W → Type 0
AskingMade allows at now answer last = MadeBy allows (demanded at.state) now answer last

-- the answers of GET_RECORD_COUNT and of GET_RECORD_IDENTIFIER
abbrev pub counted : Result ℕ RunStop → Result ℕ ClientError
counted answer = elim answer [ Err stop ↦ Err (Stopped stop) | Ok count ↦ if count == 2 ^ 32 - 1 then Err Hardware else Ok count ]

abbrev pub named : Result ℕ RunStop → Result (Option ℕ) ClientError
named answer =
    elim answer [
      | Err stop ↦ Err (Stopped stop)
      | Ok id ↦ if id == 0 then Err Hardware else (if id == 2 ^ 64 - 1 then Ok None else Ok (Some id))
    ]

abbrev pub counted_by : Option (Result ℕ RunStop) → Option (Result ℕ ClientError)
counted_by None = None
counted_by (Some answer) = Some (counted answer)

abbrev pub named_by : Option (Result ℕ RunStop) → Option (Result (Option ℕ) ClientError)
named_by None = None
named_by (Some answer) = Some (named answer)
