-- A command that makes no access itself: where it begins, what it does without an access, which access it tells, and how it goes
-- on once that was answered.
use Rattle.std.specs.Prelude.{◌≡◌, ℕ, ◌&&◌, Bool, true, false, List, Option, Some, None, Result, Ok}
use Rattle.apei_space.specs.declared.faults.SpaceFault.{SpaceFault}
use Rattle.apei_space.specs.Calls.{Call}
use Rattle.erst_entries.specs.declared.entries.Entry.{Entry}
use Rattle.erst_entries.specs.Actions.{code_of}
use Rattle.erst_entries.specs.Programs.{Listed, program_of}
use Rattle.erst_interp.specs.declared.demands.Demand.{Demand}
use Rattle.erst_interp.specs.declared.demands.Demand.TheVariants.{Pause}
use Rattle.erst_interp.specs.declared.states.RunState.{RunState}
use Rattle.erst_interp.specs.declared.states.RunState.TheVariants.{Awaiting, Ended}
use Rattle.erst_interp.specs.declared.stops.RunStop.{RunStop}
use Rattle.erst_interp.specs.Demands.{call_of}
use Rattle.erst_interp.specs.Told.{first_state, demanded, answered, is_sound_state, Comes, Stands}
use Rattle.erst_client.specs.declared.errors.ClientError.{ClientError}
use Rattle.erst_client.specs.declared.positions.Position.{Position}
use Rattle.erst_client.specs.declared.requests.Request.{Request}
use Rattle.erst_client.specs.declared.stages.Command.{Command}
use Rattle.erst_client.specs.declared.stages.Stage.{Stage}
use Rattle.erst_client.specs.declared.stages.Stage.TheVariants.{Checking, Waiting, Done}
use Rattle.erst_client.specs.Stages.{request_for, turned, is_bounded}
use Rattle.erst_client.specs.Reaching.{steps_for, steps_after, Passes, Reached}

abbrev pub program_for : List Entry → Request → Listed
program_for entries request = program_of (code_of request.action) entries

-- a stage without a program has nothing to run
abbrev pub first_run : List Entry → Option Request → RunState
first_run entries None = Ended (Ok 0)
first_run entries (Some request) = first_state (program_for entries request)

abbrev pub entered : List Entry → Command → Stage → ℕ → Position
entered entries command stage left = record { stage = stage; state = first_run entries (request_for command stage); left = steps_for stage left; kept = left }

-- where the end of a run leads
abbrev pub turned_at : List Entry → Command → Option (ℕ × ℕ) → Position → Result ℕ RunStop → Position
turned_at entries command timings at answer = entered entries command (turned command timings at.stage answer) (steps_after at.stage at.kept at.left)

-- from one run to the next without an access
pub data Moves (entries : List Entry) (command : Command) (timings : Option (ℕ × ℕ)) (first : Position) : Position → Type 0 where
  IsThere : Moves entries command timings first first
  GoesOn : (at : Position) (request : Request) (state : RunState) (left : ℕ) → Moves entries command timings first at → request_for command at.stage ≡ Some request →
      Comes (program_for entries request) request.given at.state at.left state left → Moves entries command timings first (record { stage = at.stage; state = state; left = left; kept = at.kept })
  Turns : (at : Position) (request : Request) (answer : Result ℕ RunStop) → Moves entries command timings first at → request_for command at.stage ≡ Some request → at.state ≡ Ended answer →
      Moves entries command timings first (turned_at entries command timings at answer)

-- a client that knows no timings waits no time
abbrev pub pause : Option (ℕ × ℕ) → Demand
pause None = Pause 0
pause (Some known) = Pause 10

abbrev pub demanded_in : Option (ℕ × ℕ) → Stage → RunState → Option Demand
demanded_in timings (Waiting longer) state = Some (pause timings)
demanded_in timings (Done result) state = None
demanded_in timings stage state = demanded state

abbrev pub demanded_at : Option (ℕ × ℕ) → Position → Option Demand
demanded_at timings at = demanded_in timings at.stage at.state

abbrev pub answered_in : List Entry → Command → Stage → RunState → ℕ → ℕ → Result ℕ SpaceFault → Position
answered_in entries command (Waiting longer) state left kept answer = entered entries command (Checking longer) kept
answered_in entries command stage state left kept answer = record { stage = stage; state = (answered state left answer).0; left = (answered state left answer).1; kept = kept }

abbrev pub answered_at : List Entry → Command → Position → Result ℕ SpaceFault → Position
answered_at entries command at answer = answered_in entries command at.stage at.state at.left at.kept answer

abbrev pub result_at : Stage → Option (Result (Unit {0}) ClientError)
result_at (Done result) = Some result
result_at stage = None

abbrev pub is_sound_at : Position → Bool
is_sound_at at = is_bounded at.stage && is_sound_state at.state

-- it can't go on without an access
abbrev pub is_settled_at : Stage → RunState → Bool
is_settled_at (Waiting longer) state = true
is_settled_at (Done result) state = true
is_settled_at stage (Awaiting task awaited) = true
is_settled_at stage state = false

-- what the access that it tells, and its answer, do to a space: where a client without timings waits, nothing
abbrev pub MadeBy : {W : Type 0} → (W → Call → W → Type 0) → Option Demand → W → Result ℕ SpaceFault → W → Type 0
MadeBy allows None now answer last = ⊥
MadeBy allows (Some demand) now answer last = allows now (call_of demand answer) last

abbrev pub MadeIn : {W : Type 0} → (W → Call → W → Type 0) → Option (ℕ × ℕ) → Stage → RunState → W → Result ℕ SpaceFault → W → Type 0
MadeIn allows timings (Waiting longer) state now answer last = Passes allows timings now last
MadeIn allows timings stage state now answer last = MadeBy allows (demanded_in timings stage state) now answer last

abbrev pub MadeAt : {W : Type 0} → (W → Call → W → Type 0) → Option (ℕ × ℕ) → Position → W → Result ℕ SpaceFault → W → Type 0
MadeAt allows timings at now answer last = MadeIn allows timings at.stage at.state now answer last

-- the run of a stage, which began in `from`, stands here
pub record IsRunning {W : Type 0} (allows : W → Call → W → Type 0) (entries : List Entry) (command : Command) (timings : Option (ℕ × ℕ)) (budget : ℕ)
    (first : W) (request : Request) (stage : Stage) (state : RunState)
    (left kept : ℕ) (now : W) : Type 0 where
  pub from : W
  pub reached : Reached allows entries command timings budget first stage kept from
  pub stands : Stands allows (program_for entries request) request.given (steps_for stage kept) from state left now

abbrev pub StandsBy : {W : Type 0} → (W → Call → W → Type 0) → List Entry → Command → Option (ℕ × ℕ) → ℕ → W → Option Request → Stage → RunState → ℕ → ℕ → W → Type 0
StandsBy allows entries command timings budget first None stage state left kept now = Reached allows entries command timings budget first stage kept now
StandsBy allows entries command timings budget first (Some request) stage state left kept now = IsRunning allows entries command timings budget first request stage state left kept now

-- a command over the space, which began in `first` with `budget` steps, stands here
abbrev pub StandsAt : {W : Type 0} → (W → Call → W → Type 0) → List Entry → Command → Option (ℕ × ℕ) → ℕ → W → Position → W → Type 0
StandsAt allows entries command timings budget first at now =
    StandsBy allows entries command timings budget first (request_for command at.stage) at.stage at.state at.left at.kept now
