-- A command over any space, stage by stage: `allows` relates the space before a call, the call with its answer, and the space after
-- it.
use Rattle.std.specs.Prelude.{◌≡◌, ℕ, List, ◌∷◌, Option, Some, None, Result, Ok}
use Rattle.apei_space.specs.Calls.{Call, Wait}
use Rattle.erst_entries.specs.declared.entries.Entry.{Entry}
use Rattle.erst_interp.specs.declared.stops.RunStop.{RunStop}
use Rattle.erst_client.specs.declared.requests.Request.{Request}
use Rattle.erst_client.specs.declared.stages.Command.{Command}
use Rattle.erst_client.specs.declared.stages.Part.{Part}
use Rattle.erst_client.specs.declared.stages.Stage.{Stage}
use Rattle.erst_client.specs.declared.stages.Stage.TheVariants.{Requesting, Checking, Waiting, Judging, Ending, Done}
use Rattle.erst_client.specs.Requests.{Performs, AsksAll}
use Rattle.erst_client.specs.Sequences.{Waits, UntilStatus, Sequence}
use Rattle.erst_client.specs.Waiting.{IsWaiting}
use Rattle.erst_client.specs.Stages.{request_of, rest_of, requests_of}

-- the steps of a stage's run, of those that the command has: END_OPERATION has 64 of its own
abbrev pub steps_for : Stage → ℕ → ℕ
steps_for (Ending outcome) left = 64
steps_for stage left = left

-- those that the command has after it, of those before and of those that the run left
abbrev pub steps_after : Stage → ℕ → ℕ → ℕ
steps_after (Ending outcome) before after = before
steps_after stage before after = after

-- the run of a stage
pub record Runs {W : Type 0} (allows : W → Call → W → Type 0) (entries : List Entry) (stage : Stage) (request : Request) (before : ℕ) (from : W)
    (answer : Result ℕ RunStop) (left : ℕ) (now : W) : Type 0 where
  pub after : ℕ
  pub left_is : left ≡ steps_after stage before after
  pub performs : Performs allows entries request.action request.given (steps_for stage before) from answer after now

-- the client waits before it asks again whether the firmware is busy; one that knows no timings does not
abbrev pub Passes : {W : Type 0} → (W → Call → W → Type 0) → Option (ℕ × ℕ) → W → W → Type 0
Passes allows None now last = last ≡ now
Passes allows (Some known) now last = allows now (Wait 10) last

-- before a request: whatever the rest of them come to, all come to
pub record IsRequesting {W : Type 0} (allows : W → Call → W → Type 0) (entries : List Entry) (command : Command) (budget : ℕ) (first : W) (part : Part) (left : ℕ) (now : W) : Type 0 where
  pub all : (result : Result (Unit {0}) RunStop) (after : ℕ) (last : W) → AsksAll allows entries (request_of command part ∷ rest_of command part) left now result after last →
      AsksAll allows entries (requests_of command) budget first result after last

-- the requests were made, and left these steps
pub record HasAsked {W : Type 0} (allows : W → Call → W → Type 0) (entries : List Entry) (command : Command) (budget : ℕ) (first : W) : Type 0 where
  pub left : ℕ
  pub mid : W
  pub asks : AsksAll allows entries (requests_of command) budget first (Ok tt) left mid

-- a command that began in `first` with `budget` steps has come to a stage with these steps left
abbrev pub Reached : {W : Type 0} → (W → Call → W → Type 0) → List Entry → Command → Option (ℕ × ℕ) → ℕ → W → Stage → ℕ → W → Type 0
Reached allows entries command timings budget first (Requesting part) left now = IsRequesting allows entries command budget first part left now
Reached allows entries command timings budget first (Checking waited) left now =
    (made : HasAsked allows entries command budget first) × IsWaiting allows entries timings made.left made.mid waited left now
Reached {W = W} allows entries command timings budget first (Waiting longer) left now =
    (made : HasAsked allows entries command budget first) × ((last : W) → Passes allows timings now last → IsWaiting allows entries timings made.left made.mid longer left last)
Reached allows entries command timings budget first Judging left now =
    (made : HasAsked allows entries command budget first) × Waits allows entries timings made.left made.mid (Ok tt) left now
Reached allows entries command timings budget first (Ending outcome) left now = UntilStatus allows entries timings (requests_of command) budget first outcome left now
Reached allows entries command timings budget first (Done result) left now = Sequence allows entries timings (requests_of command) budget first result left now
