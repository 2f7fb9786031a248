-- Requests to a firmware: its programs, run one after another. `allows` is the relation of the space that they run on, and
-- `entries` are those of the firmware's table.
use Rattle.std.specs.Prelude.{ℕ, List, [], ◌∷◌, Result, Ok, Err}
use Rattle.apei_space.specs.Calls.{Call}
use Rattle.erst_entries.specs.declared.actions.Action.{Action}
use Rattle.erst_entries.specs.declared.entries.Entry.{Entry}
use Rattle.erst_entries.specs.Actions.{code_of}
use Rattle.erst_entries.specs.Programs.{program_of}
use Rattle.erst_interp.specs.declared.stops.RunStop.{RunStop}
use Rattle.erst_interp.specs.Runs.{Run}
use Rattle.erst_client.specs.declared.requests.Request.{Request}

-- the program of an action is run
abbrev pub Performs : {W : Type 0} → (W → Call → W → Type 0) → List Entry → Action → ℕ → ℕ → W → Result ℕ RunStop → ℕ → W → Type 0
Performs allows entries action given budget old answer left new = Run allows (program_of (code_of action) entries) given budget old answer left new

-- requests are made in order, up to the first whose run stops: their answers, or the stop, with the steps that are left and the
-- space afterwards
pub data Asks {W : Type 0} (allows : W → Call → W → Type 0) (entries : List Entry) : List Request → ℕ → W → Result (List ℕ) RunStop → ℕ → W → Type 0 where
  NoneLeft : (budget : ℕ) (old : W) → Asks allows entries [] budget old (Ok []) budget old
  Answered : (request : Request) (rest : List Request) (budget : ℕ) (old : W) (answer left : ℕ) (mid : W) (answers : List ℕ) (after : ℕ) (last : W) →
      Performs allows entries request.action request.given budget old (Ok answer) left mid → Asks allows entries rest left mid (Ok answers) after last →
      Asks allows entries (request ∷ rest) budget old (Ok (answer ∷ answers)) after last
  StopsLater : (request : Request) (rest : List Request) (budget : ℕ) (old : W) (answer left : ℕ) (mid : W) (stop : RunStop) (after : ℕ) (last : W) →
      Performs allows entries request.action request.given budget old (Ok answer) left mid → Asks allows entries rest left mid (Err stop) after last →
      Asks allows entries (request ∷ rest) budget old (Err stop) after last
  StopsHere : (request : Request) (rest : List Request) (budget : ℕ) (old : W) (stop : RunStop) (left : ℕ) (last : W) →
      Performs allows entries request.action request.given budget old (Err stop) left last → Asks allows entries (request ∷ rest) budget old (Err stop) left last

-- the same without the answers
abbrev pub AsksAll : {W : Type 0} → (W → Call → W → Type 0) → List Entry → List Request → ℕ → W → Result (Unit {0}) RunStop → ℕ → W → Type 0
AsksAll allows entries requests budget old (Ok done) left last = (answers : List ℕ) × Asks allows entries requests budget old (Ok answers) left last
AsksAll allows entries requests budget old (Err stop) left last = Asks allows entries requests budget old (Err stop) left last
