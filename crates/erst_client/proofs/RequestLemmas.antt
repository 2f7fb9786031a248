-- Requests one after another, and the accesses that they are.
use Rattle.std.proofs.Common.{ℕ, List, ◌∷◌, Result, Ok, Err}
use Rattle.apei_space.specs.Calls.{Call}
use Rattle.apei_space.specs.Accesses.{Reaches}
use Rattle.apei_space.proofs.AccessLemmas.{reaches_then}
use Rattle.erst_entries.specs.declared.actions.Action.{Action}
use Rattle.erst_entries.specs.declared.entries.Entry.{Entry}
use Rattle.erst_entries.specs.Actions.{code_of}
use Rattle.erst_entries.specs.Programs.{program_of}
use Rattle.erst_interp.specs.declared.stops.RunStop.{RunStop}
use Rattle.erst_interp.proofs.Consequences.{run_reaches}
use Rattle.erst_client.specs.declared.requests.Request.{Request}
use Rattle.erst_client.specs.Requests.{Performs, Asks, NoneLeft, Answered, StopsLater, StopsHere, AsksAll}

-- one run more is reached
pub performs_on : {W : Type 0} (allows : W → Call → W → Type 0) (entries : List Entry) (first : W) (action : Action) (given budget : ℕ) (mid : W) (answer : Result ℕ RunStop) (left : ℕ) (last : W) →
    Reaches allows first mid → Performs allows entries action given budget mid answer left last → Reaches allows first last
performs_on allows entries first action given budget mid answer left last so run =
    reaches_then allows first mid last so (run_reaches allows (program_of (code_of action) entries) given budget mid answer left last run)

-- and so are requests
pub asks_on : {W : Type 0} (allows : W → Call → W → Type 0) (entries : List Entry) (first : W) (requests : List Request) (budget : ℕ) (mid : W)
    (answers : Result (List ℕ) RunStop) (left : ℕ) (last : W) →
    Reaches allows first mid → Asks allows entries requests budget mid answers left last → Reaches allows first last
asks_on allows entries first requests budget mid answers left last so (NoneLeft b old) = so
asks_on allows entries first requests budget mid answers left last so (Answered request rest b old answer asked next more after end run asks) =
    asks_on allows entries first rest asked next (Ok more) after end (performs_on allows entries first request.action request.given b old (Ok answer) asked next so run) asks
asks_on allows entries first requests budget mid answers left last so (StopsLater request rest b old answer asked next stop after end run asks) =
    asks_on allows entries first rest asked next (Err stop) after end (performs_on allows entries first request.action request.given b old (Ok answer) asked next so run) asks
asks_on allows entries first requests budget mid answers left last so (StopsHere request rest b old stop after end run) =
    performs_on allows entries first request.action request.given b old (Err stop) after end so run

-- a request before others
pub asks_first : {W : Type 0} (allows : W → Call → W → Type 0) (entries : List Entry) (request : Request) (rest : List Request) (budget : ℕ) (old : W) (answer left : ℕ) (mid : W)
    (result : Result (Unit {0}) RunStop) (after : ℕ) (last : W) →
    Performs allows entries request.action request.given budget old (Ok answer) left mid → AsksAll allows entries rest left mid result after last →
    AsksAll allows entries (request ∷ rest) budget old result after last
asks_first allows entries request rest budget old answer left mid (Ok done) after last run (answers, more) =
    (answer ∷ answers, Answered request rest budget old answer left mid answers after last run more)
asks_first allows entries request rest budget old answer left mid (Err stop) after last run more = StopsLater request rest budget old answer left mid stop after last run more
