-- What the run of a stage leads to, and that the stages come to an end.
use Rattle.std.proofs.Common.{◌≡◌, ℕ, ◌+◌, ◌*◌, ◌<◌, ◌≤◌, ◌==◌, if◌then◌else◌, nat_le, Bool, true, false, List, [], ◌∷◌, Option, Some, None, Result, Ok, Err, refl, sym, subst, arith}
use Rattle.std.proofs.lemmas.Bool.Decides.{nat_tests}
use Rattle.std.proofs.lemmas.Option.{none-some, same_Some}
use Rattle.apei_space.specs.Calls.{Call}
use Rattle.erst_entries.specs.declared.actions.Action.TheVariants.{CheckBusyStatus, GetCommandStatus, EndOperation}
use Rattle.erst_entries.specs.declared.entries.Entry.{Entry}
use Rattle.erst_entries.specs.Actions.{code_of}
use Rattle.erst_entries.specs.Programs.{program_of}
use Rattle.erst_interp.specs.declared.stops.RunStop.{RunStop}
use Rattle.erst_interp.proofs.Consequences.{run_spends, run_spends_some}
use Rattle.erst_client.specs.declared.errors.ClientError.{ClientError}
use Rattle.erst_client.specs.declared.errors.ClientError.TheVariants.{Stopped, Late}
use Rattle.erst_client.specs.declared.requests.Request.{Request}
use Rattle.erst_client.specs.declared.stages.Command.{Command}
use Rattle.erst_client.specs.declared.stages.Command.TheVariants.{Write, Read, Clear, Dummy}
use Rattle.erst_client.specs.declared.stages.Part.{Part}
use Rattle.erst_client.specs.declared.stages.Part.TheVariants.{Begin, Offset, Identifier, Execute}
use Rattle.erst_client.specs.declared.stages.Stage.{Stage}
use Rattle.erst_client.specs.declared.stages.Stage.TheVariants.{Requesting, Checking, Waiting, Judging, Ending, Done}
use Rattle.erst_client.specs.Requests.{Performs, NoneLeft, StopsHere, AsksAll}
use Rattle.erst_client.specs.Sequences.{IsIdle, IsStopped, NotAsked, NotWaited, NotTold, IsTold}
use Rattle.erst_client.specs.Waiting.{NoPause, Pause, NoTime, IsWaiting}
use Rattle.erst_client.specs.Stages.{request_of, request_for, next_part, rest_of, requests_of, asked, busy, turned}
use Rattle.erst_client.specs.Reaching.{steps_for, steps_after, Runs, Passes, IsRequesting, Reached}
use Rattle.erst_client.proofs.RequestLemmas.{asks_first}
use Rattle.erst_client.proofs.SequenceLemmas.{waiting-start, waiting-on, waiting-late}

is_zero : (n : ℕ) → (n == 0) ≡ true → n ≡ 0
is_zero n e = grind (arith, nat_tests)

is_some : (n : ℕ) → (n == 0) ≡ false → n ≡ 0 → ⊥
is_some n e h = grind (arith, nat_tests)

is_most : (n m : ℕ) → nat_le n m ≡ true → n ≤ m
is_most n m e = grind (arith, nat_tests)

is_not_most : (n m : ℕ) → nat_le n m ≡ false → m < n
is_not_most n m e = grind (arith, nat_tests)

-- the requests from a part on
requests_from : Command → Option Part → List Request
requests_from command None = []
requests_from command (Some part) = request_of command part ∷ rest_of command part

rest_is : (command : Command) (part : Part) → rest_of command part ≡ requests_from command (next_part command part)
unfolding requests_from
rest_is Write Begin = refl
rest_is (Read id) Begin = refl
rest_is (Clear id) Begin = refl
rest_is Dummy Begin = refl
rest_is Write Offset = refl
rest_is (Read id) Offset = refl
rest_is (Clear id) Offset = refl
rest_is Dummy Offset = refl
rest_is command Identifier = refl
rest_is command Execute = refl

-- a request was answered
requested : {W : Type 0} (allows : W → Call → W → Type 0) (entries : List Entry) (command : Command) (timings : Option (ℕ × ℕ)) (budget : ℕ) (first : W)
    (part : Part) (before : ℕ) (from : W) (number left : ℕ) (now : W)
    (next : Option Part) → rest_of command part ≡ requests_from command next → IsRequesting allows entries command budget first part before from →
    Performs allows entries (request_of command part).action (request_of command part).given before from (Ok number) left now →
    Reached allows entries command timings budget first (asked next) left now
unfolding requests_from
requested allows entries command timings budget first part before from number left now None rest so run =
    let asks : AsksAll allows entries (rest_of command part) left now (Ok tt) left now =
    subst (λ (r : List Request). AsksAll allows entries r left now (Ok tt) left now) (sym rest) ([], NoneLeft left now) in
    let all = so.all (Ok tt) left now (asks_first allows entries (request_of command part) (rest_of command part) before from number left now (Ok tt) left now run asks) in
    (record { left = left; mid = now; asks = all }, waiting-start allows entries timings left now)
requested allows entries command timings budget first part before from number left now (Some next) rest so run =
    record {
      all = λ result after last asks. so.all result after last
          (asks_first allows entries (request_of command part) (rest_of command part) before from number left now result after last run
          (subst (λ (r : List Request). AsksAll allows entries r left now result after last) (sym rest) asks));
    }

-- the firmware is busy
was_busy : {W : Type 0} (allows : W → Call → W → Type 0) (entries : List Entry) (command : Command) (timings : Option (ℕ × ℕ)) (budget : ℕ) (first : W)
    (waited before : ℕ) (from : W) (number left : ℕ) (now : W) →
    Reached allows entries command timings budget first (Checking waited) before from → Performs allows entries CheckBusyStatus 0 before from (Ok number) left now → (number ≡ 0 → ⊥) →
    Reached allows entries command timings budget first (busy timings waited) left now
was_busy {W = W} allows entries command None budget first waited before from number left now so run some = (
  so.0,
  λ last same. subst (λ (w : W). IsWaiting allows entries None so.0.left so.0.mid waited left w) (sym same)
      (waiting-on allows entries None so.0.left so.0.mid waited before from number left now waited now so.1 run some (NoPause refl)),
)
was_busy allows entries command (Some known) budget first waited before from number left now so run some =
    elim (nat_le (waited + 10) known.0) as (λ (b : Bool). nat_le (waited + 10) known.0 ≡ b →
    Reached allows entries command (Some known) budget first (if b then Waiting (waited + 10) else Ending (Err (Late waited))) left now) [
      | true ↦ λ less. (
        so.0,
        λ last waits. waiting-on allows entries (Some known) so.0.left so.0.mid waited before from number left now (waited + 10) last so.1 run some
            (Pause known last refl (is_most _ _ less) waits),
      )
      | false ↦ λ late.
          NotWaited so.0.asks.0 so.0.left so.0.mid (Late waited) left now so.0.asks.1
          (waiting-late allows entries (Some known) so.0.left so.0.mid waited before from number left now (Late waited) now so.1 run some (NoTime known refl (is_not_most _ _ late)))
    ] refl

checked : {W : Type 0} (allows : W → Call → W → Type 0) (entries : List Entry) (command : Command) (timings : Option (ℕ × ℕ)) (budget : ℕ) (first : W)
    (waited before : ℕ) (from : W) (number left : ℕ) (now : W) →
    Reached allows entries command timings budget first (Checking waited) before from → Performs allows entries CheckBusyStatus 0 before from (Ok number) left now →
    Reached allows entries command timings budget first (if number == 0 then Judging else busy timings waited) left now
checked allows entries command timings budget first waited before from number left now so run =
    elim (number == 0) as (λ (b : Bool). (number == 0) ≡ b → Reached allows entries command timings budget first (if b then Judging else busy timings waited) left now) [
      | true ↦ λ idle. (so.0, IsIdle so.1.busy before from left now so.1.runs (subst (λ (n : ℕ). Performs allows entries CheckBusyStatus 0 before from (Ok n) left now) (is_zero number idle) run))
      | false ↦ λ some. was_busy allows entries command timings budget first waited before from number left now so run (is_some number some)
    ] refl

-- the run of a stage, in the words of its action
abbrev pub RunOf : {W : Type 0} → (W → Call → W → Type 0) → List Entry → Command → Stage → ℕ → W → Result ℕ RunStop → ℕ → W → Type 0
RunOf allows entries command (Requesting part) before from answer after now = Performs allows entries (request_of command part).action (request_of command part).given before from answer after now
RunOf allows entries command (Checking waited) before from answer after now = Performs allows entries CheckBusyStatus 0 before from answer after now
RunOf allows entries command (Waiting longer) before from answer after now = ⊥
RunOf allows entries command Judging before from answer after now = Performs allows entries GetCommandStatus 0 before from answer after now
RunOf allows entries command (Ending outcome) before from answer after now = Performs allows entries EndOperation 0 64 from answer after now
RunOf allows entries command (Done result) before from answer after now = ⊥

performs_of : {W : Type 0} (allows : W → Call → W → Type 0) (entries : List Entry) (request mine : Request) (before : ℕ) (from : W) (answer : Result ℕ RunStop)
    (after : ℕ) (now : W) → Some mine ≡ Some request →
    Performs allows entries request.action request.given before from answer after now → Performs allows entries mine.action mine.given before from answer after now
performs_of allows entries request mine before from answer after now same run =
    subst (λ (r : Request). Performs allows entries r.action r.given before from answer after now) (sym (same_Some _ _ same)) run

pub run_of : {W : Type 0} (allows : W → Call → W → Type 0) (entries : List Entry) (command : Command) (stage : Stage) (request : Request) (before : ℕ)
    (from : W) (answer : Result ℕ RunStop) (after : ℕ) (now : W) →
    request_for command stage ≡ Some request → Performs allows entries request.action request.given (steps_for stage before) from answer after now →
    RunOf allows entries command stage before from answer after now
run_of allows entries command (Requesting part) request before from answer after now is run = performs_of allows entries request (request_of command part) before from answer after now is run
run_of allows entries command (Checking waited) request before from answer after now is run =
    performs_of allows entries request (record { action = CheckBusyStatus; given = 0 }) before from answer after now is run
run_of allows entries command (Waiting longer) request before from answer after now is run = absurd (none-some request is)
run_of allows entries command Judging request before from answer after now is run =
    performs_of allows entries request (record { action = GetCommandStatus; given = 0 }) before from answer after now is run
run_of allows entries command (Ending outcome) request before from answer after now is run =
    performs_of allows entries request (record { action = EndOperation; given = 0 }) 64 from answer after now is run
run_of allows entries command (Done result) request before from answer after now is run = absurd (none-some request is)

-- the end of a run leads on
reached_after : {W : Type 0} (allows : W → Call → W → Type 0) (entries : List Entry) (command : Command) (timings : Option (ℕ × ℕ)) (budget : ℕ) (first : W)
    (stage : Stage) (before : ℕ) (from : W) (answer : Result ℕ RunStop)
    (after : ℕ) (now : W) → Reached allows entries command timings budget first stage before from → RunOf allows entries command stage before from answer after now →
    Reached allows entries command timings budget first (turned command timings stage answer) (steps_after stage before after) now
reached_after allows entries command timings budget first (Requesting part) before from (Ok number) after now so run =
    requested allows entries command timings budget first part before from number after now (next_part command part) (rest_is command part) so run
reached_after allows entries command timings budget first (Requesting part) before from (Err stop) after now so run =
    NotAsked stop after now (so.all (Err stop) after now (StopsHere (request_of command part) (rest_of command part) before from stop after now run))
reached_after allows entries command timings budget first (Checking waited) before from (Ok number) after now so run = checked allows entries command timings
    budget first waited before from number after now so run
reached_after allows entries command timings budget first (Checking waited) before from (Err stop) after now so run =
    NotWaited so.0.asks.0 so.0.left so.0.mid (Stopped stop) after now so.0.asks.1 (IsStopped so.1.busy before from stop after now so.1.runs run)
reached_after allows entries command timings budget first (Waiting longer) before from answer after now so run = absurd run
reached_after allows entries command timings budget first Judging before from (Ok number) after now so run =
    IsTold so.0.asks.0 so.0.left so.0.mid before from number after now so.0.asks.1 so.1 run
reached_after allows entries command timings budget first Judging before from (Err stop) after now so run =
    NotTold so.0.asks.0 so.0.left so.0.mid before from stop after now so.0.asks.1 so.1 run
reached_after allows entries command timings budget first (Ending (Ok done)) before from (Ok number) after now so run =
    record { outcome = Ok done; told = from; ended = Ok number; spare = after; until_status = so; ends = run; result_is = refl }
reached_after allows entries command timings budget first (Ending (Err error)) before from (Ok number) after now so run =
    record { outcome = Err error; told = from; ended = Ok number; spare = after; until_status = so; ends = run; result_is = refl }
reached_after allows entries command timings budget first (Ending (Ok done)) before from (Err stop) after now so run =
    record { outcome = Ok done; told = from; ended = Err stop; spare = after; until_status = so; ends = run; result_is = refl }
reached_after allows entries command timings budget first (Ending (Err error)) before from (Err stop) after now so run =
    record { outcome = Err error; told = from; ended = Err stop; spare = after; until_status = so; ends = run; result_is = refl }
reached_after allows entries command timings budget first (Done result) before from answer after now so run = absurd run

pub reached_run : {W : Type 0} (allows : W → Call → W → Type 0) (entries : List Entry) (command : Command) (timings : Option (ℕ × ℕ)) (budget : ℕ) (first : W)
    (stage : Stage) (request : Request) (before : ℕ) (from : W)
    (answer : Result ℕ RunStop) (after : ℕ) (now : W) → request_for command stage ≡ Some request → Reached allows entries command timings budget first stage before from →
    Performs allows entries request.action request.given (steps_for stage before) from answer after now →
    Reached allows entries command timings budget first (turned command timings stage answer) (steps_after stage before after) now
reached_run allows entries command timings budget first stage request before from answer after now is so run =
    reached_after allows entries command timings budget first stage before from answer after now so (run_of allows entries command stage request before from answer after now is run)

-- a wait leads on
pub reached_wait : {W : Type 0} (allows : W → Call → W → Type 0) (entries : List Entry) (command : Command) (timings : Option (ℕ × ℕ)) (budget : ℕ) (first : W) (longer left : ℕ) (now last : W) →
    Reached allows entries command timings budget first (Waiting longer) left now → Passes allows timings now last → Reached allows entries command timings budget first (Checking longer) left last
reached_wait allows entries command timings budget first longer left now last so passes = (so.0, so.1 last passes)

begins_all : {W : Type 0} (allows : W → Call → W → Type 0) (entries : List Entry) (command : Command) (budget : ℕ) (first : W) (result : Result (Unit {0}) RunStop) (after : ℕ) (last : W) →
    AsksAll allows entries (request_of command Begin ∷ rest_of command Begin) budget first result after last → AsksAll allows entries (requests_of command) budget first result after last
begins_all allows entries Write budget first result after last asks = asks
begins_all allows entries (Read id) budget first result after last asks = asks
begins_all allows entries (Clear id) budget first result after last asks = asks
begins_all allows entries Dummy budget first result after last asks = asks

-- a command begins with its first request
pub reached_first : {W : Type 0} (allows : W → Call → W → Type 0) (entries : List Entry) (command : Command) (timings : Option (ℕ × ℕ)) (budget : ℕ) (first : W) →
    Reached allows entries command timings budget first (Requesting Begin) budget first
reached_first allows entries command timings budget first = record { all = λ result after last asks. begins_all allows entries command budget first result after last asks }

-- how many runs and waits are left at most, if no further step is taken
abbrev pub stage_rank : Stage → ℕ
stage_rank (Requesting Begin) = 7
stage_rank (Requesting Offset) = 6
stage_rank (Requesting Identifier) = 5
stage_rank (Requesting Execute) = 4
stage_rank (Checking waited) = 3
stage_rank (Waiting longer) = 4
stage_rank Judging = 2
stage_rank (Ending outcome) = 1
stage_rank (Done result) = 0

abbrev pub weight : Stage → ℕ → ℕ
weight stage left = 10 * left + stage_rank stage

weight_asked : (command : Command) (part : Part) → stage_rank (asked (next_part command part)) < stage_rank (Requesting part)
weight_asked Write Begin = omega arith
weight_asked (Read id) Begin = omega arith
weight_asked (Clear id) Begin = omega arith
weight_asked Dummy Begin = omega arith
weight_asked Write Offset = omega arith
weight_asked (Read id) Offset = omega arith
weight_asked (Clear id) Offset = omega arith
weight_asked Dummy Offset = omega arith
weight_asked command Identifier = omega arith
weight_asked command Execute = omega arith

weight_requesting : (part : Part) → 4 ≤ stage_rank (Requesting part)
weight_requesting Begin = omega arith
weight_requesting Offset = omega arith
weight_requesting Identifier = omega arith
weight_requesting Execute = omega arith

rank_busy : (timings : Option (ℕ × ℕ)) (waited : ℕ) → stage_rank (busy timings waited) ≤ 4
rank_busy None waited = omega arith
rank_busy (Some known) waited =
    elim (nat_le (waited + 10) known.0) as (λ (b : Bool). stage_rank (if b then Waiting (waited + 10) else Ending (Err (Late waited))) ≤ 4) [ true ↦ omega arith | false ↦ omega arith ]

rank_checked : (timings : Option (ℕ × ℕ)) (waited number : ℕ) → stage_rank (if number == 0 then Judging else busy timings waited) ≤ 4
rank_checked timings waited number =
    elim (number == 0) as (λ (b : Bool). stage_rank (if b then Judging else busy timings waited) ≤ 4) [ true ↦ omega arith | false ↦ rank_busy timings waited ]

weight_after : {W : Type 0} (allows : W → Call → W → Type 0) (entries : List Entry) (command : Command) (timings : Option (ℕ × ℕ)) (stage : Stage) (before : ℕ)
    (from : W) (answer : Result ℕ RunStop) (after : ℕ) (now : W) →
    RunOf allows entries command stage before from answer after now → weight (turned command timings stage answer) (steps_after stage before after) < weight stage before
weight_after allows entries command timings (Requesting part) before from (Ok number) after now run =
    omega (arith, weight_asked command part, run_spends allows (program_of (code_of (request_of command part).action) entries) (request_of command part).given before from (Ok number) after now run)
weight_after allows entries command timings (Requesting part) before from (Err stop) after now run =
    omega (arith, weight_requesting part, run_spends allows (program_of (code_of (request_of command part).action) entries) (request_of command part).given before from (Err stop) after now run)
weight_after allows entries command timings (Checking waited) before from (Ok number) after now run =
    let less : after < before = run_spends_some allows (program_of (code_of CheckBusyStatus) entries) 0 before from (Ok number) after now run refl in
    omega (arith, rank_checked timings waited number)
weight_after allows entries command timings (Checking waited) before from (Err stop) after now run =
    omega (arith, run_spends allows (program_of (code_of CheckBusyStatus) entries) 0 before from (Err stop) after now run)
weight_after allows entries command timings (Waiting longer) before from answer after now run = absurd run
weight_after allows entries command timings Judging before from (Ok number) after now run =
    omega (arith, run_spends allows (program_of (code_of GetCommandStatus) entries) 0 before from (Ok number) after now run)
weight_after allows entries command timings Judging before from (Err stop) after now run =
    omega (arith, run_spends allows (program_of (code_of GetCommandStatus) entries) 0 before from (Err stop) after now run)
weight_after allows entries command timings (Ending outcome) before from (Ok number) after now run = omega arith
weight_after allows entries command timings (Ending (Ok done)) before from (Err stop) after now run = omega arith
weight_after allows entries command timings (Ending (Err error)) before from (Err stop) after now run = omega arith
weight_after allows entries command timings (Done result) before from answer after now run = absurd run

-- a run by the command's own steps
pub runs_plain : {W : Type 0} (allows : W → Call → W → Type 0) (entries : List Entry) (stage : Stage) (request : Request) (before : ℕ) (from : W) (answer : Result ℕ RunStop) (after : ℕ) (now : W) →
    ((outcome : Result (Unit {0}) ClientError) → stage ≡ Ending outcome → ⊥) → Performs allows entries request.action request.given before from answer after now →
    Runs allows entries stage request before from answer after now
runs_plain allows entries (Requesting part) request before from answer after now plain run = record { after = after; left_is = refl; performs = run }
runs_plain allows entries (Checking waited) request before from answer after now plain run = record { after = after; left_is = refl; performs = run }
runs_plain allows entries (Waiting longer) request before from answer after now plain run = record { after = after; left_is = refl; performs = run }
runs_plain allows entries Judging request before from answer after now plain run = record { after = after; left_is = refl; performs = run }
runs_plain allows entries (Ending outcome) request before from answer after now plain run = absurd (plain outcome refl)
runs_plain allows entries (Done result) request before from answer after now plain run = record { after = after; left_is = refl; performs = run }

-- the same in the pieces that the loop over the stages has
pub reached_on : {W : Type 0} (allows : W → Call → W → Type 0) (entries : List Entry) (command : Command) (timings : Option (ℕ × ℕ)) (budget : ℕ) (first : W)
    (stage : Stage) (request : Request) (before : ℕ) (from : W)
    (answer : Result ℕ RunStop) (left : ℕ) (now : W) (next : Stage) → request_for command stage ≡ Some request → Reached allows entries command timings budget first stage before from →
    Runs allows entries stage request before from answer left now → next ≡ turned command timings stage answer → Reached allows entries command timings budget first next left now
reached_on allows entries command timings budget first stage request before from answer left now next is so runs next_is =
    rw next_is (rw runs.left_is (reached_run allows entries command timings budget first stage request before from answer runs.after now is so runs.performs))

pub weight_falls : {W : Type 0} (allows : W → Call → W → Type 0) (entries : List Entry) (command : Command) (timings : Option (ℕ × ℕ)) (stage : Stage)
    (request : Request) (before : ℕ) (from : W) (answer : Result ℕ RunStop)
    (left : ℕ) (now : W) (next : Stage) → request_for command stage ≡ Some request → Runs allows entries stage request before from answer left now → next ≡ turned command timings stage answer →
    weight next left < weight stage before
weight_falls allows entries command timings stage request before from answer left now next is runs next_is =
    rw next_is (rw runs.left_is (weight_after allows entries command timings stage before from answer runs.after now
    (run_of allows entries command stage request before from answer runs.after now is runs.performs)))

-- how many runs follow at most before a wait or the end
abbrev pub run_rank : Stage → ℕ
run_rank (Waiting longer) = 0
run_rank stage = stage_rank stage
