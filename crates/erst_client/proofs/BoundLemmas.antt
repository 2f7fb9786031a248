-- The bound of a command does not rise without an access, and falls with each answer.
use Rattle.std.proofs.Common.{◌≡◌, ℕ, ◌+◌, ◌*◌, ◌<◌, ◌≤◌, ◌==◌, ◌&&◌, not, if◌then◌else◌, nat_le, Bool, true, false, List, length, Option, Some, None, Result, Ok, Err, refl, sym, subst, arith}
use Rattle.std.proofs.lemmas.Bool.Decides.{nat_tests}
use Rattle.std.proofs.lemmas.Option.{none-some, same_Some}
use Rattle.apei_space.specs.declared.faults.SpaceFault.{SpaceFault}
use Rattle.erst_entries.specs.declared.actions.Action.TheVariants.{CheckBusyStatus, GetCommandStatus, EndOperation}
use Rattle.erst_entries.specs.declared.entries.Entry.{Entry}
use Rattle.erst_entries.specs.Actions.{code_of}
use Rattle.erst_entries.specs.Programs.{Listed, program_of}
use Rattle.erst_interp.specs.declared.configurations.Configuration.{Configuration}
use Rattle.erst_interp.specs.declared.demands.Demand.{Demand}
use Rattle.erst_interp.specs.declared.states.RunState.{RunState}
use Rattle.erst_interp.specs.declared.states.RunState.TheVariants.{Ready, Awaiting, Ended}
use Rattle.erst_interp.specs.declared.stops.RunStop.{RunStop}
use Rattle.erst_interp.specs.declared.stops.RunStop.TheVariants.{NoAction}
use Rattle.erst_interp.specs.Configurations.{begin}
use Rattle.erst_interp.specs.Runs.{may_be_empty, task_of}
use Rattle.erst_interp.specs.Told.{first_state, state_of, demanded, answered, bound, Turns, IsOver, IsUnpaid, IsPaid, Advances, IsEnded, IsBegun, Comes, Here, Further}
use Rattle.erst_interp.proofs.BoundLemmas.{bound_first, bound_comes, bound_falls, bound_state, rank_begins}
use Rattle.erst_client.specs.declared.errors.ClientError.{ClientError}
use Rattle.erst_client.specs.declared.errors.ClientError.TheVariants.{Late, Stopped}
use Rattle.erst_client.specs.declared.positions.Position.{Position}
use Rattle.erst_client.specs.declared.requests.Request.{Request}
use Rattle.erst_client.specs.declared.stages.Command.{Command}
use Rattle.erst_client.specs.declared.stages.Part.{Part}
use Rattle.erst_client.specs.declared.stages.Stage.{Stage}
use Rattle.erst_client.specs.declared.stages.Stage.TheVariants.{Requesting, Checking, Waiting, Judging, Ending, Done}
use Rattle.erst_client.specs.Sequences.{judged}
use Rattle.erst_client.specs.Stages.{request_of, request_for, next_part, asked, busy, turned}
use Rattle.erst_client.specs.Reaching.{steps_after}
use Rattle.erst_client.specs.Positions.{program_for, entered, answered_in, demanded_in, Moves, IsThere, GoesOn, Turns as TurnsOn}
use Rattle.erst_client.specs.Bounds.{paid, bound_in, bound_of}

abbrev checks : List Entry → ℕ
checks entries = length (program_of (code_of CheckBusyStatus) entries).entries

some_paid : (n place : ℕ) → n ≤ place → 1 ≤ (if place == 0 && not (n == 0) then 0 else 1)
some_paid n place less = grind (arith, nat_tests)

small_paid : (n : ℕ) (state : RunState) → paid n state ≤ 1
small_paid n (Ready c) = elim (c.place == 0 && not (n == 0)) as (λ (b : Bool). (if b then 0 else 1) ≤ 1) [ true ↦ omega arith | false ↦ omega arith ]
small_paid n (Awaiting task awaited) = omega arith
small_paid n (Ended (Ok answer)) = omega arith
small_paid n (Ended (Err stop)) = omega arith

begun_paid : (n : ℕ) → (n == 0) ≡ false → paid n (Ready begin) ≡ 0
begun_paid n some = grind (arith, nat_tests)

-- what the end of a run, or an instruction of it, leaves of both
abbrev PaidBy : ℕ → Configuration → ℕ → Option (Result ℕ RunStop) → ℕ → Type 0
PaidBy n c left None after = after < left
PaidBy n c left (Some answer) after = paid n (Ended answer) + 4 * after ≤ paid n (Ready c) + 4 * left

paid_turn : (program : Listed) (given : ℕ) (c : Configuration) (left : ℕ) (end : Option (Result ℕ RunStop)) (after : ℕ) → Turns program given c left end after →
    PaidBy (length program.entries) c left end after
paid_turn program given c left end after turns = elim turns as (λ left end after turns. PaidBy (length program.entries) c left end after) [
  | IsOver left over ↦ omega (arith, some_paid (length program.entries) c.place over)
  | IsUnpaid within ↦ omega arith
  | IsPaid rest within ↦ omega arith
]

paid_advances : (program : Listed) (given : ℕ) (c : Configuration) (left : ℕ) (state : RunState) (after : ℕ) → Advances program given c left state after →
    paid (length program.entries) state + bound state after ≤ paid (length program.entries) (Ready c) + 4 * left
paid_advances program given c left state after advances =
    elim advances as (λ state after advances. paid (length program.entries) state + bound state after ≤ paid (length program.entries) (Ready c) + 4 * left) [
      | IsEnded answer after turns ↦ paid_turn program given c left (Some answer) after turns
      | IsBegun entry progress after turns here begins ↦
          let less : after < left = paid_turn program given c left None after turns in
          omega (
            arith,
            bound_state (task_of program given entry c) progress after,
            rank_begins (task_of program given entry c) progress begins,
            small_paid (length program.entries) (state_of (task_of program given entry c) progress),
          )
    ]

paid_comes : (program : Listed) (given : ℕ) (old : RunState) (before : ℕ) (state : RunState) (left : ℕ) → Comes program given old before state left →
    paid (length program.entries) state + bound state left ≤ paid (length program.entries) old + bound old before
paid_comes program given old before state left Here = omega arith
paid_comes program given old before state left (Further c kept further after comes advances) =
    omega (arith, paid_advances program given c kept further after advances, paid_comes program given old before (Ready c) kept comes)

first_paid : (program : Listed) → may_be_empty program.action ≡ false → paid (length program.entries) (first_state program) ≡ 0
first_paid program full =
    elim (length program.entries == 0) as (λ (b : Bool). (length program.entries == 0) ≡ b →
    paid (length program.entries) (if b && not (may_be_empty program.action) then Ended (Err (NoAction program.action)) else Ready begin) ≡ 0) [
      | true ↦ λ none.
          elim (may_be_empty program.action) as (λ (b : Bool). may_be_empty program.action ≡ b →
          paid (length program.entries) (if true && not b then Ended (Err (NoAction program.action)) else Ready begin) ≡ 0)
          [ true ↦ λ may. absurd (cc (may, full)) | false ↦ λ may_not. refl ] refl
      | false ↦ λ some. begun_paid (length program.entries) some
    ] refl

pub of_requesting : (entries : List Entry) (command : Command) (part : Part) (left : ℕ) → bound_of entries (entered entries command (Requesting part) left) ≤ 300 + 4 * left
of_requesting entries command part left = omega (arith, bound_first (program_for entries (request_of command part)) left)

of_checking : (entries : List Entry) (command : Command) (waited left : ℕ) → bound_of entries (entered entries command (Checking waited) left) ≤ 300 + 4 * left
of_checking entries command waited left = omega (arith, bound_first (program_of (code_of CheckBusyStatus) entries) left, first_paid (program_of (code_of CheckBusyStatus) entries) refl)

of_judging : (entries : List Entry) (command : Command) (left : ℕ) → bound_of entries (entered entries command Judging left) ≤ 300 + 4 * left
of_judging entries command left = omega (arith, bound_first (program_of (code_of GetCommandStatus) entries) left)

of_ending : (entries : List Entry) (command : Command) (outcome : Result (Unit {0}) ClientError) (left : ℕ) → bound_of entries (entered entries command (Ending outcome) left) ≤ 300
of_ending entries command outcome left = omega (arith, bound_first (program_of (code_of EndOperation) entries) 64)

of_asked : (entries : List Entry) (command : Command) (next : Option Part) (left : ℕ) → bound_of entries (entered entries command (asked next) left) ≤ 300 + 4 * left
of_asked entries command None left = of_checking entries command 0 left
of_asked entries command (Some part) left = of_requesting entries command part left

of_busy : (entries : List Entry) (command : Command) (timings : Option (ℕ × ℕ)) (waited left : ℕ) → bound_of entries (entered entries command (busy timings waited) left) ≤ 301 + 4 * left
of_busy entries command None waited left = omega arith
of_busy entries command (Some known) waited left =
    elim (nat_le (waited + 10) known.0) as (λ (b : Bool). bound_of entries (entered entries command (if b then Waiting (waited + 10) else Ending (Err (Late waited))) left) ≤ 301 + 4 * left) [
      | true ↦ omega arith
      | false ↦ omega (arith, of_ending entries command (Err (Late waited)) left)
    ]

of_checked : (entries : List Entry) (command : Command) (timings : Option (ℕ × ℕ)) (waited number left : ℕ) →
    bound_of entries (entered entries command (if number == 0 then Judging else busy timings waited) left) ≤ 301 + 4 * left
of_checked entries command timings waited number left =
    elim (number == 0) as (λ (b : Bool). bound_of entries (entered entries command (if b then Judging else busy timings waited) left) ≤ 301 + 4 * left) [
      | true ↦ omega (arith, of_judging entries command left)
      | false ↦ of_busy entries command timings waited left
    ]

-- the end of a run does not raise it
turns_fall : (entries : List Entry) (command : Command) (timings : Option (ℕ × ℕ)) (stage : Stage) (request : Request) (answer : Result ℕ RunStop)
    (left kept : ℕ) → request_for command stage ≡ Some request →
    bound_of entries (entered entries command (turned command timings stage answer) (steps_after stage kept left)) ≤ bound_in (checks entries) stage (Ended answer) left kept
turns_fall entries command timings (Requesting part) request (Ok n) left kept is = omega (arith, of_asked entries command (next_part command part) left)
turns_fall entries command timings (Requesting part) request (Err stop) left kept is = omega (arith, of_ending entries command (Err (Stopped stop)) left)
turns_fall entries command timings (Checking waited) request (Ok n) left kept is = omega (arith, of_checked entries command timings waited n left)
turns_fall entries command timings (Checking waited) request (Err stop) left kept is = omega (arith, of_ending entries command (Err (Stopped stop)) left)
turns_fall entries command timings (Waiting longer) request answer left kept is = absurd (none-some request is)
turns_fall entries command timings Judging request (Ok n) left kept is = omega (arith, of_ending entries command (judged n) left)
turns_fall entries command timings Judging request (Err stop) left kept is = omega (arith, of_ending entries command (Err (Stopped stop)) left)
turns_fall entries command timings (Ending outcome) request (Ok n) left kept is = omega arith
turns_fall entries command timings (Ending (Ok done)) request (Err stop) left kept is = omega arith
turns_fall entries command timings (Ending (Err error)) request (Err stop) left kept is = omega arith
turns_fall entries command timings (Done result) request answer left kept is = absurd (none-some request is)

comes_of : (entries : List Entry) (request mine : Request) (state : RunState) (left : ℕ) (later : RunState) (rest : ℕ) → Some mine ≡ Some request →
    Comes (program_for entries request) request.given state left later rest →
    Comes (program_for entries mine) mine.given state left later rest
comes_of entries request mine state left later rest same comes =
    subst (λ (r : Request). Comes (program_for entries r) r.given state left later rest) (sym (same_Some _ _ same)) comes

-- nor does what a run does without an access
runs_fall : (entries : List Entry) (command : Command) (stage : Stage) (request : Request) (state : RunState) (left kept : ℕ) (later : RunState) (rest : ℕ) → request_for command stage ≡ Some request →
    Comes (program_for entries request) request.given state left later rest → bound_in (checks entries) stage later rest kept ≤ bound_in (checks entries) stage state left kept
runs_fall entries command (Requesting part) request state left kept later rest is comes = omega (arith, bound_comes (program_for entries request) request.given state left later rest comes)
runs_fall entries command (Checking waited) request state left kept later rest is comes =
    omega (
      arith,
      paid_comes (program_of (code_of CheckBusyStatus) entries) 0 state left later rest
          (comes_of entries request (record { action = CheckBusyStatus; given = 0 }) state left later rest is comes),
    )
runs_fall entries command (Waiting longer) request state left kept later rest is comes = absurd (none-some request is)
runs_fall entries command Judging request state left kept later rest is comes = omega (arith, bound_comes (program_for entries request) request.given state left later rest comes)
runs_fall entries command (Ending outcome) request state left kept later rest is comes = omega (arith, bound_comes (program_for entries request) request.given state left later rest comes)
runs_fall entries command (Done result) request state left kept later rest is comes = absurd (none-some request is)

le_le : (a b c : ℕ) → a ≤ b → b ≤ c → a ≤ c
le_le a b c h k = omega arith

pub moves_fall : (entries : List Entry) (command : Command) (timings : Option (ℕ × ℕ)) (old at : Position) → Moves entries command timings old at → bound_of entries at ≤ bound_of entries old
moves_fall entries command timings old at IsThere = omega arith
moves_fall entries command timings old at (GoesOn before request state left moves is comes) =
    le_le _ _ _ (runs_fall entries command before.stage request before.state before.left before.kept state left is comes) (moves_fall entries command timings old before moves)
moves_fall entries command timings old at (TurnsOn before request answer moves is ended) =
    let so : bound_of entries before ≤ bound_of entries old = moves_fall entries command timings old before moves in
    let here : bound_in (checks entries) before.stage (Ended answer) before.left before.kept ≤ bound_of entries old =
    subst (λ (s : RunState). bound_in (checks entries) before.stage s before.left before.kept ≤ bound_of entries old) ended so in
    le_le _ _ _ (turns_fall entries command timings before.stage request answer before.left before.kept is) here

-- an answer lowers it
pub run_lowers : (state : RunState) (left : ℕ) (answer : Result ℕ SpaceFault) (demand : Demand) → demanded state ≡ Some demand →
    bound (answered state left answer).0 (answered state left answer).1 < bound state left
run_lowers (Ready c) left answer demand told = absurd (none-some demand told)
run_lowers (Awaiting task awaited) left answer demand told = bound_falls task awaited left answer
run_lowers (Ended result) left answer demand told = absurd (none-some demand told)

kept_paid : (n : ℕ) (state : RunState) (left : ℕ) (answer : Result ℕ SpaceFault) (demand : Demand) → demanded state ≡ Some demand → paid n (answered state left answer).0 ≤ paid n state
kept_paid n (Ready c) left answer demand told = absurd (none-some demand told)
kept_paid n (Awaiting task awaited) left answer demand told = small_paid n (answered (Awaiting task awaited) left answer).0
kept_paid n (Ended result) left answer demand told = absurd (none-some demand told)

pub answered_falls : (entries : List Entry) (command : Command) (timings : Option (ℕ × ℕ)) (stage : Stage) (state : RunState) (left kept : ℕ) (answer : Result ℕ SpaceFault) (demand : Demand) →
    demanded_in timings stage state ≡ Some demand → bound_of entries (answered_in entries command stage state left kept answer) < bound_in (checks entries) stage state left kept
answered_falls entries command timings (Requesting part) state left kept answer demand told = omega (arith, run_lowers state left answer demand told)
answered_falls entries command timings (Checking waited) state left kept answer demand told =
    omega (arith, run_lowers state left answer demand told, kept_paid (checks entries) state left answer demand told)
answered_falls entries command timings (Waiting longer) state left kept answer demand told = omega (arith, of_checking entries command longer kept)
answered_falls entries command timings Judging state left kept answer demand told = omega (arith, run_lowers state left answer demand told)
answered_falls entries command timings (Ending outcome) state left kept answer demand told = omega (arith, run_lowers state left answer demand told)
answered_falls entries command timings (Done result) state left kept answer demand told = absurd (none-some demand told)
