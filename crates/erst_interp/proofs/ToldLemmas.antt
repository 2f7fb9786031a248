-- A run that is told the answers of its accesses stands where a run stands.
use Rattle.std.proofs.Common.{◌≡◌, ℕ, ◌+◌, ◌==◌, ◌&&◌, not, if◌then◌else◌, Bool, true, false, length, Option, Some, None, Result, Ok, Err, slice_get, refl, subst, arith}
use Rattle.std.proofs.lemmas.Bool.Decides.{nat_tests}
use Rattle.apei_space.specs.declared.faults.SpaceFault.{SpaceFault}
use Rattle.apei_space.specs.Calls.{Call}
use Rattle.erst_entries.specs.declared.entries.Entry.{Entry}
use Rattle.erst_entries.specs.Programs.{Listed}
use Rattle.erst_interp.specs.declared.configurations.Configuration.{Configuration}
use Rattle.erst_interp.specs.declared.configurations.Task.{Task}
use Rattle.erst_interp.specs.declared.states.Awaited.{Awaited}
use Rattle.erst_interp.specs.declared.states.Progress.{Progress}
use Rattle.erst_interp.specs.declared.states.Progress.TheVariants.{Done, Awaits, Stopped}
use Rattle.erst_interp.specs.declared.states.RunState.{RunState}
use Rattle.erst_interp.specs.declared.states.RunState.TheVariants.{Ready, Ended, Awaiting}
use Rattle.erst_interp.specs.declared.stops.RunStop.{RunStop}
use Rattle.erst_interp.specs.declared.stops.RunStop.TheVariants.{NoAction}
use Rattle.erst_interp.specs.Configurations.{begin}
use Rattle.erst_interp.specs.Steps.{Executes}
use Rattle.erst_interp.specs.Demands.{call_of}
use Rattle.erst_interp.specs.Continuing.{demand_of, resumed}
use Rattle.erst_interp.specs.Runs.{HasProgram, HasEntry, NeedsNone, Walk, Begun, Run, NoProgram, Finishes, Exhausted, may_be_empty, task_of}
use Rattle.erst_interp.specs.Told.{first_state, state_of, answered, Turns, IsOver, IsUnpaid, IsPaid, Advances, IsEnded, IsBegun, Comes, Here, Further, Stands}
use Rattle.erst_interp.proofs.Walking.{WalksOn, walks_on}
use Rattle.erst_interp.proofs.ProgressLemmas.{Continues, continues_begins, continues_answer}

stands_progress : {W : Type 0} (allows : W → Call → W → Type 0) (program : Listed) (given budget : ℕ) (first : W) (paid : ℕ) (start : W) (c : Configuration) (entry : Entry) →
    HasProgram program → Walk allows program given budget first (paid + 1) c start → slice_get program.entries c.place ≡ Some entry → (task : Task) → task ≡ task_of program given entry c →
    (progress : Progress) (left : ℕ) (now : W) → Continues allows task paid start progress left now → Stands allows program given budget first (state_of task progress) left now
stands_progress allows program given budget first paid start c entry has walked here task is (Done d) left now goes =
    (has, walks_on allows program given budget first paid c start entry (Ok d) left now has walked here (subst (λ (t : Task). Continues allows t paid start (Done d) left now) is goes))
stands_progress allows program given budget first paid start c entry has walked here task is (Awaits awaited) left now waits =
    record { paid = paid; start = start; c = c; entry = entry; has = has; walked = walked; here = here; task_is = is; waits = waits }
stands_progress allows program given budget first paid start c entry has walked here task is (Stopped stop) left now halts =
    walks_on allows program given budget first paid c start entry (Err stop) left now has walked here (subst (λ (t : Task). Continues allows t paid start (Stopped stop) left now) is halts)

-- what is so once it is known whether the run ends
abbrev pub StandsBy : {W : Type 0} → (W → Call → W → Type 0) → Listed → ℕ → ℕ → W → Configuration → Option (Result ℕ RunStop) → ℕ → W → Type 0
StandsBy allows program given budget first c None left now = Walk allows program given budget first (left + 1) c now
StandsBy allows program given budget first c (Some answer) left now = Run allows program given budget first answer left now

pub stands_turn : {W : Type 0} (allows : W → Call → W → Type 0) (program : Listed) (given budget : ℕ) (first now : W) (c : Configuration) (left : ℕ) (answer : Option (Result ℕ RunStop)) (after : ℕ) →
    Turns program given c left answer after → HasProgram program → Walk allows program given budget first left c now → StandsBy allows program given budget first c answer after now
stands_turn allows program given budget first now c left answer after turns has =
    elim turns as (λ left answer after turns. Walk allows program given budget first left c now → StandsBy allows program given budget first c answer after now) [
      | IsOver left over ↦ λ walked. Finishes left c now has walked over
      | IsUnpaid within ↦ λ walked. Exhausted c now has walked within
      | IsPaid paid within ↦ λ walked. walked
    ]

stands_advance : {W : Type 0} (allows : W → Call → W → Type 0) (program : Listed) (given budget : ℕ) (first now : W) (c : Configuration) (left : ℕ) (state : RunState) (after : ℕ) →
    Advances program given c left state after → HasProgram program → Walk allows program given budget first left c now → Stands allows program given budget first state after now
stands_advance allows program given budget first now c left state after advances has walked =
    elim advances as (λ state after advances. Stands allows program given budget first state after now) [
      | IsEnded answer after turns ↦ stands_turn allows program given budget first now c left (Some answer) after turns has walked
      | IsBegun entry progress after turns here begins ↦
          stands_progress allows program given budget first after now c entry has (stands_turn allows program given budget first now c left None after turns has
          walked) here (task_of program given entry c) refl progress
          after now (continues_begins allows (task_of program given entry c) after now progress begins)
    ]

-- the instruction that a run comes to is carried out
pub walks_by : {W : Type 0} (allows : W → Call → W → Type 0) (program : Listed) (given budget : ℕ) (first now : W) (c : Configuration) (left paid : ℕ)
    (task : Task) (answer : Result Configuration RunStop) (after : ℕ) (new : W) →
    Turns program given c left None paid → HasProgram program → Walk allows program given budget first left c now → task ≡ task_of program given task.entry c →
    slice_get program.entries c.place ≡ Some task.entry →
    Executes allows task paid now answer after new → WalksOn allows program given budget first answer after new
walks_by allows program given budget first now c left paid task answer after new turns has walked task_is here executes =
    walks_on allows program given budget first paid c now task.entry answer after new has (stands_turn allows program given budget first now c left None paid turns has walked) here
    (subst (λ (t : Task). Executes allows t paid now answer after new) task_is executes)

-- what is done without an access keeps it
pub stands_comes : {W : Type 0} (allows : W → Call → W → Type 0) (program : Listed) (given budget : ℕ) (first now : W) (old : RunState) (before : ℕ) (state : RunState) (left : ℕ) →
    Comes program given old before state left → Stands allows program given budget first old before now → Stands allows program given budget first state left now
stands_comes allows program given budget first now old before state left Here so = so
stands_comes allows program given budget first now old before state left (Further c kept further after came advances) so =
    let at = stands_comes allows program given budget first now old before (Ready c) kept came so in
    stands_advance allows program given budget first now c kept further after advances at.0 at.1

-- and so does an answer
pub stands_answered : {W : Type 0} (allows : W → Call → W → Type 0) (program : Listed) (given budget : ℕ) (first : W) (task : Task) (awaited : Awaited)
    (left : ℕ) (now : W) (answer : Result ℕ SpaceFault)
    (last : W) → Stands allows program given budget first (Awaiting task awaited) left now → allows now (call_of (demand_of task awaited) answer) last →
    Stands allows program given budget first (answered (Awaiting task awaited) left answer).0 (answered (Awaiting task awaited) left answer).1 last
stands_answered allows program given budget first task awaited left now answer last so h =
    stands_progress allows program given budget first so.paid so.start so.c so.entry so.has so.walked so.here task so.task_is
    (resumed task awaited left answer).0 (resumed task awaited left answer).1 last
    (continues_answer allows task so.paid so.start awaited left now answer last so.waits h)

-- a run stands at its beginning
pub stands_first : {W : Type 0} (allows : W → Call → W → Type 0) (program : Listed) (given budget : ℕ) (first : W) → Stands allows program given budget first (first_state program) budget first
stands_first allows program given budget first =
    elim (length program.entries == 0) as (λ (b : Bool). (length program.entries == 0) ≡ b →
    Stands allows program given budget first (if b && not (may_be_empty program.action) then Ended (Err (NoAction program.action)) else Ready begin) budget first) [
      | true ↦ λ none.
          elim (may_be_empty program.action) as (λ (b : Bool). may_be_empty program.action ≡ b →
          Stands allows program given budget first (if true && not b then Ended (Err (NoAction program.action)) else Ready begin) budget first) [
            | true ↦ λ may. (NeedsNone may, Begun)
            | false ↦ λ may_not. NoProgram (grind (arith, nat_tests)) may_not
          ] refl
      | false ↦ λ some. (HasEntry (grind (arith, nat_tests)), Begun)
    ] refl
