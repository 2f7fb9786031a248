-- What bounds the accesses of a run: one number does not rise without an access, and falls with each answer.
use Rattle.std.proofs.Common.{◌≡◌, ℕ, ◌+◌, ◌-◌, ◌*◌, ◌<◌, ◌≤◌, ◌%◌, ◌^◌, ◌==◌, ◌&&◌, not, if◌then◌else◌, Bool, true, false, length, Option, Some, None, nat_lt}
use Rattle.std.proofs.Common.{nat_le, Ok, Err, Result, OnOk, bit_and, refl, sym, subst, arith}
use Rattle.apei_tables.specs.declared.registers.Register.{Register}
use Rattle.apei_tables.specs.Fields.{field, stored}
use Rattle.apei_space.specs.Calls.{Call}
use Rattle.apei_space.specs.declared.faults.SpaceFault.{SpaceFault}
use Rattle.erst_entries.specs.Programs.{Listed}
use Rattle.erst_interp.specs.declared.configurations.Configuration.{Configuration}
use Rattle.erst_interp.specs.declared.configurations.Task.{Task}
use Rattle.erst_interp.specs.declared.states.Awaited.{Awaited}
use Rattle.erst_interp.specs.declared.states.Awaited.TheVariants.{Stall, Delay, Compared, Taken, Changed, Kept, Written, Offset, Copied}
use Rattle.erst_interp.specs.declared.states.Progress.{Progress}
use Rattle.erst_interp.specs.declared.states.Progress.TheVariants.{Done, Awaits, Stopped}
use Rattle.erst_interp.specs.declared.states.RunState.{RunState}
use Rattle.erst_interp.specs.declared.states.RunState.TheVariants.{Ready, Awaiting, Ended}
use Rattle.erst_interp.specs.declared.stops.RunStop.{RunStop}
use Rattle.erst_interp.specs.declared.stops.RunStop.TheVariants.{Goto as GotoOutside, MoveTooLong, NoAction, Budget}
use Rattle.erst_interp.specs.declared.works.FieldUse.TheVariants.{Take, Change}
use Rattle.erst_interp.specs.declared.works.Access.{Access}
use Rattle.erst_interp.specs.declared.works.Access.TheVariants.{Field, Store, Compare, Copy}
use Rattle.erst_interp.specs.Configurations.{begin, next}
use Rattle.erst_interp.specs.Works.{changed}
use Rattle.erst_interp.specs.Steps.{blocks, Executes, GoesOn, Stops}
use Rattle.erst_interp.specs.Continuing.{storing, first_access, gone, located, resumed, awaited_rank, rank, Begins, IsUnknown, IsDone, IsGoto, IsStall, HasNoRegister, HasRegister}
use Rattle.erst_interp.specs.Runs.{may_be_empty, task_of}
use Rattle.erst_interp.specs.Told.{first_state, state_of, answered, bound, Turns, IsOver, IsUnpaid, IsPaid, Advances, IsEnded, IsBegun, Comes, Here, Further}

rank_storing : (task : Task) (register : Register) (value : ℕ) → awaited_rank (storing task register value) ≤ 2
rank_storing task register value =
    elim (bit_and task.entry.flags 1 == 0) as (λ (b : Bool). awaited_rank (if b then Written register (stored value register.offset task.entry.mask) else Kept register value) ≤ 2) [
      | true ↦ omega arith
      | false ↦ omega arith
    ]

rank_first : (task : Task) (register : Register) (access : Access) → awaited_rank (first_access task register access) ≤ 3
rank_first task register (Field (Take how)) = omega arith
rank_first task register (Field (Change how)) = omega arith
rank_first task register (Store value) = omega (arith, rank_storing task register value)
rank_first task register Compare =
    elim (task.at.stalling) as (λ (b : Bool). awaited_rank (if b then Delay register else Compared register) ≤ 3) [ true ↦ omega arith | false ↦ omega arith ]
rank_first task register Copy = omega arith

rank_gone : (task : Task) (to : ℕ) → rank (gone task to) ≤ 3
rank_gone task to =
    elim (nat_lt to task.len) as (λ (b : Bool). rank (if b then Done (record (next task.at) { place = to }) else Stopped (GotoOutside task.at.place to)) ≤ 3)
    [ true ↦ omega arith | false ↦ omega arith ]

pub rank_begins : (task : Task) (progress : Progress) → Begins task progress → rank progress ≤ 3
rank_begins task progress begins = elim begins as (λ progress begins. rank progress ≤ 3) [
  | IsUnknown none ↦ omega arith
  | IsDone d has ↦ omega arith
  | IsGoto to has ↦ rank_gone task to
  | IsStall micros has ↦ omega arith
  | HasNoRegister access why has bad ↦ omega arith
  | HasRegister access register has ok ↦ rank_first task register access
]

-- an answer brings an instruction nearer to its end, and spends steps at most
record Nears (awaited : Awaited) (before : ℕ) (progress : Progress) (left : ℕ) : Type 0 where
  fewer : rank progress < awaited_rank awaited
  spends : left ≤ before

nears_located : (task : Task) (register : Register) (left x : ℕ) → Nears (Offset register) left (located task left x).0 (located task left x).1
nears_located task register left x =
    elim (nat_lt 65536 task.at.var2) as (λ (b : Bool).
    let t : Progress × ℕ = if b then (Stopped (MoveTooLong task.at.place task.at.var2), left)
    else (if nat_le (blocks task.at.var2) left then (Awaits (Copied ((task.at.source + x) % 2 ^ 64) ((task.at.target + x) % 2 ^ 64) task.at.var2), left - blocks task.at.var2)
    else (Stopped Budget, left - blocks task.at.var2)) in
    Nears (Offset register) left t.0 t.1) [
      | true ↦ record { fewer = omega arith; spends = omega arith }
      | false ↦ elim (nat_le (blocks task.at.var2) left) as (λ (b : Bool).
          let t : Progress × ℕ = if b then (Awaits (Copied ((task.at.source + x) % 2 ^ 64) ((task.at.target + x) % 2 ^ 64) task.at.var2), left - blocks task.at.var2)
          else (Stopped Budget, left - blocks task.at.var2) in
          Nears (Offset register) left t.0 t.1) [
            | true ↦ record { fewer = omega arith; spends = omega arith }
            | false ↦ record { fewer = omega arith; spends = omega arith }
          ]
    ]

nears : (task : Task) (awaited : Awaited) (left : ℕ) (answer : Result ℕ SpaceFault) → Nears awaited left (resumed task awaited left answer).0 (resumed task awaited left answer).1
nears task (Changed register how) left (Ok n) =
    record { fewer = omega (arith, rank_storing task register (changed how task (field n register.offset task.entry.mask))); spends = omega arith }
nears task (Offset register) left (Ok n) = nears_located task register left (field n register.offset task.entry.mask)
nears task (Stall micros) left (Ok n) = record { fewer = omega arith; spends = omega arith }
nears task (Stall micros) left (Err f) = record { fewer = omega arith; spends = omega arith }
nears task (Delay register) left (Ok n) = record { fewer = omega arith; spends = omega arith }
nears task (Delay register) left (Err f) = record { fewer = omega arith; spends = omega arith }
nears task (Compared register) left (Ok n) = record { fewer = omega arith; spends = omega arith }
nears task (Compared register) left (Err f) = record { fewer = omega arith; spends = omega arith }
nears task (Taken register how) left (Ok n) = record { fewer = omega arith; spends = omega arith }
nears task (Taken register how) left (Err f) = record { fewer = omega arith; spends = omega arith }
nears task (Changed register how) left (Err f) = record { fewer = omega arith; spends = omega arith }
nears task (Kept register value) left (Ok n) = record { fewer = omega arith; spends = omega arith }
nears task (Kept register value) left (Err f) = record { fewer = omega arith; spends = omega arith }
nears task (Written register number) left (Ok n) = record { fewer = omega arith; spends = omega arith }
nears task (Written register number) left (Err f) = record { fewer = omega arith; spends = omega arith }
nears task (Offset register) left (Err f) = record { fewer = omega arith; spends = omega arith }
nears task (Copied source target len) left (Ok n) = record { fewer = omega arith; spends = omega arith }
nears task (Copied source target len) left (Err f) = record { fewer = omega arith; spends = omega arith }

pub rank_falls : (task : Task) (awaited : Awaited) (left : ℕ) (answer : Result ℕ SpaceFault) (progress : Progress) (further : Awaited) → progress ≡ (resumed task awaited left answer).0 →
    progress ≡ Awaits further → awaited_rank further < awaited_rank awaited
rank_falls task awaited left answer progress further progress_is is =
    subst (λ (p : Progress). rank p < awaited_rank awaited) is (subst (λ (p : Progress). rank p < awaited_rank awaited) (sym progress_is) (nears task awaited left answer).fewer)

pub bound_state : (task : Task) (progress : Progress) (left : ℕ) → bound (state_of task progress) left ≡ 4 * left + rank progress
bound_state task (Done d) left = omega arith
bound_state task (Awaits awaited) left = refl
bound_state task (Stopped stop) left = omega arith

pub bound_first : (program : Listed) (budget : ℕ) → bound (first_state program) budget ≤ 4 * budget
bound_first program budget =
    elim (length program.entries == 0 && not (may_be_empty program.action)) as (λ (b : Bool). bound (if b then Ended (Err (NoAction program.action)) else Ready begin) budget ≤ 4 * budget)
    [ true ↦ omega arith | false ↦ omega arith ]

-- what a turn takes of the steps
abbrev SpendsBy : Option (Result ℕ RunStop) → ℕ → ℕ → Type 0
SpendsBy None left after = after + 1 ≡ left
SpendsBy (Some answer) left after = after ≤ left

turn_spends : (program : Listed) (given : ℕ) (c : Configuration) (left : ℕ) (end : Option (Result ℕ RunStop)) (after : ℕ) → Turns program given c left end after → SpendsBy end left after
turn_spends program given c left end after turns = elim turns as (λ left end after turns. SpendsBy end left after) [
  | IsOver left over ↦ omega arith
  | IsUnpaid within ↦ omega arith
  | IsPaid paid within ↦ refl
]

bound_advances : (program : Listed) (given : ℕ) (c : Configuration) (left : ℕ) (state : RunState) (after : ℕ) → Advances program given c left state after → bound state after ≤ 4 * left
bound_advances program given c left state after advances = elim advances as (λ state after advances. bound state after ≤ 4 * left) [
  | IsEnded answer after turns ↦ let spent : after ≤ left = turn_spends program given c left (Some answer) after turns in omega arith
  | IsBegun entry progress after turns here begins ↦
      let spent : after + 1 ≡ left = turn_spends program given c left None after turns in
      omega (arith, bound_state (task_of program given entry c) progress after, rank_begins (task_of program given entry c) progress begins)
]

pub bound_comes : (program : Listed) (given : ℕ) (old : RunState) (before : ℕ) (state : RunState) (left : ℕ) → Comes program given old before state left → bound state left ≤ bound old before
bound_comes program given old before state left Here = omega arith
bound_comes program given old before state left (Further c kept further after came advances) =
    omega (arith, bound_advances program given c kept further after advances, bound_comes program given old before (Ready c) kept came)

pub bound_falls : (task : Task) (awaited : Awaited) (left : ℕ) (answer : Result ℕ SpaceFault) →
    bound (answered (Awaiting task awaited) left answer).0 (answered (Awaiting task awaited) left answer).1 < bound (Awaiting task awaited) left
bound_falls task awaited left answer =
    let near = nears task awaited left answer in
    omega (arith, bound_state task (resumed task awaited left answer).0 (resumed task awaited left answer).1, near.fewer, near.spends)

pub turn_falls : (program : Listed) (given : ℕ) (c : Configuration) (before paid : ℕ) → Turns program given c before None paid → paid < before
turn_falls program given c before paid turns = let spent : paid + 1 ≡ before = turn_spends program given c before None paid turns in omega arith

executes_spends : {W : Type 0} (allows : W → Call → W → Type 0) (task : Task) (paid : ℕ) (old : W) (answer : Result Configuration RunStop) (left : ℕ) (new : W)
    → Executes allows task paid old answer left new → OnOk answer (left ≤ paid)
executes_spends allows task paid old answer left new executes = elim executes as (λ answer left new executes. OnOk answer (left ≤ paid)) [
  | GoesOn d more left new step sum ↦ omega arith
  | Stops stop left new halt ↦ tt
]

-- an instruction that is carried out takes at least one step
pub walk_falls : {W : Type 0} (allows : W → Call → W → Type 0) (program : Listed) (given : ℕ) (c : Configuration) (before paid : ℕ) (task : Task) (old : W)
    (next : Configuration) (left : ℕ) (new : W) →
    Turns program given c before None paid → Executes allows task paid old (Ok next) left new → left < before
walk_falls allows program given c before paid task old next left new turns executes =
    let spent : paid < before = turn_falls program given c before paid turns in
    let less : left ≤ paid = executes_spends allows task paid old (Ok next) left new executes in
    omega arith
