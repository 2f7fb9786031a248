-- A run that makes no access itself: how it begins, what it does without an access, which access it tells, and how it goes on
-- once that was answered.
use Rattle.std.specs.Prelude.{◌≡◌, ℕ, ◌+◌, ◌*◌, ◌<◌, ◌≤◌, ◌^◌, ◌&&◌, ◌==◌, not, nat_lt, if◌then◌else◌, Bool, true, false, length, slice_get, Option, Some, None, unwrap_or, Result, Ok, Err}
use Rattle.apei_space.specs.declared.faults.SpaceFault.{SpaceFault}
use Rattle.apei_space.specs.Calls.{Call}
use Rattle.erst_entries.specs.declared.entries.Entry.{Entry}
use Rattle.erst_entries.specs.Programs.{Listed}
use Rattle.erst_interp.specs.declared.configurations.Configuration.{Configuration}
use Rattle.erst_interp.specs.declared.configurations.Task.{Task}
use Rattle.erst_interp.specs.declared.demands.Demand.{Demand}
use Rattle.erst_interp.specs.declared.states.Awaited.{Awaited}
use Rattle.erst_interp.specs.declared.states.Progress.{Progress}
use Rattle.erst_interp.specs.declared.states.Progress.TheVariants.{Done, Awaits, Stopped}
use Rattle.erst_interp.specs.declared.states.RunState.{RunState}
use Rattle.erst_interp.specs.declared.states.RunState.TheVariants.{Ready, Awaiting, Ended}
use Rattle.erst_interp.specs.declared.stops.RunStop.{RunStop}
use Rattle.erst_interp.specs.declared.stops.RunStop.TheVariants.{Budget, NoAction}
use Rattle.erst_interp.specs.Configurations.{begin}
use Rattle.erst_interp.specs.Continuing.{demand_of, resumed, Begins, is_near, awaited_rank}
use Rattle.erst_interp.specs.Awaiting.{IsAwaited}
use Rattle.erst_interp.specs.Runs.{may_be_empty, HasProgram, Walk, Run, task_of}

abbrev pub first_state : Listed → RunState
first_state program = if length program.entries == 0 && not (may_be_empty program.action) then Ended (Err (NoAction program.action)) else Ready begin

-- where a run stands by the progress of its instruction
abbrev pub state_of : Task → Progress → RunState
state_of task (Done d) = Ready d
state_of task (Awaits awaited) = Awaiting task awaited
state_of task (Stopped stop) = Ended (Err stop)

-- the run's answer, if it ends where it stands with these steps left, and the steps that are left then. Else an instruction comes,
-- whose first step is taken
pub data Turns (program : Listed) (given : ℕ) (c : Configuration) : ℕ → Option (Result ℕ RunStop) → ℕ → Type 0 where
  IsOver : (left : ℕ) → length program.entries ≤ c.place → Turns program given c left (Some (Ok (unwrap_or c.result given))) left
  IsUnpaid : c.place < length program.entries → Turns program given c 0 (Some (Err Budget)) 0
  IsPaid : (paid : ℕ) → c.place < length program.entries → Turns program given c (paid + 1) None paid

-- from one instruction to the next without an access
pub data Advances (program : Listed) (given : ℕ) (c : Configuration) (left : ℕ) : RunState → ℕ → Type 0 where
  IsEnded : (answer : Result ℕ RunStop) (after : ℕ) → Turns program given c left (Some answer) after → Advances program given c left (Ended answer) after
  IsBegun : (entry : Entry) (progress : Progress) (after : ℕ) → Turns program given c left None after → slice_get program.entries c.place ≡ Some entry →
      Begins (task_of program given entry c) progress → Advances program given c left (state_of (task_of program given entry c) progress) after

-- the same any number of times
pub data Comes (program : Listed) (given : ℕ) (first : RunState) (budget : ℕ) : RunState → ℕ → Type 0 where
  Here : Comes program given first budget first budget
  Further : (c : Configuration) (left : ℕ) (state : RunState) (after : ℕ) → Comes program given first budget (Ready c) left → Advances program given c left state after →
      Comes program given first budget state after

-- it can't go on without an access
abbrev pub is_settled : RunState → Bool
is_settled (Ready c) = false
is_settled (Awaiting task awaited) = true
is_settled (Ended answer) = true

abbrev pub demanded : RunState → Option Demand
demanded (Ready c) = None
demanded (Awaiting task awaited) = Some (demand_of task awaited)
demanded (Ended answer) = None

abbrev pub ended : RunState → Option (Result ℕ RunStop)
ended (Ready c) = None
ended (Awaiting task awaited) = None
ended (Ended answer) = Some answer

-- where a run stands once its access was answered, and the steps that are left
abbrev pub answered : RunState → ℕ → Result ℕ SpaceFault → RunState × ℕ
answered (Ready c) left answer = (Ready c, left)
answered (Awaiting task awaited) left answer = (state_of task (resumed task awaited left answer).0, (resumed task awaited left answer).1)
answered (Ended result) left answer = (Ended result, left)

-- the instruction is one of a program, and the field of its register begins within 64 bits
abbrev pub is_sound_state : RunState → Bool
is_sound_state (Ready c) = true
is_sound_state (Awaiting task awaited) = nat_lt task.at.place (2 ^ 63) && is_near awaited
is_sound_state (Ended answer) = true

-- more than the accesses that a run still makes
abbrev pub bound : RunState → ℕ → ℕ
bound (Ready c) left = 4 * left
bound (Awaiting task awaited) left = 4 * left + awaited_rank awaited
bound (Ended answer) left = 4 * left

-- over any space: `allows` relates the space before a call, the call with its answer, and the space after it. The run has come
-- to an instruction, which waits for an access
pub record IsWithin {W : Type 0} (allows : W → Call → W → Type 0) (program : Listed) (given budget : ℕ) (first : W) (task : Task) (awaited : Awaited) (left : ℕ) (now : W) : Type 0 where
  pub paid : ℕ
  pub start : W
  pub c : Configuration
  pub entry : Entry
  pub has : HasProgram program
  pub walked : Walk allows program given budget first (paid + 1) c start
  pub here : slice_get program.entries c.place ≡ Some entry
  pub task_is : task ≡ task_of program given entry c
  pub waits : IsAwaited allows task paid start awaited left now

-- a run of the program over the space, which began in `first` with `budget` steps, stands here with these steps left
abbrev pub Stands : {W : Type 0} → (W → Call → W → Type 0) → Listed → ℕ → ℕ → W → RunState → ℕ → W → Type 0
Stands allows program given budget first (Ready c) left now = HasProgram program × Walk allows program given budget first left c now
Stands allows program given budget first (Awaiting task awaited) left now = IsWithin allows program given budget first task awaited left now
Stands allows program given budget first (Ended answer) left now = Run allows program given budget first answer left now
