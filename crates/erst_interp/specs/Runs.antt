-- A run of a program under a budget of steps, over any space.
use Rattle.std.specs.Prelude.{◌≡◌, ℕ, ◌+◌, ◌<◌, ◌≤◌, ◌||◌, ◌==◌, nat_le, Bool, true, false, length, slice_get, Some, unwrap_or, Result, Ok, Err}
use Rattle.apei_space.specs.Calls.{Call}
use Rattle.erst_entries.specs.declared.entries.Entry.{Entry}
use Rattle.erst_entries.specs.Programs.{Listed}
use Rattle.erst_interp.specs.declared.configurations.Configuration.{Configuration}
use Rattle.erst_interp.specs.declared.configurations.Task.{Task}
use Rattle.erst_interp.specs.declared.stops.RunStop.{RunStop}
use Rattle.erst_interp.specs.declared.stops.RunStop.TheVariants.{Budget, NoAction}
use Rattle.erst_interp.specs.Configurations.{begin}
use Rattle.erst_interp.specs.Steps.{Step, Halt}

-- the actions that a table may leave without entries: the three beginnings, END_OPERATION and the dummy write
abbrev pub may_be_empty : ℕ → Bool
may_be_empty action = nat_le action 3 || action == 0xB

-- the action can be run
pub data HasProgram (program : Listed) : Type 0 where
  HasEntry : 0 < length program.entries → HasProgram program
  NeedsNone : may_be_empty program.action ≡ true → HasProgram program

-- the task of a place
abbrev pub task_of : Listed → ℕ → Entry → Configuration → Task
task_of program given entry c = record { entry = entry; given = given; len = length program.entries; at = c }

-- the steps of a run, one behind the other, from the first configuration on: those that are left of the budget, the
-- configuration, and the space
pub data Walk {W : Type 0} (allows : W → Call → W → Type 0) (program : Listed) (given budget : ℕ) (first : W) : ℕ → Configuration → W → Type 0 where
  Begun : Walk allows program given budget first budget begin first
  Then : (left : ℕ) (c : Configuration) (mid : W) (entry : Entry) (d : Configuration) (more after : ℕ) (new : W) →
      Walk allows program given budget first left c mid → slice_get program.entries c.place ≡ Some entry →
      Step allows (task_of program given entry c) mid d more new → after + more + 1 ≡ left → Walk allows program given budget first after d new

-- a run: its answer, the steps that are left, and the space after it
pub data Run {W : Type 0} (allows : W → Call → W → Type 0) (program : Listed) (given budget : ℕ) (first : W) : Result ℕ RunStop → ℕ → W → Type 0 where
  NoProgram : length program.entries ≡ 0 → may_be_empty program.action ≡ false → Run allows program given budget first (Err (NoAction program.action)) budget first
  Finishes : (left : ℕ) (c : Configuration) (last : W) → HasProgram program → Walk allows program given budget first left c last → length program.entries ≤ c.place →
      Run allows program given budget first (Ok (unwrap_or c.result given)) left last
  Exhausted : (c : Configuration) (last : W) → HasProgram program → Walk allows program given budget first 0 c last → c.place < length program.entries →
      Run allows program given budget first (Err Budget) 0 last
  Halts : (paid : ℕ) (c : Configuration) (mid : W) (entry : Entry) (stop : RunStop) (left : ℕ) (last : W) → HasProgram program →
      Walk allows program given budget first (paid + 1) c mid → slice_get program.entries c.place ≡ Some entry →
      Halt allows (task_of program given entry c) paid mid stop left last → Run allows program given budget first (Err stop) left last
