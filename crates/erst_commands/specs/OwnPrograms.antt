-- The programs of the machine's own table over the machine: what a run of each does. `tells` says whether the flash tells its content.
use Rattle.std.specs.Prelude.{◌≡◌, ℕ, ◌+◌, ◌%◌, ◌^◌, Bool, true, false, ◌==◌, ◌||◌, not, is_some, if◌then◌else◌, List, Result, Ok, Err}
use Rattle.erst_entries.specs.declared.actions.Action.{Action}
use Rattle.erst_entries.specs.declared.actions.Action.TheVariants.{EndOperation, SetRecordOffset, SetRecordIdentifier, CheckBusyStatus, GetCommandStatus, GetRecordCount}
use Rattle.erst_entries.specs.Actions.{code_of}
use Rattle.erst_interp.specs.declared.stops.RunStop.{RunStop}
use Rattle.erst_interp.specs.declared.stops.RunStop.TheVariants.{Budget}
use Rattle.erst_client.specs.Requests.{Performs}
use Rattle.erst_client.specs.Steps.{steps_of}
use Rattle.erst_device.specs.Actions.{begun_by, waits}
use Rattle.erst_machine.specs.MachineState.{MachineState}
use Rattle.erst_machine.specs.Allowed.{Allows, ActsOn}
use Rattle.erst_machine.specs.OwnTables.{own_entries}

-- the machine with a number in VALUE
abbrev pub with_value : ℕ → MachineState → MachineState
with_value value state = record state { device = record state.device { value = value } }

-- the machine with these bytes in its log range
abbrev pub with_range : List ℕ → MachineState → MachineState
with_range range state = record state { memory = record state.memory { range = range } }

-- the actions whose programs write the given value to VALUE first
abbrev pub takes_value : Action → Bool
takes_value action = elim action [ SetRecordOffset ↦ true | SetRecordIdentifier ↦ true | other ↦ false ]

-- those whose programs read VALUE at their end: all but those that begin, end, set or execute something
abbrev pub tells_value : Action → Bool
tells_value EndOperation = false
tells_value action = not (is_some (begun_by action) || waits action)

-- the machine in which an action is made
abbrev pub given_to : Action → ℕ → MachineState → MachineState
given_to action given state = if takes_value action then with_value (given % 2 ^ 64) state else state

-- what a run answers, of the number in VALUE after the action: whether it is 1, its low bits, or the given value where it is not read
abbrev pub answer_of : Action → ℕ → ℕ → ℕ
answer_of CheckBusyStatus given value = if value % 2 ^ 64 == 1 then 1 else 0
answer_of GetCommandStatus given value = value % 2 ^ 8
answer_of GetRecordCount given value = value % 2 ^ 32
answer_of action given value = if tells_value action then value % 2 ^ 64 else given

-- a run of an action's program: the action is made in the machine with its value given, one step an entry, or the budget ran out
-- before the first entry, or between the two
pub data OwnRun (tells : Type 0) (action : Action) (given budget : ℕ) (first : MachineState) : Result ℕ RunStop → ℕ → MachineState → Type 0 where
  IsMade : (left : ℕ) (last : MachineState) → ActsOn tells (given_to action given first) (code_of action) last → left + steps_of own_entries action ≡ budget
      → OwnRun tells action given budget first (Ok (answer_of action given last.device.value)) left last
  StopsAtOnce : budget ≡ 0 → OwnRun tells action given budget first (Err Budget) 0 first
  StopsBefore : budget ≡ 1 → takes_value action ≡ true → OwnRun tells action given budget first (Err Budget) 0 (given_to action given first)
  StopsBehind : (last : MachineState) → budget ≡ 1 → tells_value action ≡ true → ActsOn tells first (code_of action) last → OwnRun tells action given budget first (Err Budget) 0 last

-- each program runs so
abbrev pub OwnProgramsRun : Type 0 → Type 0
OwnProgramsRun tells = (action : Action) (given budget : ℕ) (first : MachineState) (answer : Result ℕ RunStop) (left : ℕ) (last : MachineState)
    → Performs (Allows tells) own_entries action given budget first answer left last → OwnRun tells action given budget first answer left last
