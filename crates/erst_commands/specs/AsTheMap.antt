-- Runs over the machine that are answered as the record map answers them.
use Rattle.std.specs.Prelude.{ℕ, max, List}
use Rattle.record_model.specs.RecordMap.{Command, changes_of}
use Rattle.erst_client.specs.declared.requests.Request.{Request}
use Rattle.erst_client.specs.Timings.{enough_steps}
use Rattle.erst_machine.specs.MachineState.{MachineState, records_of}
use Rattle.erst_commands.specs.Attached.{own_client}
use Rattle.erst_commands.specs.Changes.{ChangeCommand}
use Rattle.erst_commands.specs.Runs.{CallFrom}

-- the runs of CHECK_BUSY_STATUS that a write or a clear needs: one for each flash change, and one where there is none
abbrev pub checks_of : MachineState → Command → ℕ
checks_of state command = max 1 (changes_of state.device.store.layout command (records_of state))

-- the steps that are enough by the machine's timings
abbrev pub steps_given : MachineState → ℕ
steps_given state = enough_steps (own_client state).timings

-- a write's or a clear's sequence
abbrev pub ChangesAsTheMap : {first : MachineState} → (id : ℕ) → Command → List Request → CallFrom first (Unit {0}) → Type 0
ChangesAsTheMap {first = first} id command requests run = ChangeCommand first run.last id command requests run.budget run.answer run.left
