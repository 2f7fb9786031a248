-- What the two moves of the table do over the machine.
use Rattle.std.specs.Prelude.{◌≡◌, ℕ, List}
use Rattle.erst_machine.specs.MachineState.{MachineState}

-- the machine with other bytes in its log range and its scratch memory
abbrev pub holding : (range scratch : List ℕ) → MachineState → MachineState
holding range scratch state = record state { memory = record state.memory { range = range; scratch = scratch } }

-- the same machine but for what these two hold
abbrev pub AgreesElsewhere : MachineState → MachineState → Type 0
AgreesElsewhere one other = one ≡ holding one.memory.range one.memory.scratch other
