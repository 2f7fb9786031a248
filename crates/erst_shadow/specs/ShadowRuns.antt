-- Runs by this table over the machine, and what they come to.
use Rattle.std.specs.Prelude.{ℕ, ◌+◌, ◌*◌, List, Option}
use Rattle.record_model.specs.RecordMap.{Command}
use Rattle.erst_client.specs.declared.requests.Request.{Request}
use Rattle.erst_machine.specs.MachineState.{MachineState}
use Rattle.erst_machine.specs.Allowed.{Allows}
use Rattle.erst_commands.specs.Operations.{ClientOperation, WriteOperation, ReadOperation, ClearOperation, DummyWriteOperation, requests_of}
use Rattle.erst_commands.specs.Runs.{TableOver, CallFrom}
use Rattle.erst_shadow.specs.ShadowTables.{shadow_entries}
use Rattle.erst_shadow.specs.ShadowSequences.{SequenceAsOwn}
use Rattle.erst_shadow.specs.ShadowCommands.{pieces_in, ShadowChange, ShadowDummy, ShadowRead}

-- the table with so many pieces, and that of a machine. `tells` says whether the flash tells its content
abbrev pub table_of : (tells : Type 0) (pieces : ℕ) → TableOver MachineState
table_of tells pieces = record { allows = Allows tells; entries = shadow_entries pieces; shows = λ state. state }

abbrev pub table_in : (tells : Type 0) → MachineState → TableOver MachineState
table_in tells state = table_of tells (pieces_in state)

-- the same sequence by the machine's own table
abbrev pub IsOwnSequence : {first : MachineState} → Type 0 → Option (ℕ × ℕ) → ClientOperation → CallFrom first (Unit {0}) → Type 0
IsOwnSequence {first = first} tells timings operation run =
    SequenceAsOwn tells (pieces_in first) timings (requests_of operation) run.budget first run.answer run.left run.last

-- a write's or a clear's sequence, a read's, and a dummy write's
abbrev pub ChangesAsOwn : {first : MachineState} → (pieces id : ℕ) → Command → List Request → CallFrom first (Unit {0}) → Type 0
ChangesAsOwn {first = first} pieces id command requests run = ShadowChange pieces first run.last id command requests run.budget run.answer run.left

abbrev pub ReadsAsOwn : {first : MachineState} → (pieces id : ℕ) → CallFrom first (Unit {0}) → Type 0
ReadsAsOwn {first = first} pieces id run = ShadowRead pieces first run.last id run.budget run.answer run.left

abbrev pub ChangesNothingAsOwn : {first : MachineState} → (pieces : ℕ) → CallFrom first (Unit {0}) → Type 0
ChangesNothingAsOwn {first = first} pieces run = ShadowDummy pieces first run.last run.budget run.answer run.left

-- the steps that an operation needs: 16 a piece, 18, and 2 for each check whether it is busy; a read 2 more
abbrev pub shadow_steps : (pieces : ℕ) → ClientOperation → (checks : ℕ) → ℕ
shadow_steps pieces WriteOperation checks = 16 * pieces + 18 + 2 * checks
shadow_steps pieces (ReadOperation id) checks = 16 * pieces + 20 + 2 * checks
shadow_steps pieces (ClearOperation id) checks = 16 * pieces + 18 + 2 * checks
shadow_steps pieces DummyWriteOperation checks = 16 * pieces + 18 + 2 * checks
