-- What a client does with a firmware's table, as runs: each from some state of the space to the state that it leaves.
use Rattle.std.specs.Prelude.{ℕ, List, Option, Result}
use Rattle.apei_space.specs.Calls.{Call}
use Rattle.erst_entries.specs.declared.actions.Action.{Action}
use Rattle.erst_entries.specs.declared.entries.Entry.{Entry}
use Rattle.erst_entries.specs.Layout.{Erst}
use Rattle.erst_interp.specs.declared.stops.RunStop.{RunStop}
use Rattle.erst_client.specs.declared.errors.AttachError.{AttachError}
use Rattle.erst_client.specs.declared.errors.ClientError.{ClientError}
use Rattle.erst_client.specs.declared.requests.Request.{Request}
use Rattle.erst_client.specs.Attaching.{Attaches}
use Rattle.erst_client.specs.Commands.{ClientState, Writes, Reads, Counts, Names}
use Rattle.erst_client.specs.Requests.{Performs}
use Rattle.erst_client.specs.Sequences.{Sequence}
use Rattle.erst_machine.specs.MachineState.{MachineState}
use Rattle.erst_machine.specs.Allowed.{Allows}
use Rattle.erst_machine.specs.OwnTables.{own_entries}
use Rattle.erst_commands.specs.Operations.{ClientOperation, requests_of}

-- a table and its space: the accesses that there are, the table's entries, and the machine that a state of the space shows
pub record TableOver (W : Type 0) : Type 1 where
  pub allows : W → Call → W → Type 0
  pub entries : List Entry
  pub shows : W → MachineState

-- the machine's own table, over the machine. `tells` says whether the flash tells its content
abbrev pub own_table : Type 0 → TableOver MachineState
own_table tells = record { allows = Allows tells; entries = own_entries; shows = λ state. state }

-- a run from a state: the steps that it is given, its answer, the steps that are left, and the state that it leaves
pub record RunFrom {W : Type 0} (first : W) (A : Type 0) : Type 0 where
  pub budget : ℕ
  pub answer : A
  pub left : ℕ
  pub last : W

abbrev pub CallFrom : {W : Type 0} → W → Type 0 → Type 0
CallFrom first T = RunFrom first (Result T ClientError)

-- the same run between the machines that are shown
abbrev pub shown_run : {W A : Type 0} {first : W} (table : TableOver W) → RunFrom first A → RunFrom (table.shows first) A
shown_run table run = record { budget = run.budget; answer = run.answer; left = run.left; last = table.shows run.last }

-- attaching to a table
abbrev pub IsAttaching : {W : Type 0} {first : W} → (W → Call → W → Type 0) → Erst → RunFrom first (Result ClientState AttachError) → Type 0
IsAttaching {first = first} allows erst run = Attaches allows erst run.budget first run.answer run.left run.last

-- the program of an action
abbrev pub IsProgram : {W : Type 0} {first : W} → TableOver W → Action → (given : ℕ) → RunFrom first (Result ℕ RunStop) → Type 0
IsProgram {first = first} table action given run = Performs table.allows table.entries action given run.budget first run.answer run.left run.last

-- the sequence of some requests by itself, that of an operation, a count, and a next
abbrev pub IsSequenceOf : {W : Type 0} {first : W} → TableOver W → Option (ℕ × ℕ) → List Request → CallFrom first (Unit {0}) → Type 0
IsSequenceOf {first = first} table timings requests run =
    Sequence table.allows table.entries timings requests run.budget first run.answer run.left run.last

abbrev pub IsSequence : {W : Type 0} {first : W} → TableOver W → Option (ℕ × ℕ) → ClientOperation → CallFrom first (Unit {0}) → Type 0
IsSequence table timings operation run = IsSequenceOf table timings (requests_of operation) run

abbrev pub IsCount : {W : Type 0} {first : W} → TableOver W → CallFrom first ℕ → Type 0
IsCount {first = first} table run = Counts table.allows table.entries run.budget first run.answer run.left run.last

abbrev pub IsNext : {W : Type 0} {first : W} → TableOver W → CallFrom first (Option ℕ) → Type 0
IsNext {first = first} table run = Names table.allows table.entries run.budget first run.answer run.left run.last

-- a client's write of some bytes, and its read of a record into a buffer that then holds other bytes
abbrev pub IsWrite : {W : Type 0} {first : W} → TableOver W → ClientState → List ℕ → CallFrom first (Unit {0}) → Type 0
IsWrite {first = first} table client bytes run = Writes table.allows client bytes run.budget first run.answer run.left run.last

abbrev pub IsRead : {W : Type 0} {first : W} → TableOver W → ClientState → ℕ → (out after : List ℕ) → CallFrom first ℕ → Type 0
IsRead {first = first} table client id out after run = Reads table.allows client id out run.budget first run.answer after run.left run.last
