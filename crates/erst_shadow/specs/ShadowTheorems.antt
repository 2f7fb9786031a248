-- What is proved of this table alone: of all runs from one state of the machine.
use Rattle.std.specs.Prelude.{◌≡◌, ℕ, ◌+◌, ◌≤◌, ◌<◌, ◌^◌, List, Option, Result, Ok}
use Rattle.record_model.specs.RecordMap.{Command, Clear, after}
use Rattle.record_store.specs.Store.{KeepsMap, abandoned, KeepsOrMakes, stored}
use Rattle.erst_client.specs.declared.errors.AttachError.{AttachError}
use Rattle.erst_client.specs.declared.requests.Request.{Request}
use Rattle.erst_client.specs.Commands.{ClientState}
use Rattle.erst_client.specs.Sequences.{clear_requests}
use Rattle.erst_machine.specs.MachineState.{MachineState}
use Rattle.erst_machine.specs.Allowed.{Allows}
use Rattle.erst_commands.specs.AsTheMap.{checks_of}
use Rattle.erst_commands.specs.Attached.{own_client}
use Rattle.erst_commands.specs.Causes.{GoesThrough}
use Rattle.erst_commands.specs.Operations.{ClientOperation, ReadOperation, ClearOperation, DummyWriteOperation, requests_of}
use Rattle.erst_commands.specs.Runs.{RunFrom, CallFrom, IsAttaching, IsSequence, IsWrite, IsRead}
use Rattle.erst_shadow.specs.ShadowTables.{shadow_erst}
use Rattle.erst_shadow.specs.ShadowCommands.{pieces_in, shadow_client, AttachesShadow, ShadowWriteAnswered, ShadowReadAnswered}
use Rattle.erst_shadow.specs.ShadowRuns.{table_in, IsOwnSequence, ChangesAsOwn, ReadsAsOwn, ChangesNothingAsOwn, shadow_steps}

-- attaching to the table finds its client, with eight steps or more
abbrev pub AttachingFindsShadowClient : (tells : Type 0) → MachineState → Type 0
AttachingFindsShadowClient tells first =
    (run : RunFrom first (Result ClientState AttachError)) → 8 ≤ run.budget → IsAttaching (Allows tells) (shadow_erst (pieces_in first)) run
    → AttachesShadow run.budget first run.answer run.left run.last

-- an operation's sequence is the same sequence by the machine's own table
abbrev pub EachSequenceIsTheMachinesOwn : (tells : Type 0) → MachineState → Type 0
EachSequenceIsTheMachinesOwn tells first =
    (timings : Option (ℕ × ℕ)) (operation : ClientOperation) (run : CallFrom first (Unit {0})) → IsSequence (table_in tells first) timings operation run
    → IsOwnSequence tells timings operation run

-- a clear's sequence and a dummy write's are as by the machine's own table
abbrev pub EachClearIsAsOwn : (tells : Type 0) → MachineState → Type 0
EachClearIsAsOwn tells first =
    (id : ℕ) → id < 2 ^ 64 → (run : CallFrom first (Unit {0})) → IsSequence (table_in tells first) (own_client first).timings (ClearOperation id) run
    → ChangesAsOwn (pieces_in first) id (Clear id) (clear_requests id) run

abbrev pub EachDummyWriteIsAsOwn : (tells : Type 0) → MachineState → Type 0
EachDummyWriteIsAsOwn tells first =
    (run : CallFrom first (Unit {0})) → IsSequence (table_in tells first) (own_client first).timings DummyWriteOperation run
    → ChangesNothingAsOwn (pieces_in first) run

-- so are a client's write of any bytes, and its read into any buffer, but for records that are longer than the pieces
abbrev pub ClientWritesByPieces : (tells : Type 0) → MachineState → Type 0
ClientWritesByPieces tells first =
    (bytes : List ℕ) (run : CallFrom first (Unit {0})) → IsWrite (table_in tells first) (shadow_client first) bytes run
    → ShadowWriteAnswered bytes run.budget first run.answer run.left run.last

abbrev pub ClientReadsByPieces : (tells : Type 0) → MachineState → Type 0
ClientReadsByPieces tells first =
    (id : ℕ) → id < 2 ^ 64 → (out after : List ℕ) (run : CallFrom first ℕ) → IsRead (table_in tells first) (shadow_client first) id out after run
    → ShadowReadAnswered id out run.budget first run.answer after run.left run.last

-- power lost at any flash step of a write or clear leaves the records from before it or after it, and of a read it leaves the records;
-- a dummy write gives up what the store had begun
abbrev pub EachChangeLeavesOneOfTwo : MachineState → Type 0
EachChangeLeavesOneOfTwo first =
    (pieces id : ℕ) (command : Command) (requests : List Request) (run : CallFrom first (Unit {0})) → ChangesAsOwn pieces id command requests run
    → KeepsOrMakes first.device.store run.last.device.store (after first.device.store.layout command (stored first.device.store))

abbrev pub EachReadLeavesTheRecords : MachineState → Type 0
EachReadLeavesTheRecords first =
    (pieces id : ℕ) (run : CallFrom first (Unit {0})) → ReadsAsOwn pieces id run → KeepsMap first.device.store run.last.device.store

abbrev pub EachDummyWriteGivesUp : MachineState → Type 0
EachDummyWriteGivesUp first =
    (pieces : ℕ) (run : CallFrom first (Unit {0})) → ChangesNothingAsOwn pieces run → run.last.device.store ≡ abandoned first.device.store

-- a sequence that needs so many steps took them where it goes through, and goes through where it is given them
pub record NeedsExactly {first : MachineState} (steps : ℕ) (run : CallFrom first (Unit {0})) : Type 0 where
  pub took : GoesThrough run.answer → run.left + steps ≡ run.budget
  pub enough : steps ≤ run.budget → GoesThrough run.answer

-- one of a write or clear, with steps for some checks: with as many checks as changes it goes through, and none that does makes more;
-- one that is taken makes just so many
pub record NeedsItsChecks {first : MachineState} (steps : (checks : ℕ) → ℕ) (most : ℕ) (run : CallFrom first (Unit {0})) : Type 0 where
  pub taken : run.answer ≡ Ok tt → run.left + steps most ≡ run.budget
  pub took : GoesThrough run.answer → (checks : ℕ) × (run.left + steps checks ≡ run.budget) × (checks ≤ most)
  pub enough : steps most ≤ run.budget → GoesThrough run.answer

abbrev pub EachChangeNeedsExactly : ClientOperation → (id : ℕ) → MachineState → Type 0
EachChangeNeedsExactly operation id first =
    (pieces : ℕ) (command : Command) (run : CallFrom first (Unit {0})) → ChangesAsOwn pieces id command (requests_of operation) run
    → NeedsItsChecks (shadow_steps pieces operation) (checks_of first command) run

abbrev pub EachDummyWriteNeedsExactly : MachineState → Type 0
EachDummyWriteNeedsExactly first =
    (pieces : ℕ) (run : CallFrom first (Unit {0})) → ChangesNothingAsOwn pieces run → NeedsExactly (shadow_steps pieces DummyWriteOperation 1) run

abbrev pub EachReadNeedsExactly : MachineState → Type 0
EachReadNeedsExactly first =
    (pieces id : ℕ) (run : CallFrom first (Unit {0})) → ReadsAsOwn pieces id run → NeedsExactly (shadow_steps pieces (ReadOperation id) 1) run
