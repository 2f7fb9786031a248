-- What is proved of a client's calls by a table: of all runs from one state of its space.
use Rattle.std.specs.Prelude.{◌≡◌, ℕ, ◌≤◌, ◌<◌, ◌^◌, List, length, Option, Result, Err}
use Rattle.base_model.specs.Bytes.{part, number_at, put_at}
use Rattle.record_model.specs.RecordMap.{Command, Write, Clear}
use Rattle.erst_interp.specs.declared.stops.RunStop.TheVariants.{Budget}
use Rattle.erst_client.specs.declared.errors.AttachError.{AttachError}
use Rattle.erst_client.specs.declared.errors.ClientError.TheVariants.{Stopped}
use Rattle.erst_client.specs.declared.requests.Request.{Request}
use Rattle.erst_client.specs.Commands.{ClientState}
use Rattle.erst_client.specs.Sequences.{write_requests, clear_requests, dummy_requests}
use Rattle.erst_client.specs.Steps.{steps_needed}
use Rattle.erst_machine.specs.MachineState.{MachineState, reach_in}
use Rattle.erst_machine.specs.Allowed.{Allows}
use Rattle.erst_machine.specs.OwnTables.{own_entries, own_erst}
use Rattle.erst_commands.specs.AsTheMap.{checks_of, steps_given, ChangesAsTheMap}
use Rattle.erst_commands.specs.Attached.{own_client, AttachesOwn}
use Rattle.erst_commands.specs.Causes.{HasItsCause, GoesThrough}
use Rattle.erst_commands.specs.Changes.{HoldsRecord, DummyCommand}
use Rattle.erst_commands.specs.Operations.{ClientOperation, WriteOperation, ReadOperation, ClearOperation, DummyWriteOperation, IsGivenRight}
use Rattle.erst_commands.specs.Runs.{TableOver, RunFrom, CallFrom, shown_run, IsAttaching, IsSequence, IsCount, IsNext, IsWrite, IsRead}
use Rattle.erst_commands.specs.Looks.{AsksOnce, CountMade, NextMade}
use Rattle.erst_commands.specs.Reads.{ReadCommand, ReadAnswered}
use Rattle.erst_commands.specs.Writes.{WriteAnswered}

-- the timings that a client of the machine finds
abbrev pub timings_in : {W : Type 0} → TableOver W → W → Option (ℕ × ℕ)
timings_in table first = (own_client (table.shows first)).timings

-- attaching to the machine's own table finds its client, with eight steps or more
abbrev pub AttachingFindsItsClient : (tells : Type 0) → MachineState → Type 0
AttachingFindsItsClient tells first =
    (run : RunFrom first (Result ClientState AttachError)) → 8 ≤ run.budget → IsAttaching (Allows tells) own_erst run
    → AttachesOwn run.budget first run.answer run.left run.last

-- a count and a next
abbrev pub EachCountIsTheMaps : {W : Type 0} → TableOver W → W → Type 0
EachCountIsTheMaps table first =
    (run : CallFrom first ℕ) → IsCount table run
    → AsksOnce (CountMade (table.shows first) (table.shows run.last)) run.budget (table.shows first) (table.shows run.last) run.answer run.left

abbrev pub EachNextIsTheMaps : {W : Type 0} → TableOver W → W → Type 0
EachNextIsTheMaps table first =
    (run : CallFrom first (Option ℕ)) → IsNext table run
    → AsksOnce (NextMade (table.shows first) (table.shows run.last)) run.budget (table.shows first) (table.shows run.last) run.answer run.left

-- a write's sequence, from a log range that begins with the record; a clear's; a dummy write's; and a read's
abbrev pub EachWriteIsTheMaps : {W : Type 0} → TableOver W → W → Type 0
EachWriteIsTheMaps table first =
    (id : ℕ) (bytes : List ℕ) → HoldsRecord (table.shows first).memory.range id bytes → length bytes ≤ reach_in (table.shows first).device
    → (run : CallFrom first (Unit {0})) → IsSequence table (timings_in table first) WriteOperation run
    → ChangesAsTheMap id (Write id bytes) write_requests (shown_run table run)

abbrev pub EachClearIsTheMaps : {W : Type 0} → TableOver W → W → Type 0
EachClearIsTheMaps table first =
    (id : ℕ) → id < 2 ^ 64 → (run : CallFrom first (Unit {0})) → IsSequence table (timings_in table first) (ClearOperation id) run
    → ChangesAsTheMap id (Clear id) (clear_requests id) (shown_run table run)

abbrev pub EachDummyWriteChangesNothing : {W : Type 0} → TableOver W → W → Type 0
EachDummyWriteChangesNothing table first =
    (run : CallFrom first (Unit {0})) → IsSequence table (timings_in table first) DummyWriteOperation run
    → DummyCommand (table.shows first) (table.shows run.last) dummy_requests run.budget run.answer run.left

abbrev pub EachReadIsTheMaps : {W : Type 0} → TableOver W → W → Type 0
EachReadIsTheMaps table first =
    (id : ℕ) → id < 2 ^ 64 → (timings : Option (ℕ × ℕ)) (run : CallFrom first (Unit {0})) → IsSequence table timings (ReadOperation id) run
    → ReadCommand (table.shows first) (table.shows run.last) id run.budget run.answer run.left

-- a client's write of any bytes, and its read into any buffer
abbrev pub ClientWritesAsTheMap : {W : Type 0} → TableOver W → ClientState → W → Type 0
ClientWritesAsTheMap table client first =
    (bytes : List ℕ) (run : CallFrom first (Unit {0})) → IsWrite table client bytes run
    → WriteAnswered bytes run.budget (table.shows first) run.answer run.left (table.shows run.last)

abbrev pub ClientReadsAsTheMap : {W : Type 0} → TableOver W → ClientState → W → Type 0
ClientReadsAsTheMap table client first =
    (id : ℕ) → id < 2 ^ 64 → (out after : List ℕ) (run : CallFrom first ℕ) → IsRead table client id out after run
    → ReadAnswered id out run.budget (table.shows first) run.answer after run.left (table.shows run.last)

-- the flash's count of faults never falls, and `Hardware` is answered only where it rose
abbrev pub RunHasItsCause : {W T : Type 0} {first : W} → TableOver W → CallFrom first T → Type 0
RunHasItsCause {first = first} table run = HasItsCause (table.shows first) (table.shows run.last) run.answer

abbrev pub EachSequenceHasItsCause : {W : Type 0} → TableOver W → W → Type 0
EachSequenceHasItsCause table first =
    (timings : Option (ℕ × ℕ)) (operation : ClientOperation) (run : CallFrom first (Unit {0})) → IsSequence table timings operation run → RunHasItsCause table run

abbrev pub EachCountHasItsCause : {W : Type 0} → TableOver W → W → Type 0
EachCountHasItsCause table first = (run : CallFrom first ℕ) → IsCount table run → RunHasItsCause table run

abbrev pub EachNextHasItsCause : {W : Type 0} → TableOver W → W → Type 0
EachNextHasItsCause table first = (run : CallFrom first (Option ℕ)) → IsNext table run → RunHasItsCause table run

abbrev pub EachWriteHasItsCause : {W : Type 0} → TableOver W → ClientState → W → Type 0
EachWriteHasItsCause table client first = (bytes : List ℕ) (run : CallFrom first (Unit {0})) → IsWrite table client bytes run → RunHasItsCause table run

abbrev pub EachReadHasItsCause : {W : Type 0} → TableOver W → ClientState → (id : ℕ) → W → Type 0
EachReadHasItsCause table client id first = (out after : List ℕ) (run : CallFrom first ℕ) → IsRead table client id out after run → RunHasItsCause table run

-- with the steps that are enough by the machine's timings a run is never stopped, and never late
abbrev pub HasEnough : {W A : Type 0} {first : W} → TableOver W → RunFrom first A → Type 0
HasEnough {first = first} table run = steps_given (table.shows first) ≤ run.budget

abbrev pub EachSequenceGoesThrough : {W : Type 0} → TableOver W → W → Type 0
EachSequenceGoesThrough table first =
    (operation : ClientOperation) → IsGivenRight operation → (run : CallFrom first (Unit {0})) → HasEnough table run
    → IsSequence table (timings_in table first) operation run → GoesThrough run.answer

abbrev pub EachCountGoesThrough : {W : Type 0} → TableOver W → W → Type 0
EachCountGoesThrough table first = (run : CallFrom first ℕ) → HasEnough table run → IsCount table run → GoesThrough run.answer

abbrev pub EachNextGoesThrough : {W : Type 0} → TableOver W → W → Type 0
EachNextGoesThrough table first = (run : CallFrom first (Option ℕ)) → HasEnough table run → IsNext table run → GoesThrough run.answer

abbrev pub EachWriteGoesThrough : {W : Type 0} → TableOver W → ClientState → W → Type 0
EachWriteGoesThrough table client first =
    (bytes : List ℕ) (run : CallFrom first (Unit {0})) → HasEnough table run → IsWrite table client bytes run → GoesThrough run.answer

abbrev pub EachReadGoesThrough : {W : Type 0} → TableOver W → ClientState → W → Type 0
EachReadGoesThrough table client first =
    (id : ℕ) → id < 2 ^ 64 → (out after : List ℕ) (run : CallFrom first ℕ) → HasEnough table run → IsRead table client id out after run → GoesThrough run.answer

-- the steps that are enough by the machine's timings are so for each operation, whose steps a table says for some number of checks
pub record StepsAreEnough (steps : ClientOperation → (checks : ℕ) → ℕ) (state : MachineState) : Type 0 where
  pub write : (id : ℕ) (bytes : List ℕ) → length bytes ≤ reach_in state.device → steps WriteOperation (checks_of state (Write id bytes)) ≤ steps_given state
  pub clear : (id : ℕ) → steps (ClearOperation id) (checks_of state (Clear id)) ≤ steps_given state
  pub read : (id : ℕ) → steps (ReadOperation id) 1 ≤ steps_given state
  pub dummy : steps DummyWriteOperation 1 ≤ steps_given state

-- by the machine's own table, a write or a clear with the steps of its changes is not stopped
abbrev pub NoChangeWithItsStepsIsStopped : MachineState → Type 0
NoChangeWithItsStepsIsStopped first =
    (id : ℕ) (command : Command) (requests : List Request) (run : CallFrom first (Unit {0})) → steps_needed own_entries requests (checks_of first command) ≤ run.budget
    → ChangesAsTheMap id command requests run → run.answer ≡ Err (Stopped Budget) → ⊥

-- a record whose header says its length is shown whole by a log range that begins with it
abbrev pub EachFramedRecordIsShownWhole : Type 0
EachFramedRecordIsShownWhole =
    (range body : List ℕ) → 128 ≤ length body → length body ≤ length range → number_at body 20 4 ≡ length body
    → (number_at (put_at range 0 body) 20 4 ≡ length body) × (part (put_at range 0 body) 0 (length body) ≡ body)
