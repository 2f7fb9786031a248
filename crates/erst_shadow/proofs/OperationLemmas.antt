-- What holds of the sequence of each operation.
use Rattle.std.proofs.Common.{ℕ, ◌≤◌, Option}
use Rattle.erst_machine.specs.MachineState.{MachineState, IsMachine}
use Rattle.erst_commands.specs.AsTheMap.{steps_given}
use Rattle.erst_commands.specs.Attached.{own_client}
use Rattle.erst_commands.specs.Causes.{HasItsCause, GoesThrough}
use Rattle.erst_commands.specs.Operations.{ClientOperation, WriteOperation, ReadOperation, ClearOperation, DummyWriteOperation, IsGivenRight}
use Rattle.erst_commands.specs.OwnPrograms.{OwnProgramsRun}
use Rattle.erst_commands.specs.Runs.{CallFrom, IsSequence}
use Rattle.erst_shadow.specs.ShadowCommands.{pieces_in}
use Rattle.erst_shadow.specs.ShadowRuns.{table_in, IsOwnSequence}
use Rattle.erst_shadow.proofs.CauseLemmas.{shadow_write_cause, shadow_clear_cause, shadow_read_cause, shadow_dummy_cause}
use Rattle.erst_shadow.proofs.CommandLemmas.{holds_pieces}
use Rattle.erst_shadow.proofs.EnoughLemmas.{write_through, clear_through, read_through, dummy_through}
use Rattle.erst_shadow.proofs.SequenceLemmas.{write_as_own, clear_as_own, read_as_own, dummy_as_own}

module _ (tells : Type 0) (own : OwnProgramsRun tells) (first : MachineState) (machine : IsMachine first) where
  pub operation_as_own : (timings : Option (ℕ × ℕ)) (operation : ClientOperation) (run : CallFrom first (Unit {0})) → IsSequence (table_in tells first) timings operation run
      → IsOwnSequence tells timings operation run
  operation_as_own timings WriteOperation run = write_as_own tells own (pieces_in first) timings run.budget first (holds_pieces first machine) run.answer run.left run.last
  operation_as_own timings (ReadOperation id) run = read_as_own tells own (pieces_in first) timings run.budget first (holds_pieces first machine) run.answer run.left run.last id
  operation_as_own timings (ClearOperation id) run = clear_as_own tells own (pieces_in first) timings run.budget first (holds_pieces first machine) run.answer run.left run.last id
  operation_as_own timings DummyWriteOperation run = dummy_as_own tells own (pieces_in first) timings run.budget first (holds_pieces first machine) run.answer run.left run.last

  pub operation_cause : (timings : Option (ℕ × ℕ)) (operation : ClientOperation) (run : CallFrom first (Unit {0})) → IsSequence (table_in tells first) timings operation run
      → HasItsCause first run.last run.answer
  operation_cause timings WriteOperation run = shadow_write_cause tells own (pieces_in first) timings run.budget first (holds_pieces first machine) run.answer run.left run.last
  operation_cause timings (ReadOperation id) run = shadow_read_cause tells own (pieces_in first) timings run.budget first (holds_pieces first machine) run.answer run.left run.last id
  operation_cause timings (ClearOperation id) run = shadow_clear_cause tells own (pieces_in first) timings run.budget first (holds_pieces first machine) run.answer run.left run.last id
  operation_cause timings DummyWriteOperation run = shadow_dummy_cause tells own (pieces_in first) timings run.budget first (holds_pieces first machine) run.answer run.left run.last

  pub operation_through : (operation : ClientOperation) → IsGivenRight operation → (run : CallFrom first (Unit {0})) → steps_given first ≤ run.budget
      → IsSequence (table_in tells first) (own_client first).timings operation run → GoesThrough run.answer
  operation_through WriteOperation given run enough = write_through tells own first machine run.budget enough run.answer run.left run.last
  operation_through (ReadOperation id) small run enough = read_through tells own first machine run.budget enough id small run.answer run.left run.last
  operation_through (ClearOperation id) small run enough = clear_through tells own first machine run.budget enough id small run.answer run.left run.last
  operation_through DummyWriteOperation given run enough = dummy_through tells own first machine run.budget enough run.answer run.left run.last
