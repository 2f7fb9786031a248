-- What holds of the sequence of each operation.
use Rattle.std.proofs.Common.{ℕ, ◌≤◌, Option}
use Rattle.erst_machine.specs.MachineState.{MachineState, IsMachine}
use Rattle.erst_commands.specs.AsTheMap.{steps_given}
use Rattle.erst_commands.specs.Causes.{HasItsCause, GoesThrough}
use Rattle.erst_commands.specs.Operations.{ClientOperation, WriteOperation, ReadOperation, ClearOperation, DummyWriteOperation, IsGivenRight}
use Rattle.erst_commands.specs.OwnPrograms.{OwnProgramsRun}
use Rattle.erst_commands.specs.Attached.{own_client}
use Rattle.erst_commands.specs.Runs.{own_table, CallFrom, IsSequence}
use Rattle.erst_commands.proofs.CallCauses.{write_cause, read_cause, clear_cause, dummy_cause}
use Rattle.erst_commands.proofs.EnoughLemmas.{has_steps}
use Rattle.erst_commands.proofs.ThroughLemmas.{write_through, read_through, clear_through, dummy_through}

module _ (tells : Type 0) (own : OwnProgramsRun tells) (first : MachineState) where
  pub operation_cause : (timings : Option (ℕ × ℕ)) (operation : ClientOperation) (run : CallFrom first (Unit {0})) → IsSequence (own_table tells) timings operation run
      → HasItsCause first run.last run.answer
  operation_cause timings WriteOperation run = write_cause tells own timings run.budget first run.answer run.left run.last
  operation_cause timings (ReadOperation id) run = read_cause tells own id timings run.budget first run.answer run.left run.last
  operation_cause timings (ClearOperation id) run = clear_cause tells own id timings run.budget first run.answer run.left run.last
  operation_cause timings DummyWriteOperation run = dummy_cause tells own timings run.budget first run.answer run.left run.last

  pub operation_through : IsMachine first → (operation : ClientOperation) → IsGivenRight operation → (run : CallFrom first (Unit {0})) → steps_given first ≤ run.budget
      → IsSequence (own_table tells) (own_client first).timings operation run → GoesThrough run.answer
  operation_through machine WriteOperation given run enough =
      write_through tells own first run.budget (has_steps first run.budget enough) machine.sizes.range run.answer run.left run.last
  operation_through machine (ReadOperation id) small run enough =
      read_through tells own first run.budget (has_steps first run.budget enough) machine.sizes.range id small run.answer run.left run.last
  operation_through machine (ClearOperation id) small run enough =
      clear_through tells own first run.budget (has_steps first run.budget enough) machine.sizes.range id small run.answer run.left run.last
  operation_through machine DummyWriteOperation given run enough =
      dummy_through tells own first run.budget (has_steps first run.budget enough) machine.sizes.range run.answer run.left run.last
