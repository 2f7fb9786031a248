-- The requests that start an operation, up to EXECUTE_OPERATION.
use Rattle.std.proofs.Common.{◌≡◌, ℕ, ◌+◌, ◌^◌, ◌<◌, List, [], ◌∷◌, Result, refl}
use Rattle.erst_entries.specs.declared.actions.Action.{Action}
use Rattle.erst_entries.specs.declared.actions.Action.TheVariants.{BeginWriteOperation, BeginReadOperation, BeginClearOperation, BeginDummyWriteOperation}
use Rattle.erst_entries.specs.declared.actions.Action.TheVariants.{SetRecordOffset, SetRecordIdentifier, ExecuteOperation}
use Rattle.erst_interp.specs.declared.stops.RunStop.{RunStop}
use Rattle.erst_client.specs.declared.requests.Request.{Request}
use Rattle.erst_client.specs.Requests.{Performs, Asks}
use Rattle.erst_client.specs.Sequences.{write_requests, read_requests, clear_requests, dummy_requests}
use Rattle.erst_device.specs.declared.registers.Operation.{Operation}
use Rattle.erst_device.specs.declared.registers.Operation.TheVariants as operations
use Rattle.erst_device.specs.DeviceState.{DeviceState, IsStill}
use Rattle.erst_device.specs.Starts.{Starts}
use Rattle.erst_machine.specs.MachineState.{MachineState}
use Rattle.erst_machine.specs.Allowed.{Allows}
use Rattle.erst_machine.specs.OwnTables.{own_entries}
use Rattle.erst_commands.specs.OwnPrograms.{OwnProgramsRun}
use Rattle.erst_commands.proofs.MachineSteps.{on_device}
use Rattle.erst_commands.proofs.OwnProgramLemmas.{steps-begin_write, steps-begin_read, steps-begin_clear, steps-begin_dummy}
use Rattle.erst_commands.proofs.SequenceLemmas.{Untouched, RunTo, Opened, ask_none, ask_more, begun_device, begin_run, offset_run, identifier_run, execute_run}

-- EXECUTE_OPERATION was made by a device
abbrev pub IsOn : (tells : Type 0) → MachineState → DeviceState → MachineState → Type 0
IsOn tells first device w = Starts tells device first.memory.range w.device × (w ≡ on_device first w.device)

-- a device that has begun, and was given an offset, an identifier, or both
abbrev pub offset_device : Operation → DeviceState → DeviceState
offset_device operation old = record (begun_device operation old) { value = 0; offset = 0 }

abbrev pub clearing_device : DeviceState → ℕ → DeviceState
clearing_device old number = record (begun_device operations.Clear old) { value = number; id = number }

abbrev pub reading_device : DeviceState → ℕ → DeviceState
reading_device old number = record (begun_device operations.Read old) { value = number; offset = 0; id = number }

module _ (tells : Type 0) (own : OwnProgramsRun tells) (first : MachineState) where
  execute_opens : (device : DeviceState) → IsStill device → Untouched first (on_device first device) →
      (budget : ℕ) (mid : MachineState) (result : Result (List ℕ) RunStop) (left : ℕ) (last : MachineState) → mid ≡ on_device first device
      → Asks (Allows tells) own_entries (record { action = ExecuteOperation; given = 0 } ∷ []) budget mid result left last → Opened first (IsOn tells first device) 1 budget result left last
  execute_opens device still untouched budget mid result left last mid_is asks =
      ask_more tells first (IsOn tells first device) (IsOn tells first device) 1 0 _ _ budget mid result left last
      (λ result left last run. execute_run tells own first device still untouched budget mid result left last mid_is run)
      (λ budget mid result left last mid_is asks. ask_none tells first (IsOn tells first device) budget mid result left last mid_is asks)
      asks

  -- what begins an operation and sets its offset, and the requests behind them
  offset_then : (action : Action) (operation : Operation) (device : DeviceState) (more : ℕ) (rest : List Request)
      → ((budget : ℕ) (result : Result ℕ RunStop) (left : ℕ) (last : MachineState) → Performs (Allows tells) own_entries action 0 budget first result left last
      → RunTo first (λ w. w ≡ on_device first (begun_device operation first.device)) 1 budget result left last)
      → ((budget : ℕ) (mid : MachineState) (result : Result (List ℕ) RunStop) (left : ℕ) (last : MachineState) → mid ≡ on_device first (offset_device operation first.device)
      → Asks (Allows tells) own_entries rest budget mid result left last → Opened first (IsOn tells first device) more budget result left last)
      → (budget : ℕ) (result : Result (List ℕ) RunStop) (left : ℕ) (last : MachineState)
      → Asks (Allows tells) own_entries (record { action = action; given = 0 } ∷ record { action = SetRecordOffset; given = 0 } ∷ rest) budget first result left last
      → Opened first (IsOn tells first device) (1 + (2 + more)) budget result left last
  offset_then action operation device more rest begins goes_on budget result left last asks =
      ask_more tells first (λ w. w ≡ on_device first (begun_device operation first.device)) (IsOn tells first device) 1 (2 + more) _ _ budget first result left last
      (λ result left last run. begins budget result left last run)
      (λ budget mid result left last mid_is asks.
      ask_more tells first (λ w. w ≡ on_device first (offset_device operation first.device)) (IsOn tells first device) 2 more _ _ budget mid result left last
      (λ result left last run. offset_run tells own first (begun_device operation first.device) (record { no_read = refl; no_change = refl })
      (record { flash = refl; layout = refl; cursor = refl; given_up = refl; elsewhere = refl }) budget mid result left last mid_is run)
      goes_on
      asks)
      asks

  -- the requests of a write, and of a dummy write
  offset_opens : (action : Action) (operation : Operation)
      → ((budget : ℕ) (result : Result ℕ RunStop) (left : ℕ) (last : MachineState) → Performs (Allows tells) own_entries action 0 budget first result left last
      → RunTo first (λ w. w ≡ on_device first (begun_device operation first.device)) 1 budget result left last)
      → (budget : ℕ) (result : Result (List ℕ) RunStop) (left : ℕ) (last : MachineState)
      → Asks (Allows tells) own_entries (record { action = action; given = 0 } ∷ record { action = SetRecordOffset; given = 0 } ∷ record
      { action = ExecuteOperation; given = 0 } ∷ []) budget first result left last
      → Opened first (IsOn tells first (offset_device operation first.device)) 4 budget result left last
  offset_opens action operation begins =
      offset_then action operation (offset_device operation first.device) 1 (record { action = ExecuteOperation; given = 0 } ∷ []) begins
      (execute_opens (offset_device operation first.device) (record { no_read = refl; no_change = refl }) (record { flash = refl; layout = refl; cursor = refl; given_up = refl; elsewhere = refl }))

  pub write_opens : (budget : ℕ) (result : Result (List ℕ) RunStop) (left : ℕ) (last : MachineState) → Asks (Allows tells) own_entries write_requests budget first result left last
      → Opened first (IsOn tells first (offset_device operations.Write first.device)) 4 budget result left last
  write_opens = offset_opens BeginWriteOperation operations.Write (begin_run tells own first BeginWriteOperation operations.Write refl refl refl (λ m. refl) steps-begin_write refl)

  pub dummy_opens : (budget : ℕ) (result : Result (List ℕ) RunStop) (left : ℕ) (last : MachineState) → Asks (Allows tells) own_entries dummy_requests budget first result left last
      → Opened first (IsOn tells first (offset_device operations.Dummy first.device)) 4 budget result left last
  dummy_opens = offset_opens BeginDummyWriteOperation operations.Dummy (begin_run tells own first BeginDummyWriteOperation operations.Dummy refl refl refl (λ m. refl) steps-begin_dummy refl)

  -- setting the identifier, and then the execution
  identifier_opens : (id : ℕ) → id < 2 ^ 64 → (device : DeviceState) → IsStill device → Untouched first (on_device first device) →
      IsStill (record device { value = id; id = id }) → Untouched first (on_device first (record device { value = id; id = id }))
      → (budget : ℕ) (mid : MachineState) (result : Result (List ℕ) RunStop) (left : ℕ) (last : MachineState) → mid ≡ on_device first device
      → Asks (Allows tells) own_entries (record { action = SetRecordIdentifier; given = id } ∷ record { action = ExecuteOperation; given = 0 } ∷ []) budget mid result left last
      → Opened first (IsOn tells first (record device { value = id; id = id })) 3 budget result left last
  identifier_opens id small device still untouched still_after untouched_after budget mid result left last mid_is asks =
      ask_more tells first (λ w. w ≡ on_device first (record device { value = id; id = id })) (IsOn tells first (record device { value = id; id = id })) 2 1 _ _ budget mid result left last
      (λ result left last run. identifier_run tells own first id small device still untouched budget mid result left last mid_is run)
      (execute_opens (record device { value = id; id = id }) still_after untouched_after)
      asks

  pub clear_opens : (id : ℕ) → id < 2 ^ 64 → (budget : ℕ) (result : Result (List ℕ) RunStop) (left : ℕ) (last : MachineState) →
      Asks (Allows tells) own_entries (clear_requests id) budget first result left last
      → Opened first (IsOn tells first (clearing_device first.device id)) 4 budget result left last
  clear_opens id small budget result left last asks =
      ask_more tells first (λ w. w ≡ on_device first (begun_device operations.Clear first.device)) (IsOn tells first (clearing_device first.device id)) 1 3 _ _ budget first result left last
      (λ result left last run. begin_run tells own first BeginClearOperation operations.Clear refl refl refl (λ m. refl) steps-begin_clear refl budget result left last run)
      (identifier_opens id small (begun_device operations.Clear first.device) (record { no_read = refl; no_change = refl })
      (record { flash = refl; layout = refl; cursor = refl; given_up = refl; elsewhere = refl })
      (record { no_read = refl; no_change = refl }) (record { flash = refl; layout = refl; cursor = refl; given_up = refl; elsewhere = refl }))
      asks

  pub read_opens : (id : ℕ) → id < 2 ^ 64 → (budget : ℕ) (result : Result (List ℕ) RunStop) (left : ℕ) (last : MachineState) →
      Asks (Allows tells) own_entries (read_requests id) budget first result left last
      → Opened first (IsOn tells first (reading_device first.device id)) 6 budget result left last
  read_opens id small =
      offset_then BeginReadOperation operations.Read (reading_device first.device id) 3 (record { action = SetRecordIdentifier; given = id } ∷ record { action = ExecuteOperation; given = 0 } ∷ [])
      (begin_run tells own first BeginReadOperation operations.Read refl refl refl (λ m. refl) steps-begin_read refl)
      (identifier_opens id small (offset_device operations.Read first.device) (record { no_read = refl; no_change = refl })
      (record { flash = refl; layout = refl; cursor = refl; given_up = refl; elsewhere = refl })
      (record { no_read = refl; no_change = refl }) (record { flash = refl; layout = refl; cursor = refl; given_up = refl; elsewhere = refl }))
