-- A read by the machine's own table, on the records of its flash.
use Rattle.std.specs.Prelude.{◌≡◌, ◌⊎◌, ℕ, ◌+◌, ◌≤◌, ◌<◌, is_ok, if◌then◌else◌, List, ◌++◌, length, drop, Some, None, Result, Ok, Err}
use Rattle.std.specs.FinMap.{get}
use Rattle.base_model.specs.Bytes.{part, number_at, put_at}
use Rattle.base_model.specs.Faults.{Rose}
use Rattle.record_model.specs.RecordMap.{Read, Refusal, refusal_of}
use Rattle.record_model.specs.History.{Refused, IsNamed, cursor_after}
use Rattle.erst_interp.specs.declared.stops.RunStop.TheVariants.{Budget}
use Rattle.erst_client.specs.declared.errors.ClientError.{ClientError}
use Rattle.erst_client.specs.declared.errors.ClientError.TheVariants.{Hardware, Stopped}
use Rattle.erst_client.specs.Commands.{copy_refusal}
use Rattle.erst_client.specs.Sequences.{read_requests}
use Rattle.erst_client.specs.Steps.{steps_needed}
use Rattle.erst_machine.specs.MachineState.{MachineState, reach_in, records_of}
use Rattle.erst_machine.specs.OwnTables.{own_entries}
use Rattle.erst_commands.specs.Changes.{IsErrorOf}
use Rattle.erst_commands.specs.Looks.{OnlyLooked, HasAsked}
use Rattle.erst_commands.specs.OwnPrograms.{with_range}

-- what a read does, with its command status, and whatever it leaves in the log range as a look would: the range then begins with the
-- record, and the cursor is at its identifier; or the map refuses it; or the flash failed, and so the count of its faults rose
pub data ReadMade (first last : MachineState) (id : ℕ) : Result (Unit {0}) ClientError → Type 0 where
  IsRead : (found : ℕ) (body : List ℕ) (generation : ℕ) → HasAsked (with_range last.memory.range first) last
      → IsNamed id found (records_of first) → get (records_of first) found ≡ Some (body, generation) → length body ≤ length first.memory.range
      → last.memory.range ≡ put_at first.memory.range 0 body → last.device.cursor ≡ found → ReadMade first last id (Ok tt)
  IsRefused : (refusal : Refusal) (error : ClientError) → HasAsked (with_range last.memory.range first) last
      → refusal_of first.device.store.layout (Read id) (records_of first) ≡ Some refusal → IsErrorOf refusal error
      → last.memory.range ≡ first.memory.range → last.device.cursor ≡ cursor_after (Read id) (Refused refusal) first.device.cursor
      → ReadMade first last id (Err error)
  IsFailed : OnlyLooked (with_range last.memory.range first) last → Rose first.device.store.flash.faults last.device.store.flash.faults
      → last.memory.range ≡ first.memory.range → last.device.cursor ≡ first.device.cursor
      → ReadMade first last id (Err Hardware)

-- answered, or stopped behind what it does or before it, where there are fewer steps than it needs. The sixth step is EXECUTE_OPERATION,
-- which refuses it, and the seventh the check that shows a record. One that is stopped before it has not come to EXECUTE_OPERATION, or has
-- and is to show a record
pub data ReadCommand (first last : MachineState) (id budget : ℕ) : Result (Unit {0}) ClientError → ℕ → Type 0 where
  Answers : (result : Result (Unit {0}) ClientError) (left : ℕ) → ReadMade first last id result → left + steps_needed own_entries (read_requests id) 1 ≡ budget
      → ReadCommand first last id budget result left
  StopsBehind : (result : Result (Unit {0}) ClientError) → ReadMade first last id result → (if is_ok result then 7 else 6) ≤ budget
      → budget < steps_needed own_entries (read_requests id) 1 → ReadCommand first last id budget (Err (Stopped Budget)) 0
  StopsBefore : OnlyLooked (with_range last.memory.range first) last → last.memory.range ≡ first.memory.range
      → last.device.cursor ≡ first.device.cursor
      → (budget < 6) ⊎ ((budget ≡ 6) × (refusal_of first.device.store.layout (Read id) (records_of first) ≡ None)) → budget < 7
      → ReadCommand first last id budget (Err (Stopped Budget)) 0

-- a client's read: the record's length is read from the log range, and so many bytes of the range are copied out
pub data ReadAnswered (id : ℕ) (out : List ℕ) (budget : ℕ) (first : MachineState) : Result ℕ ClientError → List ℕ → ℕ → MachineState → Type 0 where
  IsNotRead : (error : ClientError) (left : ℕ) (last : MachineState) → ReadCommand first last id budget (Err error) left → ReadAnswered id out budget first (Err error) out left last
  IsNotCopied : (error : ClientError) (left : ℕ) (last : MachineState) → ReadCommand first last id budget (Ok tt) left
      → copy_refusal (number_at last.memory.range 20 4) (reach_in first.device) (length out) ≡ Some error → ReadAnswered id out budget first (Err error) out left last
  IsCopied : (left : ℕ) (last : MachineState) → ReadCommand first last id budget (Ok tt) left → copy_refusal (number_at last.memory.range 20 4) (reach_in first.device) (length out) ≡ None
      → ReadAnswered id out budget first (Ok (number_at last.memory.range 20 4)) (part last.memory.range 0 (number_at last.memory.range 20 4) ++ drop (number_at last.memory.range 20 4) out) left last
