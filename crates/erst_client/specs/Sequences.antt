-- The sequence of a client's command: its requests, CHECK_BUSY_STATUS until it answers 0, GET_COMMAND_STATUS, END_OPERATION
-- (ACPI 6.4, section 18.5.2).
use Rattle.std.specs.Prelude.{◌≡◌, ℕ, suc, ◌-◌, ◌*◌, ◌<◌, ◌≤◌, ◌==◌, if◌then◌else◌, List, [], ◌∷◌, Option, Some, None, Result, Ok, Err}
use Rattle.apei_space.specs.Calls.{Call, Wait}
use Rattle.erst_entries.specs.declared.actions.Action.TheVariants.{BeginWriteOperation, BeginReadOperation, BeginClearOperation, BeginDummyWriteOperation}
use Rattle.erst_entries.specs.declared.actions.Action.TheVariants.{SetRecordOffset, SetRecordIdentifier, ExecuteOperation, CheckBusyStatus, GetCommandStatus}
use Rattle.erst_entries.specs.declared.actions.Action.TheVariants.{EndOperation}
use Rattle.erst_entries.specs.declared.entries.Entry.{Entry}
use Rattle.erst_interp.specs.declared.stops.RunStop.{RunStop}
use Rattle.erst_client.specs.declared.errors.ClientError.{ClientError}
use Rattle.erst_client.specs.declared.errors.ClientError.TheVariants.{NoSpace, Hardware, Failed, Empty, NotFound, Status, Stopped, Late}
use Rattle.erst_client.specs.declared.requests.Request.{Request}
use Rattle.erst_client.specs.Requests.{Performs, Asks}

-- an action that isn't given a value is run with 0
abbrev pub write_requests : List Request
write_requests = record { action = BeginWriteOperation; given = 0 } ∷ record { action = SetRecordOffset; given = 0 } ∷ record { action = ExecuteOperation; given = 0 } ∷ []

abbrev pub read_requests : ℕ → List Request
read_requests id =
    record { action = BeginReadOperation; given = 0 } ∷ record { action = SetRecordOffset; given = 0 } ∷ record { action = SetRecordIdentifier; given = id }
    ∷ record { action = ExecuteOperation; given = 0 } ∷ []

abbrev pub clear_requests : ℕ → List Request
clear_requests id = record { action = BeginClearOperation; given = 0 } ∷ record { action = SetRecordIdentifier; given = id } ∷ record { action = ExecuteOperation; given = 0 } ∷ []

abbrev pub dummy_requests : List Request
dummy_requests = record { action = BeginDummyWriteOperation; given = 0 } ∷ record { action = SetRecordOffset; given = 0 } ∷ record { action = ExecuteOperation; given = 0 } ∷ []

-- the firmware was busy so many times: a client that knows its timings waits 10 microseconds, while that many times 10 are not
-- above the greatest time, and is late otherwise
pub data Pauses {W : Type 0} (allows : W → Call → W → Type 0) (timings : Option (ℕ × ℕ)) (busy : ℕ) (old : W) : Result (Unit {0}) ClientError → W → Type 0 where
  Untimed : timings ≡ None → Pauses allows timings busy old (Ok tt) old
  Timed : (known : ℕ × ℕ) (new : W) → timings ≡ Some known → 10 * busy ≤ known.0 → allows old (Wait 10) new → Pauses allows timings busy old (Ok tt) new
  TooOften : (known : ℕ × ℕ) → timings ≡ Some known → known.0 < 10 * busy → Pauses allows timings busy old (Err (Late (10 * (busy - 1)))) old

-- CHECK_BUSY_STATUS was run, did not answer 0, and was paused after, so many times
pub data Busy {W : Type 0} (allows : W → Call → W → Type 0) (entries : List Entry) (timings : Option (ℕ × ℕ)) (budget : ℕ) (first : W) : ℕ → ℕ → W → Type 0 where
  NotYet : Busy allows entries timings budget first 0 budget first
  Again : (busy left : ℕ) (mid : W) (answer after : ℕ) (next new : W) → Busy allows entries timings budget first busy left mid →
      Performs allows entries CheckBusyStatus 0 left mid (Ok answer) after next → (answer ≡ 0 → ⊥) → Pauses allows timings (suc busy) next (Ok tt) new →
      Busy allows entries timings budget first (suc busy) after new

-- CHECK_BUSY_STATUS is run until it answers 0
pub data Waits {W : Type 0} (allows : W → Call → W → Type 0) (entries : List Entry) (timings : Option (ℕ × ℕ)) (budget : ℕ) (first : W) : Result (Unit {0}) ClientError → ℕ → W → Type 0 where
  IsIdle : (busy left : ℕ) (mid : W) (after : ℕ) (last : W) → Busy allows entries timings budget first busy left mid →
      Performs allows entries CheckBusyStatus 0 left mid (Ok 0) after last → Waits allows entries timings budget first (Ok tt) after last
  IsStopped : (busy left : ℕ) (mid : W) (stop : RunStop) (after : ℕ) (last : W) → Busy allows entries timings budget first busy left mid →
      Performs allows entries CheckBusyStatus 0 left mid (Err stop) after last → Waits allows entries timings budget first (Err (Stopped stop)) after last
  IsLate : (busy left : ℕ) (mid : W) (answer after : ℕ) (next : W) (error : ClientError) (last : W) → Busy allows entries timings budget first busy left mid →
      Performs allows entries CheckBusyStatus 0 left mid (Ok answer) after next → (answer ≡ 0 → ⊥) → Pauses allows timings (suc busy) next (Err error) last →
      Waits allows entries timings budget first (Err error) after last

-- what a command status says (ACPI 6.4, section 18.5.1)
abbrev pub judged : ℕ → Result (Unit {0}) ClientError
judged status =
    if status == 0 then Ok tt
    else (if status == 1 then Err NoSpace
    else (if status == 2 then Err Hardware
    else (if status == 3 then Err Failed
    else (if status == 4 then Err Empty
    else (if status == 5 then Err NotFound
    else Err (Status status))))))

-- a command up to its status
pub data UntilStatus {W : Type 0} (allows : W → Call → W → Type 0) (entries : List Entry) (timings : Option (ℕ × ℕ)) (requests : List Request) (budget : ℕ) (first : W) :
    Result (Unit {0}) ClientError → ℕ → W → Type 0 where
  NotAsked : (stop : RunStop) (left : ℕ) (last : W) → Asks allows entries requests budget first (Err stop) left last →
      UntilStatus allows entries timings requests budget first (Err (Stopped stop)) left last
  NotWaited : (answers : List ℕ) (asked : ℕ) (mid : W) (error : ClientError) (left : ℕ) (last : W) → Asks allows entries requests budget first (Ok answers) asked mid →
      Waits allows entries timings asked mid (Err error) left last → UntilStatus allows entries timings requests budget first (Err error) left last
  NotTold : (answers : List ℕ) (asked : ℕ) (mid : W) (waited : ℕ) (idle : W) (stop : RunStop) (left : ℕ) (last : W) → Asks allows entries requests budget first (Ok answers) asked mid →
      Waits allows entries timings asked mid (Ok tt) waited idle → Performs allows entries GetCommandStatus 0 waited idle (Err stop) left last →
      UntilStatus allows entries timings requests budget first (Err (Stopped stop)) left last
  IsTold : (answers : List ℕ) (asked : ℕ) (mid : W) (waited : ℕ) (idle : W) (status left : ℕ) (last : W) → Asks allows entries requests budget first (Ok answers) asked mid →
      Waits allows entries timings asked mid (Ok tt) waited idle → Performs allows entries GetCommandStatus 0 waited idle (Ok status) left last →
      UntilStatus allows entries timings requests budget first (judged status) left last

-- a command, and END_OPERATION however it went, with 64 steps of its own. Its stop is answered only where all before it was well
pub record Sequence {W : Type 0} (allows : W → Call → W → Type 0) (entries : List Entry) (timings : Option (ℕ × ℕ)) (requests : List Request) (budget : ℕ) (first : W)
    (result : Result (Unit {0}) ClientError) (left : ℕ) (last : W) : Type 0 where
  pub outcome : Result (Unit {0}) ClientError
  pub told : W
  pub ended : Result ℕ RunStop
  pub spare : ℕ
  pub until_status : UntilStatus allows entries timings requests budget first outcome left told
  pub ends : Performs allows entries EndOperation 0 64 told ended spare last
  pub result_is : result ≡ elim outcome [ Err error ↦ Err error | Ok done ↦ elim ended [ Ok answer ↦ Ok tt | Err stop ↦ Err (Stopped stop) ] ]
