-- A write, a clear and a dummy write by the machine's own table, on the records of its flash.
use Rattle.std.specs.Prelude.{◌≡◌, ◌⊎◌, ℕ, zero, suc, ◌+◌, ◌-◌, ◌≤◌, ◌<◌, ◌^◌, min, max, true, false, if◌then◌else◌, List, length, Some, None, Result, Ok, Err}
use Rattle.base_model.specs.Bytes.{part, number_at}
use Rattle.base_model.specs.Faults.{Rose}
use Rattle.record_model.specs.Records.{is_reserved}
use Rattle.record_model.specs.RecordMap.{Command, Refusal, Failed as refused_for_good, NoSpace as no_space, NotFound as not_found, Empty as empty, refusal_of, after, changes_of}
use Rattle.record_store.specs.Store.{Idle, DividesAlike, abandoned, KeepsOrMakes, stored}
use Rattle.record_store.specs.Answers.{copies_of}
use Rattle.erst_interp.specs.declared.stops.RunStop.TheVariants.{Budget}
use Rattle.erst_client.specs.declared.errors.ClientError.{ClientError}
use Rattle.erst_client.specs.declared.errors.ClientError.TheVariants.{NoSpace, Hardware, Failed, Empty, NotFound, Stopped}
use Rattle.erst_client.specs.declared.requests.Request.{Request}
use Rattle.erst_client.specs.Steps.{steps_needed}
use Rattle.erst_machine.specs.MachineState.{MachineState, records_of}
use Rattle.erst_machine.specs.OwnTables.{own_entries}

-- the client's error of a refusal. One of a record that is too long for the store is the client's own
pub data IsErrorOf : Refusal → ClientError → Type 0 where
  OfFailed : IsErrorOf refused_for_good Failed
  OfNoSpace : IsErrorOf no_space NoSpace
  OfNotFound : IsErrorOf not_found NotFound
  OfEmpty : IsErrorOf empty Empty

-- the sum of all waits after so many pauses of 10 microseconds
abbrev pub waits_after : ℕ → ℕ → ℕ
waits_after zero waited = waited
waits_after (suc pauses) waited = min (waits_after pauses waited + 10) (2 ^ 64 - 1)

-- the log range begins with the record of an identifier: its bytes, and what its header says of it (UEFI 2.8, appendix N.2.1)
pub record HoldsRecord (range : List ℕ) (id : ℕ) (bytes : List ℕ) : Type 0 where
  pub stands : part range 0 (length bytes) ≡ bytes
  pub within : length bytes ≤ length range
  pub least : 128 ≤ length bytes
  pub size : number_at bytes 20 4 ≡ length bytes
  pub name : number_at bytes 96 8 ≡ id

-- whatever is answered: power lost on the way leaves the records from before the command or after it, it makes no more changes than
-- its own and one for a second copy, nothing is pending, the cursor stays, and beside the device only the waits are others
pub record ChangeLeaves (first last : MachineState) (command : Command) (pauses : ℕ) : Type 0 where
  pub crash : KeepsOrMakes first.device.store last.device.store (after first.device.store.layout command (stored first.device.store))
  pub few : last.device.store.flash.steps ≤ first.device.store.flash.steps + 1 + changes_of first.device.store.layout command (records_of first)
  pub idle : last.device.store.pending ≡ Idle
  pub equivalent : DividesAlike first.device.store last.device.store
  pub never_falls : first.device.store.flash.faults ≤ last.device.store.flash.faults
  pub cursor : last.device.cursor ≡ first.device.cursor
  pub elsewhere : last ≡ record first { device = last.device; waited = waits_after pauses first.waited }

-- the flash failed nothing: one run of CHECK_BUSY_STATUS for each change, and one where there is none; exactly the changes that the map
-- gives, and before them those that end second copies; the store knows its records. Of a reserved identifier the store is not asked
pub record ChangeMade (first last : MachineState) (id : ℕ) (command : Command) (pauses : ℕ) : Type 0 where
  pub leaves : ChangeLeaves first last command pauses
  pub checks : pauses + 1 ≡ max 1 (changes_of first.device.store.layout command (records_of first))
  pub steps : last.device.store.flash.steps ≡ first.device.store.flash.steps
      + ((if is_reserved id then 0 else copies_of (abandoned first.device.store)) + changes_of first.device.store.layout command (records_of first))
  pub faults : last.device.store.flash.faults ≡ first.device.store.flash.faults
  pub certain : is_reserved id ≡ false → last.device.store.in_doubt ≡ false
  pub unasked : is_reserved id ≡ true → last.device.store ≡ abandoned first.device.store

-- the command is answered as the map does, `Hardware` only where the flash's count of faults rose, and a stop only where there were
-- fewer steps than its checks so far need
pub data ChangeCommand (first last : MachineState) (id : ℕ) (command : Command) (requests : List Request) (budget : ℕ) : Result (Unit {0}) ClientError → ℕ → Type 0 where
  IsTaken : (pauses left : ℕ) → refusal_of first.device.store.layout command (records_of first) ≡ None → records_of last ≡ after first.device.store.layout command (records_of first)
      → ChangeMade first last id command pauses → left + steps_needed own_entries requests (pauses + 1) ≡ budget → ChangeCommand first last id command requests budget (Ok tt) left
  IsRefused : (refusal : Refusal) (error : ClientError) (left : ℕ) → refusal_of first.device.store.layout command (records_of first) ≡ Some refusal →
      IsErrorOf refusal error → records_of last ≡ records_of first
      → ChangeMade first last id command 0 → left + steps_needed own_entries requests 1 ≡ budget → ChangeCommand first last id command requests budget (Err error) left
  IsFailed : (pauses left : ℕ) → is_reserved id ≡ false → Rose first.device.store.flash.faults last.device.store.flash.faults
      → (records_of last ≡ records_of first) ⊎ (records_of last ≡ after first.device.store.layout command (records_of first)) → ChangeLeaves first last command pauses
      → pauses + 1 ≤ max 1 (changes_of first.device.store.layout command (records_of first)) → left + steps_needed own_entries requests (pauses + 1) ≡ budget
      → ChangeCommand first last id command requests budget (Err Hardware) left
  IsStopped : (pauses : ℕ) → ChangeLeaves first last command pauses → pauses + 1 ≤ max 1 (changes_of first.device.store.layout command (records_of first))
      → budget < steps_needed own_entries requests (pauses + 1) → ChangeCommand first last id command requests budget (Err (Stopped Budget)) 0

-- a dummy write leaves the store with its execution given up; it is answered, or stopped where there are fewer than eight steps
pub record DummyLeaves (first last : MachineState) : Type 0 where
  pub store : last.device.store ≡ abandoned first.device.store
  pub cursor : last.device.cursor ≡ first.device.cursor
  pub elsewhere : last ≡ record first { device = last.device }

pub data DummyCommand (first last : MachineState) (requests : List Request) (budget : ℕ) : Result (Unit {0}) ClientError → ℕ → Type 0 where
  IsPlayed : (left : ℕ) → DummyLeaves first last → left + steps_needed own_entries requests 1 ≡ budget → DummyCommand first last requests budget (Ok tt) left
  IsCut : DummyLeaves first last → budget < steps_needed own_entries requests 1 → DummyCommand first last requests budget (Err (Stopped Budget)) 0
