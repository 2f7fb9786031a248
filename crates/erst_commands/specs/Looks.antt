-- Count and next by the machine's own table, on the records of its flash.
use Rattle.std.specs.Prelude.{◌≡◌, ℕ, ◌+◌, ◌≤◌, false, Option, Some, None, Result, Ok, Err}
use Rattle.std.specs.FinMap.{len}
use Rattle.base_model.specs.Faults.{Rose}
use Rattle.record_model.specs.RecordMap.{IsNextAbove}
use Rattle.record_store.specs.Store.{Idle, KeepsMap, DividesAlike, abandoned}
use Rattle.record_store.specs.Answers.{copies_of}
use Rattle.erst_interp.specs.declared.stops.RunStop.TheVariants.{Budget}
use Rattle.erst_client.specs.declared.errors.ClientError.{ClientError}
use Rattle.erst_client.specs.declared.errors.ClientError.TheVariants.{Hardware, Stopped}
use Rattle.erst_machine.specs.MachineState.{MachineState, records_of}

-- whatever is answered: power lost on the way leaves the records, there is at most one change, nothing is pending, and beside the device
-- all is as it was
pub record OnlyLooked (first last : MachineState) : Type 0 where
  pub kept : KeepsMap first.device.store last.device.store
  pub few : last.device.store.flash.steps ≤ first.device.store.flash.steps + 1
  pub idle : last.device.store.pending ≡ Idle
  pub equivalent : DividesAlike first.device.store last.device.store
  pub never_falls : first.device.store.flash.faults ≤ last.device.store.flash.faults
  pub elsewhere : last ≡ record first { device = last.device }

-- the store was asked and knows its records: it made the changes that end second copies, and no other
pub record HasAsked (first last : MachineState) : Type 0 where
  pub looked : OnlyLooked first last
  pub steps : last.device.store.flash.steps ≡ first.device.store.flash.steps + copies_of (abandoned first.device.store)
  pub certain : last.device.store.in_doubt ≡ false
  pub faults : last.device.store.flash.faults ≡ first.device.store.flash.faults

-- the flash failed
pub record HasFailed (first last : MachineState) : Type 0 where
  pub looked : OnlyLooked first last
  pub rose : Rose first.device.store.flash.faults last.device.store.flash.faults
  pub cursor : last.device.cursor ≡ first.device.cursor

-- what GET_RECORD_COUNT does, with its answer
pub data CountMade (first last : MachineState) : Result ℕ ClientError → Type 0 where
  IsCounted : HasAsked first last → last.device.cursor ≡ first.device.cursor → CountMade first last (Ok (len (records_of first)))
  IsNotCounted : HasFailed first last → CountMade first last (Err Hardware)

-- what GET_RECORD_IDENTIFIER does: the least stored identifier above the cursor, which becomes the cursor
pub data NextMade (first last : MachineState) : Result (Option ℕ) ClientError → Type 0 where
  IsFound : (id : ℕ) → HasAsked first last → IsNextAbove first.device.cursor (records_of first) (Some id) → last.device.cursor ≡ id → NextMade first last (Ok (Some id))
  IsAtEnd : HasAsked first last → IsNextAbove first.device.cursor (records_of first) None → last.device.cursor ≡ 0 → NextMade first last (Ok None)
  IsNotFound : HasFailed first last → NextMade first last (Err Hardware)

-- a command of one program of two steps: its answer, or what it did with one step, or nothing
pub data AsksOnce {T : Type 0} (Made : Result T ClientError → Type 0) (budget : ℕ) (first last : MachineState) : Result T ClientError → ℕ → Type 0 where
  Answers : (result : Result T ClientError) (left : ℕ) → Made result → left + 2 ≡ budget → AsksOnce Made budget first last result left
  StopsBehind : (result : Result T ClientError) → Made result → budget ≡ 1 → AsksOnce Made budget first last (Err (Stopped Budget)) 0
  StopsAtOnce : budget ≡ 0 → last ≡ first → AsksOnce Made budget first last (Err (Stopped Budget)) 0
