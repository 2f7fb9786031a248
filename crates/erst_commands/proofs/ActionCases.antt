-- What each action of the table does to a device, from its one case.
use Rattle.std.proofs.Common.{◌≡◌, ℕ, Bool, true, List, ◌++◌, take, drop, Option, Some, None, Result, refl, sym, ap, subst, ◌∙◌}
use Rattle.std.proofs.lemmas.Option.{none-some, same_Some}
use Rattle.record_store.specs.Store.{StoreView, IsBusy}
use Rattle.record_store.specs.declared.errors.StoreError.{StoreError}
use Rattle.erst_entries.specs.declared.actions.Action.{Action}
use Rattle.erst_entries.specs.declared.actions.Action.TheVariants.{BeginWriteOperation, BeginReadOperation, BeginClearOperation, EndOperation, SetRecordOffset}
use Rattle.erst_entries.specs.declared.actions.Action.TheVariants.{ExecuteOperation, CheckBusyStatus, GetRecordIdentifier, SetRecordIdentifier, GetRecordCount}
use Rattle.erst_entries.specs.declared.actions.Action.TheVariants.{BeginDummyWriteOperation}
use Rattle.erst_device.specs.declared.registers.Operation.{Operation}
use Rattle.erst_device.specs.declared.status.CommandStatus.TheVariants.{Success}
use Rattle.erst_device.specs.StoreCalls.{Stepped, ReadOut, FoundNext, Counted}
use Rattle.erst_device.specs.DeviceState.{DeviceState, IsStill, IsRunning, Reads, Changes, given_up}
use Rattle.erst_device.specs.Starts.{Starts}
use Rattle.erst_device.specs.Actions.{told_by, begun_by, waits, stepped, shown, found, counted, Acts, Begins, Ends, SetsOffset, SetsId, Waits, Executes}
use Rattle.erst_device.specs.Actions.{NoneRuns, Steps, Shows, Tells, FindsNext, Counts, Ignores}
use Rattle.erst_commands.proofs.SharedLemmas.{idle_busy}
use Rattle.erst_device.proofs.Words.{IsAllowed}

-- the device afterwards, with the log range as before
pub record Becomes (device : DeviceState) (range : List ℕ) (new : DeviceState) (after : List ℕ) : Type 0 where
  pub new_is : new ≡ device
  pub range_is : after ≡ range

become : (device : DeviceState) (range : List ℕ) → Becomes device range device range
become device range = record { new_is = refl; range_is = refl }

pub not_both : (old : DeviceState) → IsStill old → IsRunning old → ⊥
not_both old still runs = elim runs [
  | Reads id is ↦ none-some id (sym still.no_read ∙ is)
  | Changes busy ↦ idle_busy old.store.pending still.no_change busy
]

-- the device of an operation that was begun
abbrev begun : DeviceState → Operation → DeviceState
begun old operation = record (given_up old) { operation = Some operation; offset = 0; id = 0; status = Success }

-- a start, and the log range as before
pub record StartsWith (tells : Type 0) (old : DeviceState) (range : List ℕ) (new : DeviceState) (after : List ℕ) : Type 0 where
  pub starts : Starts tells old range new
  pub range_is : after ≡ range

-- a step of a write or clear
pub record StepMade (tells : Type 0) (old : DeviceState) (range : List ℕ) (new : DeviceState) (after : List ℕ) : Type 0 where
  pub store : StoreView
  pub result : Result Bool StoreError
  pub step : Stepped tells old.store store result
  pub new_is : new ≡ stepped result store old
  pub range_is : after ≡ range

-- a record read out
pub record ReadShown (tells : Type 0) (old : DeviceState) (range : List ℕ) (id : ℕ) (new : DeviceState) (after : List ℕ) : Type 0 where
  pub store : StoreView
  pub out : List ℕ
  pub result : Result ℕ StoreError
  pub read : ReadOut tells old.store store id (drop old.offset range) out result
  pub new_is : new ≡ shown id result store old
  pub range_is : after ≡ take old.offset range ++ out

-- CHECK_BUSY_STATUS where nothing runs, where a write or clear runs, and where a read runs
record Checked (tells : Type 0) (old : DeviceState) (range : List ℕ) (new : DeviceState) (after : List ℕ) : Type 0 where
  still : IsStill old → Becomes (record old { value = 0 }) range new after
  busy : IsBusy old.store.pending → old.reading ≡ None → StepMade tells old range new after
  reading : (id : ℕ) → old.reading ≡ Some id → ReadShown tells old range id new after

-- a look for the next identifier, and a count of the records
pub record LookMade (tells : Type 0) (old : DeviceState) (range : List ℕ) (new : DeviceState) (after : List ℕ) : Type 0 where
  pub store : StoreView
  pub result : Result (Option ℕ) StoreError
  pub next : FoundNext tells (given_up old).store store old.cursor result
  pub allowed : IsAllowed result
  pub new_is : new ≡ found result store (given_up old)
  pub range_is : after ≡ range

pub record CountMade (tells : Type 0) (old : DeviceState) (range : List ℕ) (new : DeviceState) (after : List ℕ) : Type 0 where
  pub store : StoreView
  pub result : Result ℕ StoreError
  pub count : Counted tells (given_up old).store store result
  pub new_is : new ≡ counted result store (given_up old)
  pub range_is : after ≡ range

-- an action that begins an operation, and one that only tells a number
record BeginsOrTells (old : DeviceState) (range : List ℕ) (action : Action) (new : DeviceState) (after : List ℕ) : Type 0 where
  begins : (operation : Operation) → begun_by action ≡ Some operation → Becomes (begun old operation) range new after
  tells : (number : ℕ) → told_by action old.status old.store.layout ≡ Some number → Becomes (record old { value = number }) range new after

-- what each action leaves
abbrev Outcome : (tells : Type 0) (old : DeviceState) (range : List ℕ) → Option Action → DeviceState → List ℕ → Type 0
Outcome tells old range None new after = Becomes old range new after
Outcome tells old range (Some EndOperation) new after = Becomes (record (given_up old) { operation = None }) range new after
Outcome tells old range (Some SetRecordOffset) new after = IsStill old → Becomes (record old { offset = old.value }) range new after
Outcome tells old range (Some SetRecordIdentifier) new after = IsStill old → Becomes (record old { id = old.value }) range new after
Outcome tells old range (Some ExecuteOperation) new after = IsStill old → StartsWith tells old range new after
Outcome tells old range (Some CheckBusyStatus) new after = Checked tells old range new after
Outcome tells old range (Some GetRecordIdentifier) new after = LookMade tells old range new after
Outcome tells old range (Some GetRecordCount) new after = CountMade tells old range new after
Outcome tells old range (Some action) new after = BeginsOrTells old range action new after

-- an action begins one operation
one_begun : (old : DeviceState) (range : List ℕ) (action : Action) (operation : Operation) → begun_by action ≡ Some operation → told_by action old.status old.store.layout ≡ None
    → BeginsOrTells old range action (begun old operation) range
one_begun old range action operation by none = record {
  begins = λ other also. record { new_is = ap (begun old) (same_Some _ _ (sym by ∙ also)); range_is = refl };
  tells = λ number told. absurd (none-some number (sym none ∙ told));
}

begins_outcome : (tells : Type 0) (old : DeviceState) (range : List ℕ) (action : Action) (operation : Operation) → begun_by action ≡ Some operation →
    Outcome tells old range (Some action) (begun old operation) range
begins_outcome tells old range BeginWriteOperation operation by = one_begun old range BeginWriteOperation operation by refl
begins_outcome tells old range BeginReadOperation operation by = one_begun old range BeginReadOperation operation by refl
begins_outcome tells old range BeginClearOperation operation by = one_begun old range BeginClearOperation operation by refl
begins_outcome tells old range BeginDummyWriteOperation operation by = one_begun old range BeginDummyWriteOperation operation by refl
begins_outcome tells old range action operation by = absurd (cc)

-- and tells one number
one_told : (old : DeviceState) (range : List ℕ) (action : Action) (number : ℕ) → told_by action old.status old.store.layout ≡ Some number → begun_by action ≡ None
    → BeginsOrTells old range action (record old { value = number }) range
one_told old range action number told none = record {
  begins = λ operation by. absurd (none-some operation (sym none ∙ by));
  tells = λ other also. record { new_is = ap (λ (n : ℕ). record old { value = n }) (same_Some _ _ (sym told ∙ also)); range_is = refl };
}

tells_outcome : (tells : Type 0) (old : DeviceState) (range : List ℕ) (action : Action) (number : ℕ) → told_by action old.status old.store.layout ≡ Some number
    → Outcome tells old range (Some action) (record old { value = number }) range
tells_outcome tells old range BeginWriteOperation number told = absurd (cc)
tells_outcome tells old range BeginReadOperation number told = absurd (cc)
tells_outcome tells old range BeginClearOperation number told = absurd (cc)
tells_outcome tells old range BeginDummyWriteOperation number told = absurd (cc)
tells_outcome tells old range EndOperation number told = absurd (cc)
tells_outcome tells old range SetRecordOffset number told = absurd (cc)
tells_outcome tells old range SetRecordIdentifier number told = absurd (cc)
tells_outcome tells old range ExecuteOperation number told = absurd (cc)
tells_outcome tells old range CheckBusyStatus number told = absurd (cc)
tells_outcome tells old range GetRecordIdentifier number told = absurd (cc)
tells_outcome tells old range GetRecordCount number told = absurd (cc)
tells_outcome tells old range action number told = one_told old range action number told refl

waits_outcome : (tells : Type 0) (old : DeviceState) (range : List ℕ) (action : Action) → waits action ≡ true → IsRunning old → Outcome tells old range (Some action) old range
waits_outcome tells old range SetRecordOffset w runs = λ still. absurd (not_both old still runs)
waits_outcome tells old range SetRecordIdentifier w runs = λ still. absurd (not_both old still runs)
waits_outcome tells old range ExecuteOperation w runs = λ still. absurd (not_both old still runs)
waits_outcome tells old range action w runs = absurd (cc)

outcome : (tells : Type 0) (old : DeviceState) (range : List ℕ) (which : Option Action) (new : DeviceState) (after : List ℕ) →
    Acts tells old range which new after → Outcome tells old range which new after
outcome tells old range which new after acts = elim acts as (λ which new after acts. Outcome tells old range which new after) [
  | Begins action operation by ↦ begins_outcome tells old range action operation by
  | Ends ↦ become _ range
  | SetsOffset still ↦ λ _. become _ range
  | SetsId still ↦ λ _. become _ range
  | Waits action w runs ↦ waits_outcome tells old range action w runs
  | Executes new still starts ↦ λ _. record { starts = starts; range_is = refl }
  | NoneRuns none ↦ record {
    still = λ _. become _ range;
    busy = λ busy _. absurd (idle_busy old.store.pending none.no_change busy);
    reading = λ id is. absurd (none-some id (sym none.no_read ∙ is));
  }
  | Steps store result none busy step ↦ record {
    still = λ still. absurd (not_both old still (Changes busy));
    busy = λ _ _. record { store = store; result = result; step = step; new_is = refl; range_is = refl };
    reading = λ id is. absurd (none-some id (sym none ∙ is));
  }
  | Shows other store out result runs read ↦ record {
    still = λ still. absurd (not_both old still (Reads other runs));
    busy = λ _ none. absurd (none-some other (sym none ∙ runs));
    reading = λ id is.
        let same : other ≡ id = same_Some _ _ (sym runs ∙ is) in
        record {
          store = store;
          out = out;
          result = result;
          read = subst (λ (n : ℕ). ReadOut tells old.store store n (drop old.offset range) out result) same read;
          new_is = ap (λ (n : ℕ). shown n result store old) same;
          range_is = refl;
        };
  }
  | Tells action number told ↦ tells_outcome tells old range action number told
  | FindsNext store result next allowed ↦ record { store = store; result = result; next = next; allowed = allowed; new_is = refl; range_is = refl }
  | Counts store result count ↦ record { store = store; result = result; count = count; new_is = refl; range_is = refl }
  | Ignores ↦ become _ range
]

-- a beginning
begins_of : (tells : Type 0) (old : DeviceState) (range : List ℕ) (new : DeviceState) (after : List ℕ) (action : Action) (operation : Operation) →
    begun_by action ≡ Some operation → Outcome tells old range (Some action) new after → Becomes (begun old operation) range new after
begins_of tells old range new after BeginWriteOperation operation by leaves = leaves.begins operation by
begins_of tells old range new after BeginReadOperation operation by leaves = leaves.begins operation by
begins_of tells old range new after BeginClearOperation operation by leaves = leaves.begins operation by
begins_of tells old range new after BeginDummyWriteOperation operation by leaves = leaves.begins operation by
begins_of tells old range new after action operation by leaves = absurd (cc)

pub begins : (tells : Type 0) (action : Action) (operation : Operation) (old : DeviceState) (range : List ℕ) (new : DeviceState) (after : List ℕ) → begun_by action ≡ Some operation
    → Acts tells old range (Some action) new after → Becomes (begun old operation) range new after
begins tells action operation old range new after by acts = begins_of tells old range new after action operation by (outcome tells old range (Some action) new after acts)

-- a number that is only told
told_of : (tells : Type 0) (old : DeviceState) (range : List ℕ) (new : DeviceState) (after : List ℕ) (action : Action) (number : ℕ) → told_by action old.status old.store.layout ≡ Some number
    → Outcome tells old range (Some action) new after → Becomes (record old { value = number }) range new after
told_of tells old range new after EndOperation number told leaves = absurd (cc)
told_of tells old range new after SetRecordOffset number told leaves = absurd (cc)
told_of tells old range new after SetRecordIdentifier number told leaves = absurd (cc)
told_of tells old range new after ExecuteOperation number told leaves = absurd (cc)
told_of tells old range new after CheckBusyStatus number told leaves = absurd (cc)
told_of tells old range new after GetRecordIdentifier number told leaves = absurd (cc)
told_of tells old range new after GetRecordCount number told leaves = absurd (cc)
told_of tells old range new after action number told leaves = leaves.tells number told

pub tells_number : (tells : Type 0) (action : Action) (number : ℕ) (old : DeviceState) (range : List ℕ) (new : DeviceState) (after : List ℕ) → told_by action old.status old.store.layout ≡ Some number
    → Acts tells old range (Some action) new after → Becomes (record old { value = number }) range new after
tells_number tells action number old range new after told acts = told_of tells old range new after action number told (outcome tells old range (Some action) new after acts)

-- the other actions, each by its name
pub ends : (tells : Type 0) (old : DeviceState) (range : List ℕ) (new : DeviceState) (after : List ℕ) → Acts tells old range (Some EndOperation) new after →
    Becomes (record (given_up old) { operation = None }) range new after
ends tells old range new after acts = outcome tells old range (Some EndOperation) new after acts

pub sets_offset : (tells : Type 0) (old : DeviceState) (range : List ℕ) (new : DeviceState) (after : List ℕ) → IsStill old →
    Acts tells old range (Some SetRecordOffset) new after → Becomes (record old { offset = old.value }) range new after
sets_offset tells old range new after still acts = outcome tells old range (Some SetRecordOffset) new after acts still

pub sets_id : (tells : Type 0) (old : DeviceState) (range : List ℕ) (new : DeviceState) (after : List ℕ) → IsStill old →
    Acts tells old range (Some SetRecordIdentifier) new after → Becomes (record old { id = old.value }) range new after
sets_id tells old range new after still acts = outcome tells old range (Some SetRecordIdentifier) new after acts still

pub executes : (tells : Type 0) (old : DeviceState) (range : List ℕ) (new : DeviceState) (after : List ℕ) → IsStill old →
    Acts tells old range (Some ExecuteOperation) new after → StartsWith tells old range new after
executes tells old range new after still acts = outcome tells old range (Some ExecuteOperation) new after acts still

pub finds_next : (tells : Type 0) (old : DeviceState) (range : List ℕ) (new : DeviceState) (after : List ℕ) → Acts tells old range (Some GetRecordIdentifier)
    new after → LookMade tells old range new after
finds_next tells old range new after acts = outcome tells old range (Some GetRecordIdentifier) new after acts

pub counts : (tells : Type 0) (old : DeviceState) (range : List ℕ) (new : DeviceState) (after : List ℕ) → Acts tells old range (Some GetRecordCount) new after → CountMade tells old range new after
counts tells old range new after acts = outcome tells old range (Some GetRecordCount) new after acts

pub checks_still : (tells : Type 0) (old : DeviceState) (range : List ℕ) (new : DeviceState) (after : List ℕ) → IsStill old →
    Acts tells old range (Some CheckBusyStatus) new after → Becomes (record old { value = 0 }) range new after
checks_still tells old range new after still acts = (outcome tells old range (Some CheckBusyStatus) new after acts).still still

pub checks_busy : (tells : Type 0) (old : DeviceState) (range : List ℕ) (new : DeviceState) (after : List ℕ) → IsBusy old.store.pending → old.reading ≡ None →
    Acts tells old range (Some CheckBusyStatus) new after → StepMade tells old range new after
checks_busy tells old range new after busy none acts = (outcome tells old range (Some CheckBusyStatus) new after acts).busy busy none

pub checks_reading : (tells : Type 0) (old : DeviceState) (range : List ℕ) (new : DeviceState) (after : List ℕ) → (id : ℕ) → old.reading ≡ Some id →
    Acts tells old range (Some CheckBusyStatus) new after → ReadShown tells old range id new after
checks_reading tells old range new after id is acts = (outcome tells old range (Some CheckBusyStatus) new after acts).reading id is
