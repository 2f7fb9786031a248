-- What every action keeps, by its cases.
use Rattle.std.proofs.Common.{◌≡◌, ℕ, ◌+◌, ◌-◌, ◌^◌, ◌≤◌, ◌⊎◌, Bool, true, false, cond, List, Option, Some, None, Result, Ok, Err, refl, sym, ap, subst, ◌∙◌, arith, inl, inr}
use Rattle.std.specs.Prelude.{is_some, if◌then◌else◌}
use Rattle.base_model.specs.Faults.{Rose}
use Rattle.base_model.specs.Flash.{LosesOnlyByChange}
use Rattle.base_model.proofs.CrashLemmas.{Leaves-none, Leaves-weaker}
use Rattle.record_model.specs.Records.{Stored}
use Rattle.record_model.proofs.RefusalLemmas.{allowed_not_zero}
use Rattle.record_store.specs.Store.{StoreView, Pending, Idle, Writing, Clearing, stored, map_after, IsBusy, DividesAlike, KeepsMap, KeepsOrMakes, abandoned}
use Rattle.record_store.specs.Answers.{HasFaultsOf, EndsCopies, copies_in, copies_of, ByFault}
use Rattle.record_store.specs.declared.errors.StoreError.{StoreError}
use Rattle.record_store.specs.declared.errors.StoreError.TheVariants as errors
use Rattle.erst_entries.specs.declared.actions.Action.{Action}
use Rattle.erst_entries.specs.declared.actions.Action.TheVariants.{BeginWriteOperation, BeginReadOperation, BeginClearOperation, EndOperation, SetRecordOffset}
use Rattle.erst_entries.specs.declared.actions.Action.TheVariants.{ExecuteOperation, CheckBusyStatus, GetRecordIdentifier, SetRecordIdentifier, GetRecordCount}
use Rattle.erst_entries.specs.declared.actions.Action.TheVariants.{BeginDummyWriteOperation}
use Rattle.erst_device.specs.declared.registers.Operation.{Operation}
use Rattle.erst_device.specs.declared.registers.Operation.TheVariants.{Write, Read, Clear, Dummy}
use Rattle.erst_device.specs.declared.status.CommandStatus.{CommandStatus}
use Rattle.erst_device.specs.declared.status.CommandStatus.TheVariants.{Success, HardwareNotAvailable, Failed}
use Rattle.erst_device.specs.Statuses.{status_of}
use Rattle.erst_device.specs.StoreCalls.{Stepped, ReadOut, FoundNext, Counted}
use Rattle.erst_device.specs.DeviceState.{DeviceState, records, IsStill, IsRunning, Reads, Changes, is_busy, given_up}
use Rattle.erst_device.specs.Starts.{Starts, NoneBegun, WritesDummy, NoDraft, Writes, LookFails, FindsNone, Misses, GoesBeyond, Finds, NoneToClear, Clears, status_after}
use Rattle.erst_device.specs.Actions.{Acts, Begins, Ends, SetsOffset, SetsId, Waits, Executes, NoneRuns, Steps, Shows, Tells, FindsNext, Counts, Ignores}
use Rattle.erst_device.specs.Actions.{told_by, begun_by, waits, stepped, shown, found, counted}
use Rattle.erst_device.specs.Effects.{asks, makes_change, Effect}
use Rattle.erst_device.proofs.ActionLemmas.{kept_map}
use Rattle.record_store.proofs.Words.{doubt_after}
use Rattle.erst_device.proofs.Words.{is_running, start_asks, IsAllowed}

-- Between two states of the store: the records that are made, and by how many changes

record Keeps (tells : Type 0) (old new : StoreView) (map : Stored) (changes : ℕ) : Type 0 where
  crash : tells → KeepsOrMakes old new map
  made : tells → (Rose old.flash.faults new.flash.faults → ⊥) → stored new ≡ map
  exact : tells → (Rose old.flash.faults new.flash.faults → ⊥) → new.flash.steps ≡ old.flash.steps + changes
  few : tells → new.flash.steps ≤ old.flash.steps + 1
  never_falls : old.flash.faults ≤ new.flash.faults
  equivalent : DividesAlike old new
  power : LosesOnlyByChange old.flash new.flash

-- nothing was asked of the store: what it has begun, and whether it is in doubt, may be other
keeps_unasked : (tells : Type 0) (store : StoreView) (pending : Pending) (doubt : Bool) → Keeps tells store (record store { in_doubt = doubt; pending = pending }) (stored store) 0
keeps_unasked tells store pending doubt = record {
  crash = λ told. Leaves-none store.flash.told _ (inl refl);
  made = λ told quiet. refl;
  exact = λ told quiet. omega arith;
  few = λ told. omega arith;
  never_falls = omega arith;
  equivalent = record { layout = refl; size = refl; sector_size = refl };
  power = record { never_back = λ on. on; lost = inl refl };
}

keeps_same : (tells : Type 0) (store : StoreView) → Keeps tells store store (stored store) 0
keeps_same tells store = keeps_unasked tells store store.pending store.in_doubt

-- or only to give up what was pending
keeps_abandoned : (tells : Type 0) (store : StoreView) → Keeps tells store (abandoned store) (stored store) 0
keeps_abandoned tells store = keeps_unasked tells store Idle (doubt_after store.pending store.in_doubt)

pub faults_rise : {T : Type 0} (before after : ℕ) (result : Result T StoreError) → HasFaultsOf before after result → before ≤ after
faults_rise before after (Ok done) cause = omega arith
faults_rise before after (Err (errors.NoSpace free)) cause = omega arith
faults_rise before after (Err (errors.LastGeneration id)) cause = omega arith
faults_rise before after (Err errors.NotFound) cause = omega arith
faults_rise before after (Err errors.Empty) cause = omega arith
faults_rise before after (Err errors.Flash) cause = cause.0
faults_rise before after (Err (errors.Small need)) cause = omega arith

-- the status of a fault, and the error itself
status_rose : (T : Type 0) (before after : ℕ) (error : StoreError) → HasFaultsOf {T = T} before after (Err error) → status_of error ≡ HardwareNotAvailable → Rose before after
status_rose T before after (errors.NoSpace free) cause is = absurd (cc)
status_rose T before after (errors.LastGeneration id) cause is = absurd (cc)
status_rose T before after errors.NotFound cause is = absurd (cc)
status_rose T before after errors.Empty cause is = absurd (cc)
status_rose T before after errors.Flash cause is = cause.1
status_rose T before after (errors.Small need) cause is = absurd (cc)

error_rose : (T : Type 0) (before after : ℕ) (error : StoreError) → HasFaultsOf {T = T} before after (Err error) → error ≡ errors.Flash → Rose before after
error_rose T before after error cause is = status_rose T before after error cause (ap status_of is)

-- what holds of every answer but a fault holds where no fault was counted
pub without_fault : {T : Type 0} (P : Type 0) (before after : ℕ) (result : Result T StoreError) → HasFaultsOf before after result → ByFault result (Unit {0}) P → (Rose before after → ⊥) → P
without_fault P before after (Ok done) cause holds quiet = holds
without_fault P before after (Err (errors.NoSpace free)) cause holds quiet = holds
without_fault P before after (Err (errors.LastGeneration id)) cause holds quiet = holds
without_fault P before after (Err errors.NotFound) cause holds quiet = holds
without_fault P before after (Err errors.Empty) cause holds quiet = holds
without_fault P before after (Err errors.Flash) cause holds quiet = absurd (quiet cause.1)
without_fault P before after (Err (errors.Small need)) cause holds quiet = holds

-- the store was asked, and ended its second copies first
keeps_asked : {T : Type 0} (tells : Type 0) (old new : StoreView) (result : Result T StoreError) → (tells → KeepsMap old new) →
    (tells → new.flash.steps ≤ old.flash.steps + 1) → (tells → EndsCopies old new result)
    → DividesAlike old new → LosesOnlyByChange old.flash new.flash → HasFaultsOf old.flash.faults new.flash.faults result → Keeps tells old new (stored old) (copies_of old)
keeps_asked tells old new result kept few ended equivalent power cause = record {
  crash = λ told. Leaves-weaker old.flash.told new.flash.told _ _ (kept told) (λ image same. inl same);
  made = λ told quiet. kept_map old new (kept told) equivalent;
  exact = λ told quiet. without_fault (new.flash.steps ≡ old.flash.steps + copies_of old) old.flash.faults new.flash.faults result cause (ended told) quiet;
  few = few;
  never_falls = faults_rise old.flash.faults new.flash.faults result cause;
  equivalent = equivalent;
  power = power;
}

-- a change was made
keeps_stepped : (tells : Type 0) (old new : StoreView) (result : Result Bool StoreError) → Stepped tells old new result → Keeps tells old new (map_after old.layout old.pending (stored old)) 1
keeps_stepped tells old new (Ok last) step = record {
  crash = step.crash;
  made = λ told quiet. step.answer told;
  exact = λ told quiet. step.one;
  few = λ told. step.at_most;
  never_falls = faults_rise {T = Bool} _ _ (Ok last) step.cause;
  equivalent = step.equivalent;
  power = step.power;
}
keeps_stepped tells old new (Err error) step = record {
  crash = step.crash;
  made = λ told quiet. absurd (quiet (error_rose Bool _ _ error step.cause step.error));
  exact = λ told quiet. absurd (quiet (error_rose Bool _ _ error step.cause step.error));
  few = λ told. step.at_most;
  never_falls = faults_rise {T = Bool} _ _ (Err error) step.cause;
  equivalent = step.equivalent;
  power = step.power;
}

-- What an action keeps, by whether it makes a change and whether it asks the store

-- the causes of what is answered
record HasCauses (tells : Type 0) (old : DeviceState) (action : Option Action) (new : DeviceState) : Type 0 where
  status : new.status ≡ HardwareNotAvailable
      → Rose old.store.flash.faults new.store.flash.faults ⊎ ((new.status ≡ old.status) × (action ≡ Some ExecuteOperation → IsRunning old))
  next : action ≡ Some GetRecordIdentifier → new.value ≡ 0 → Rose old.store.flash.faults new.store.flash.faults
  count : action ≡ Some GetRecordCount → new.value ≡ 2 ^ 32 - 1 → Rose old.store.flash.faults new.store.flash.faults

effect_by : (tells : Type 0) (old : DeviceState) (range : List ℕ) (action : Option Action) (new : DeviceState) (changing asking : Bool) →
    makes_change action old ≡ changing → asks action old range ≡ asking
    → Keeps tells old.store new.store (if changing then map_after old.store.layout old.store.pending (records old) else records old)
    (if changing then 1 else (if asking then copies_of (given_up old).store else 0))
    → HasCauses tells old action new → Effect tells old range action new
effect_by tells old range action new changing asking changes_is asks_is keeps causes =
    let by_ask = subst (λ (b : Bool). Keeps tells old.store new.store (if changing then map_after old.store.layout old.store.pending (records old) else records old)
    (if changing then 1 else (if b then copies_of (given_up old).store else 0))) (sym asks_is) keeps in
    let all = subst (λ (b : Bool). Keeps tells old.store new.store (if b then map_after old.store.layout old.store.pending (records old) else records old)
    (if b then 1 else (if asks action old range then copies_of (given_up old).store else 0))) (sym changes_is) by_ask in
    record {
      crash = all.crash;
      made = all.made;
      exact = all.exact;
      few = all.few;
      never_falls = all.never_falls;
      equivalent = all.equivalent;
      power = all.power;
      status = causes.status;
      next = causes.next;
      count = causes.count;
    }

-- an action that gives no status and is not one of these three
record IsPlain (action : Option Action) : Type 0 where
  no_start : action ≡ Some ExecuteOperation → ⊥
  no_next : action ≡ Some GetRecordIdentifier → ⊥
  no_count : action ≡ Some GetRecordCount → ⊥

plain_causes : (tells : Type 0) (old : DeviceState) (action : Option Action) (new : DeviceState) → IsPlain action →
    (new.status ≡ HardwareNotAvailable → Rose old.store.flash.faults new.store.flash.faults ⊎ (new.status ≡ old.status))
    → HasCauses tells old action new
plain_causes tells old action new plain status = record {
  status = λ is. elim (status is) [ inl rose ↦ inl rose | inr same ↦ inr (same, λ e. absurd (plain.no_start e)) ];
  next = λ e. absurd (plain.no_next e);
  count = λ e. absurd (plain.no_count e);
}

-- an action that leaves the store alone
effect_of_none : (tells : Type 0) (old : DeviceState) (range : List ℕ) (action : Option Action) (new : DeviceState) → IsPlain action → makes_change action old ≡ false → asks action old range ≡ false
    → new.store ≡ old.store → new.status ≡ old.status → Effect tells old range action new
effect_of_none tells old range action new plain changes_is asks_is same status =
    effect_by tells old range action new false false changes_is asks_is
    (subst (λ (s : StoreView). Keeps tells old.store s (records old) 0) (sym same) (keeps_same tells old.store))
    (plain_causes tells old action new plain (λ is. inr status))

is_plain_end : IsPlain (Some EndOperation)
is_plain_end = record { no_start = λ e. cc; no_next = λ e. cc; no_count = λ e. cc }

-- a number is only told
tells_plain : (action : Action) (old : DeviceState) (number : ℕ) → told_by action old.status old.store.layout ≡ Some number → IsPlain (Some action)
tells_plain ExecuteOperation old number told = absurd (cc)
tells_plain GetRecordIdentifier old number told = absurd (cc)
tells_plain GetRecordCount old number told = absurd (cc)
tells_plain action old number told = record { no_start = λ e. cc; no_next = λ e. cc; no_count = λ e. cc }

tells_quietly : (action : Action) (old : DeviceState) (range : List ℕ) (number : ℕ) → told_by action old.status old.store.layout ≡ Some number →
    (makes_change (Some action) old ≡ false) × (asks (Some action) old range ≡ false)
tells_quietly ExecuteOperation old range number told = absurd (cc)
tells_quietly CheckBusyStatus old range number told = absurd (cc)
tells_quietly GetRecordIdentifier old range number told = absurd (cc)
tells_quietly GetRecordCount old range number told = absurd (cc)
tells_quietly action old range number told = (refl, refl)

-- an operation is begun
begins_plain : (action : Action) (operation : Operation) → begun_by action ≡ Some operation → IsPlain (Some action)
begins_plain BeginWriteOperation operation by = record { no_start = λ e. cc; no_next = λ e. cc; no_count = λ e. cc }
begins_plain BeginReadOperation operation by = record { no_start = λ e. cc; no_next = λ e. cc; no_count = λ e. cc }
begins_plain BeginClearOperation operation by = record { no_start = λ e. cc; no_next = λ e. cc; no_count = λ e. cc }
begins_plain BeginDummyWriteOperation operation by = record { no_start = λ e. cc; no_next = λ e. cc; no_count = λ e. cc }
begins_plain action operation by = absurd (cc)

begins_quietly : (action : Action) (operation : Operation) (state : DeviceState) (range : List ℕ) → begun_by action ≡ Some operation →
    (makes_change (Some action) state ≡ false) × (asks (Some action) state range ≡ false)
begins_quietly BeginWriteOperation operation state range by = (refl, refl)
begins_quietly BeginReadOperation operation state range by = (refl, refl)
begins_quietly BeginClearOperation operation state range by = (refl, refl)
begins_quietly BeginDummyWriteOperation operation state range by = (refl, refl)
begins_quietly action operation state range by = absurd (cc)

-- an execution runs
busy_true : (pending : Pending) → IsBusy pending → is_busy pending ≡ true
busy_true Idle busy = absurd busy
busy_true (Writing id bytes slots replaces made) busy = refl
busy_true (Clearing id) busy = refl

or_true : (b : Bool) → cond b true true ≡ true
or_true true = refl
or_true false = refl

running_true : (state : DeviceState) → IsRunning state → is_running state ≡ true
running_true state (Reads id is) = ap (λ (o : Option ℕ). cond (is_some o) true (is_busy state.store.pending)) is
running_true state (Changes busy) = ap (λ (b : Bool). cond (is_some state.reading) true b) (busy_true state.store.pending busy) ∙ or_true (is_some state.reading)

effect_of_waiting : (tells : Type 0) (old : DeviceState) (range : List ℕ) (action : Action) → waits action ≡ true → IsRunning old → Effect tells old range (Some action) old
effect_of_waiting tells old range SetRecordOffset waits_is runs = effect_of_none tells old range (Some SetRecordOffset) old
    (record { no_start = λ e. cc; no_next = λ e. cc; no_count = λ e. cc }) refl refl refl refl
effect_of_waiting tells old range SetRecordIdentifier waits_is runs = effect_of_none tells old range (Some SetRecordIdentifier) old
    (record { no_start = λ e. cc; no_next = λ e. cc; no_count = λ e. cc }) refl refl refl refl
effect_of_waiting tells old range ExecuteOperation waits_is runs =
    effect_by tells old range (Some ExecuteOperation) old false false refl
    (ap (λ (b : Bool). if b then false else start_asks old.operation old range) (running_true old runs))
    (keeps_same tells old.store)
    (record { status = λ is. inr (refl, λ e. runs); next = λ e. absurd (cc); count = λ e. absurd (cc) })
effect_of_waiting tells old range action waits_is runs = absurd (cc)

-- none runs
still_false : (state : DeviceState) → IsStill state → is_running state ≡ false
still_false state still =
    ap (λ (o : Option ℕ). cond (is_some o) true (is_busy state.store.pending)) still.no_read ∙ ap is_busy still.no_change

asks_at_start : (state : DeviceState) (range : List ℕ) (operation : Option Operation) → IsStill state → state.operation ≡ operation
    → asks (Some ExecuteOperation) state range ≡ start_asks operation state range
asks_at_start state range operation still is =
    ap (λ (b : Bool). if b then false else start_asks state.operation state range) (still_false state still)
    ∙ ap (λ (o : Option Operation). start_asks o state range) is

copies_still : (state : DeviceState) → IsStill state → copies_of state.store ≡ copies_of (given_up state).store
copies_still state still = ap (λ (p : Pending). if doubt_after p state.store.in_doubt then copies_in state.store else 0) (sym still.no_change)

-- a start gives a status
start_causes : (tells : Type 0) (old new : DeviceState) → (new.status ≡ HardwareNotAvailable → Rose old.store.flash.faults new.store.flash.faults) → HasCauses tells old (Some ExecuteOperation) new
start_causes tells old new status = record { status = λ is. inl (status is); next = λ e. absurd (cc); count = λ e. absurd (cc) }

status_after_rose : (before after : ℕ) (result : Result (Unit {0}) StoreError) → HasFaultsOf before after result → status_after result ≡ HardwareNotAvailable → Rose before after
status_after_rose before after (Ok done) cause is = absurd (cc)
status_after_rose before after (Err error) cause is = status_rose (Unit {0}) before after error cause is

-- a start that asks nothing of the store
effect_of_refusal : (tells : Type 0) (old : DeviceState) (range : List ℕ) (status : CommandStatus) → asks (Some ExecuteOperation) old range ≡ false → (status ≡ HardwareNotAvailable → ⊥)
    → Effect tells old range (Some ExecuteOperation) (record old { status = status })
effect_of_refusal tells old range status asks_is other =
    effect_by tells old range (Some ExecuteOperation) _ false false refl asks_is (keeps_same tells old.store) (start_causes tells old _ (λ is. absurd (other is)))

-- one that asks it
effect_of_asking : (tells : Type 0) (old : DeviceState) (range : List ℕ) (new : DeviceState) → IsStill old → asks (Some ExecuteOperation) old range ≡ true
    → Keeps tells old.store new.store (records old) (copies_of old.store) → (new.status ≡ HardwareNotAvailable → Rose old.store.flash.faults new.store.flash.faults)
    → Effect tells old range (Some ExecuteOperation) new
effect_of_asking tells old range new still asks_is keeps status =
    effect_by tells old range (Some ExecuteOperation) new false true refl asks_is
    (subst (λ (n : ℕ). Keeps tells old.store new.store (records old) n) (copies_still old still) keeps)
    (start_causes tells old new status)

keeps_looked : (tells : Type 0) (old new : StoreView) (cursor : ℕ) (result : Result (Option ℕ) StoreError) → FoundNext tells old new cursor result → Keeps tells old new (stored old) (copies_of old)
keeps_looked tells old new cursor result next =
    let leaves = next.leaves in keeps_asked tells old new result leaves.kept leaves.few leaves.ended leaves.equivalent leaves.power leaves.cause

effect_of_start : (tells : Type 0) (old : DeviceState) (range : List ℕ) (new : DeviceState) → IsStill old → Starts tells old range new → Effect tells old range (Some ExecuteOperation) new
effect_of_start tells old range new still starts =
    elim starts as (λ new starts. Effect tells old range (Some ExecuteOperation) new) [
      | NoneBegun is ↦ effect_of_refusal tells old range Failed (asks_at_start old range None still is) (λ e. cc)
      | WritesDummy is ↦ effect_of_refusal tells old range Success (asks_at_start old range (Some Dummy) still is) (λ e. cc)
      | NoDraft is none ↦ effect_of_refusal tells old range Failed (asks_at_start old range (Some Write) still is ∙ ap is_some none) (λ e. cc)
      | Writes size id store result is draft begun ↦
          let leaves = begun.leaves in
          effect_of_asking tells old range _ still (asks_at_start old range (Some Write) still is ∙ ap is_some draft)
          (keeps_asked tells old.store store result leaves.kept leaves.few leaves.ended leaves.equivalent leaves.power leaves.cause)
          (status_after_rose _ _ result leaves.cause)
      | LookFails store error is next ↦
          let leaves = next.leaves in
          effect_of_asking tells old range _ still (asks_at_start old range (Some Read) still is) (keeps_looked tells old.store store 0 (Err error) next)
          (status_rose (Option ℕ) _ _ error leaves.cause)
      | FindsNone store is next ↦ effect_of_asking tells old range _ still (asks_at_start old range (Some Read) still is) (keeps_looked tells old.store store 0 (Ok None) next) (λ e. absurd (cc))
      | Misses store least is next none ↦
          effect_of_asking tells old range _ still (asks_at_start old range (Some Read) still is) (keeps_looked tells old.store store 0 (Ok (Some least)) next) (λ e. absurd (cc))
      | GoesBeyond store least size is next long beyond ↦
          effect_of_asking tells old range _ still (asks_at_start old range (Some Read) still is) (keeps_looked tells old.store store 0 (Ok (Some least)) next) (λ e. absurd (cc))
      | Finds store least size is next long within ↦
          effect_of_asking tells old range _ still (asks_at_start old range (Some Read) still is) (keeps_looked tells old.store store 0 (Ok (Some least)) next) (λ e. absurd (cc))
      | NoneToClear is reserved ↦
          effect_of_refusal tells old range Failed (asks_at_start old range (Some Clear) still is ∙ ap (λ (b : Bool). if b then false else true) reserved) (λ e. cc)
      | Clears store result is allowed begun ↦
          let leaves = begun.leaves in
          effect_of_asking tells old range _ still (asks_at_start old range (Some Clear) still is ∙ ap (λ (b : Bool). if b then false else true) allowed)
          (keeps_asked tells old.store store result leaves.kept leaves.few leaves.ended leaves.equivalent leaves.power leaves.cause)
          (status_after_rose _ _ result leaves.cause)
    ]

-- a step of an execution
plain_step : IsPlain (Some CheckBusyStatus)
plain_step = record { no_start = λ e. cc; no_next = λ e. cc; no_count = λ e. cc }

step_status : (old : DeviceState) (store : StoreView) (result : Result Bool StoreError) → HasFaultsOf old.store.flash.faults store.flash.faults result →
    (stepped result store old).status ≡ HardwareNotAvailable
    → Rose old.store.flash.faults (stepped result store old).store.flash.faults ⊎ ((stepped result store old).status ≡ old.status)
step_status old store (Ok last) cause is = inr refl
step_status old store (Err error) cause is = inl (status_rose Bool _ _ error cause is)

step_store : (old : DeviceState) (store : StoreView) (result : Result Bool StoreError) → (stepped result store old).store ≡ store
step_store old store (Ok last) = refl
step_store old store (Err error) = refl

effect_of_step : (tells : Type 0) (old : DeviceState) (range : List ℕ) (store : StoreView) (result : Result Bool StoreError) → IsBusy old.store.pending → Stepped tells old.store store result
    → Effect tells old range (Some CheckBusyStatus) (stepped result store old)
effect_of_step tells old range store result busy step =
    effect_by tells old range (Some CheckBusyStatus) (stepped result store old) true false (busy_true old.store.pending busy) refl
    (subst (λ (s : StoreView). Keeps tells old.store s (map_after old.store.layout old.store.pending (records old)) 1) (sym (step_store old store result))
    (keeps_stepped tells old.store store result step))
    (plain_causes tells old (Some CheckBusyStatus) _ plain_step (step_status old store result step.cause))

show_status : (old : DeviceState) (id : ℕ) (store : StoreView) (result : Result ℕ StoreError) → HasFaultsOf old.store.flash.faults store.flash.faults result →
    (shown id result store old).status ≡ HardwareNotAvailable
    → Rose old.store.flash.faults (shown id result store old).store.flash.faults ⊎ ((shown id result store old).status ≡ old.status)
show_status old id store (Ok size) cause is = absurd (cc)
show_status old id store (Err error) cause is = inl (status_rose ℕ _ _ error cause is)

show_store : (old : DeviceState) (id : ℕ) (store : StoreView) (result : Result ℕ StoreError) → (shown id result store old).store ≡ store
show_store old id store (Ok size) = refl
show_store old id store (Err error) = refl

-- one that knows its records ends none
copies_certain : (store : StoreView) → store.in_doubt ≡ false → copies_of store ≡ 0
copies_certain store certain = ap (λ (b : Bool). if b then copies_in store else 0) certain

effect_of_show : (tells : Type 0) (old : DeviceState) (range : List ℕ) (id : ℕ) (store : StoreView) (before after : List ℕ) (result : Result ℕ StoreError) →
    ReadOut tells old.store store id before after result
    → Effect tells old range (Some CheckBusyStatus) (shown id result store old)
effect_of_show tells old range id store before after result read =
    let leaves = read.leaves in
    let ready = read.ready in
    let keeps = keeps_asked tells old.store store result leaves.kept leaves.few leaves.ended leaves.equivalent leaves.power leaves.cause in
    effect_by tells old range (Some CheckBusyStatus) (shown id result store old) false false (ap is_busy ready.idle) refl
    (subst (λ (s : StoreView). Keeps tells old.store s (records old) 0) (sym (show_store old id store result))
    (subst (λ (n : ℕ). Keeps tells old.store store (records old) n) (copies_certain old.store ready.certain) keeps))
    (plain_causes tells old (Some CheckBusyStatus) _ plain_step (show_status old id store result leaves.cause))

-- an execution is abandoned, and the store is asked
keeps_given_up : (tells : Type 0) (old new : StoreView) (map : Stored) (changes : ℕ) → Keeps tells (abandoned old) new map changes → Keeps tells old new map changes
keeps_given_up tells old new map changes keeps =
    let equivalent : DividesAlike old new = record { layout = keeps.equivalent.layout; size = keeps.equivalent.size; sector_size = keeps.equivalent.sector_size } in
    record { crash = keeps.crash; made = keeps.made; exact = keeps.exact; few = keeps.few; never_falls = keeps.never_falls; equivalent = equivalent; power = keeps.power }

effect_of_look : (tells : Type 0) (old : DeviceState) (range : List ℕ) (store : StoreView) (result : Result (Option ℕ) StoreError) →
    FoundNext tells (given_up old).store store old.cursor result → IsAllowed result
    → Effect tells old range (Some GetRecordIdentifier) (found result store (given_up old))
effect_of_look tells old range store (Ok (Some id)) next allowed =
    effect_by tells old range (Some GetRecordIdentifier) _ false true refl refl
    (keeps_given_up tells old.store store _ _ (keeps_looked tells _ store old.cursor (Ok (Some id)) next))
    (record { status = λ is. inr (refl, λ e. absurd (cc)); next = λ e zero_value. absurd (allowed_not_zero id allowed.0 zero_value); count = λ e. absurd (cc) })
effect_of_look tells old range store (Ok None) next allowed =
    effect_by tells old range (Some GetRecordIdentifier) _ false true refl refl
    (keeps_given_up tells old.store store _ _ (keeps_looked tells _ store old.cursor (Ok None) next))
    (record { status = λ is. inr (refl, λ e. absurd (cc)); next = λ e zero_value. absurd (omega arith); count = λ e. absurd (cc) })
effect_of_look tells old range store (Err error) next allowed =
    let leaves = next.leaves in
    effect_by tells old range (Some GetRecordIdentifier) _ false true refl refl
    (keeps_given_up tells old.store store _ _ (keeps_looked tells _ store old.cursor (Err error) next))
    (record { status = λ is. inr (refl, λ e. absurd (cc)); next = λ e zero_value. error_rose (Option ℕ) _ _ error leaves.cause next.error; count = λ e. absurd (cc) })

effect_of_count : (tells : Type 0) (old : DeviceState) (range : List ℕ) (store : StoreView) (result : Result ℕ StoreError) → Counted tells (given_up old).store store result
    → Effect tells old range (Some GetRecordCount) (counted result store (given_up old))
effect_of_count tells old range store (Ok n) count =
    let leaves = count.leaves in
    effect_by tells old range (Some GetRecordCount) _ false true refl refl
    (keeps_given_up tells old.store store _ _ (keeps_asked tells _ store (Ok n) leaves.kept leaves.few leaves.ended leaves.equivalent leaves.power leaves.cause))
    (record {
      status = λ is. inr (refl, λ e. absurd (cc));
      next = λ e. absurd (cc);
      count = λ e greatest.
          let most = old.store.layout.many_slots in
          let few : n ≤ old.store.layout.slots = count.within in
          absurd (omega arith);
    })
effect_of_count tells old range store (Err error) count =
    let leaves = count.leaves in
    effect_by tells old range (Some GetRecordCount) _ false true refl refl
    (keeps_given_up tells old.store store _ _ (keeps_asked {T = ℕ} tells _ store (Err error) leaves.kept leaves.few leaves.ended leaves.equivalent leaves.power leaves.cause))
    (record {
      status = λ is. inr (refl, λ e. absurd (cc));
      next = λ e. absurd (cc);
      count = λ e greatest. error_rose ℕ _ _ error leaves.cause count.error;
    })

pub effect_of : (tells : Type 0) (old : DeviceState) (range : List ℕ) (action : Option Action) (new : DeviceState) (after : List ℕ) →
    Acts tells old range action new after → Effect tells old range action new
effect_of tells old range action new after acts =
    elim acts as (λ action new after acts. Effect tells old range action new) [
      | Begins action operation by ↦
          let quiet = begins_quietly action operation old range by in
          effect_by tells old range (Some action) _ false false quiet.0 quiet.1 (keeps_abandoned tells old.store)
          (plain_causes tells old (Some action) _ (begins_plain action operation by) (λ is. absurd (cc)))
      | Ends ↦ effect_by tells old range (Some EndOperation) _ false false refl refl (keeps_abandoned tells old.store) (plain_causes tells old (Some EndOperation) _ is_plain_end (λ is. inr refl))
      | SetsOffset still ↦ effect_of_none tells old range (Some SetRecordOffset) _ (record { no_start = λ e. cc; no_next = λ e. cc; no_count = λ e. cc }) refl refl refl refl
      | SetsId still ↦ effect_of_none tells old range (Some SetRecordIdentifier) _ (record { no_start = λ e. cc; no_next = λ e. cc; no_count = λ e. cc }) refl refl refl refl
      | Waits action waits_is runs ↦ effect_of_waiting tells old range action waits_is runs
      | Executes new still starts ↦ effect_of_start tells old range new still starts
      | NoneRuns still ↦ effect_of_none tells old range (Some CheckBusyStatus) _ plain_step (ap is_busy still.no_change) refl refl refl
      | Steps store result none busy step ↦ effect_of_step tells old range store result busy step
      | Shows id store out result runs read ↦ effect_of_show tells old range id store _ out result read
      | Tells action number told ↦
          let quiet = tells_quietly action old range number told in
          effect_of_none tells old range (Some action) _ (tells_plain action old number told) quiet.0 quiet.1 refl refl
      | FindsNext store result next allowed ↦ effect_of_look tells old range store result next allowed
      | Counts store result count ↦ effect_of_count tells old range store result count
      | Ignores ↦ effect_of_none tells old range None old (record { no_start = λ e. cc; no_next = λ e. cc; no_count = λ e. cc }) refl refl refl refl
    ]
