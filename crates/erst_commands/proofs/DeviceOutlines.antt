-- The outline of a device after an action over a flash that fails nothing, as the outline before it determines it, with the least identifier
-- above a cursor where the action looks for one.
use Rattle.std.proofs.Common.{◌≡◌, ℕ, ◌+◌, ◌-◌, ◌^◌, ◌<◌, ◌≤◌, Bool, true, false, List, ◌++◌, length, take, drop, Option, Some, None, Result, Ok, Err, refl, sym, ap, subst, ◌∙◌, arith}
use Rattle.std.specs.Prelude.{if◌then◌else◌, is_some, nat_lt, IsSome}
use Rattle.std.specs.FinMap.{get, len}
use Rattle.std.proofs.lemmas.Option.{none-some, same_Some}
use Rattle.std.proofs.lemmas.Bool.Decides.{nat_tests}
use Rattle.base_model.specs.Bytes.{part}
use Rattle.record_model.specs.Records.{Stored, is_reserved}
use Rattle.record_model.specs.RecordMap.{Refusal, Write as write_command, Clear as clear_command, refusal_of, IsNextAbove}
use Rattle.record_store.specs.Store.{StoreView, Pending, Idle, Writing, Clearing, stored, IsBusy}
use Rattle.record_store.specs.Calls.{OnlyLooks}
use Rattle.record_store.specs.declared.errors.StoreError.{StoreError}
use Rattle.erst_entries.specs.declared.actions.Action.{Action}
use Rattle.erst_entries.specs.declared.actions.Action.TheVariants.{BeginWriteOperation, BeginReadOperation, BeginClearOperation, EndOperation, SetRecordOffset}
use Rattle.erst_entries.specs.declared.actions.Action.TheVariants.{ExecuteOperation, CheckBusyStatus, GetRecordIdentifier, SetRecordIdentifier, GetRecordCount}
use Rattle.erst_entries.specs.declared.actions.Action.TheVariants.{BeginDummyWriteOperation}
use Rattle.erst_device.specs.declared.registers.Operation.{Operation}
use Rattle.erst_device.specs.declared.registers.Operation.TheVariants.{Write, Read, Clear, Dummy}
use Rattle.erst_device.specs.declared.status.CommandStatus.{CommandStatus}
use Rattle.erst_device.specs.declared.status.CommandStatus.TheVariants.{Success, Failed, RecordStoreEmpty, RecordNotFound}
use Rattle.erst_device.specs.Drafts.{draft_at}
use Rattle.erst_device.specs.StoreCalls.{Stepped, StartedWrite, StartedClear, FoundNext, Counted, ReadOut}
use Rattle.erst_device.specs.DeviceState.{DeviceState, IsStill, IsRunning, Reads, Changes, is_busy, given_up, KnowsCopies}
use Rattle.erst_device.specs.Starts.{named, HasLength, Starts, NoneBegun, WritesDummy, NoDraft, Writes, LookFails, FindsNone, Misses, GoesBeyond, Finds, NoneToClear, Clears, status_after}
use Rattle.erst_device.specs.Actions.{told_by, begun_by, waits, gives_up, stepped, shown, found, counted, Acts, Begins, Ends, SetsOffset, SetsId, Waits}
use Rattle.erst_device.specs.Actions.{Executes, NoneRuns, Steps, Shows, Tells, FindsNext, Counts, Ignores}
use Rattle.erst_commands.specs.Equivalence.{StoreOutline, DeviceOutline, unplaced, store_outline, device_outline, FailsNothing}
use Rattle.erst_commands.proofs.StoreOutlines.{looked, gave_up, changed, started, status_by, is_idle, write_pending, given_up_outline, only_looked, has_changed}
use Rattle.erst_commands.proofs.StoreOutlines.{write_started, clear_started, answers_ok}

-- What an action makes of an outline

abbrev pub running : DeviceOutline → Bool
running o = if is_some o.reading then true else is_busy o.store.pending

abbrev pub giving_up : DeviceOutline → DeviceOutline
giving_up o = record o { reading = None; store = gave_up o.store }

abbrev pub begun : Operation → DeviceOutline → DeviceOutline
begun operation o = record (giving_up o) { operation = Some operation; offset = 0; id = 0; status = Success }

abbrev pub start_by : Option Refusal → Pending → DeviceOutline → DeviceOutline
start_by refusal pending o = record o { status = status_by refusal; store = started refusal pending o.store }

abbrev pub start_write : Option (ℕ × ℕ) → DeviceOutline → List ℕ → DeviceOutline
start_write None o range = record o { status = Failed }
start_write (Some draft) o range =
    start_by (refusal_of o.store.layout (write_command draft.1 (part range o.offset draft.0)) o.store.records) (write_pending o.store.layout o.store.records draft.1 (part range o.offset draft.0)) o

abbrev pub show_record : Bool → ℕ → DeviceOutline → DeviceOutline
show_record true id o = record o { status = Failed; store = looked o.store }
show_record false id o = record o { status = Success; reading = Some id; store = looked o.store }

abbrev pub find_record : Option (List ℕ × ℕ) → ℕ → DeviceOutline → List ℕ → DeviceOutline
find_record None id o range = record o { status = RecordNotFound; cursor = 0; store = looked o.store }
find_record (Some kept) id o range = show_record (nat_lt (length range) (o.offset + length kept.0)) id o

abbrev pub start_read : Option ℕ → DeviceOutline → List ℕ → DeviceOutline
start_read None o range = record o { status = RecordStoreEmpty; store = looked o.store }
start_read (Some least) o range = find_record (get o.store.records (named o.id least)) (named o.id least) o range

abbrev pub start_clear : Bool → DeviceOutline → DeviceOutline
start_clear true o = record o { status = Failed }
start_clear false o = start_by (refusal_of o.store.layout (clear_command o.id) o.store.records) (Clearing o.id) o

abbrev pub start : Option Operation → DeviceOutline → List ℕ → Option ℕ → DeviceOutline
start None o range next = record o { status = Failed }
start (Some Write) o range next = start_write (draft_at o.offset range) o range
start (Some Read) o range next = start_read next o range
start (Some Clear) o range next = start_clear (is_reserved o.id) o
start (Some Dummy) o range next = record o { status = Success }

abbrev pub step_on : Bool → DeviceOutline → DeviceOutline
step_on true o = record o { value = if is_idle (changed o.store).pending then 0 else 1; store = changed o.store }
step_on false o = record o { value = 0 }

abbrev pub go_on : Option ℕ → DeviceOutline → DeviceOutline
go_on None o = step_on (is_busy o.store.pending) o
go_on (Some id) o = record o { value = 0; status = Success; cursor = id; reading = None; store = looked o.store }

-- the body of a record, none where there is none
abbrev pub body_of : Option (List ℕ × ℕ) → List ℕ → List ℕ
body_of None before = before
body_of (Some kept) before = kept.0 ++ drop (length kept.0) before

abbrev pub range_shown : Option ℕ → DeviceOutline → List ℕ → List ℕ
range_shown None o range = range
range_shown (Some id) o range = take o.offset range ++ body_of (get o.store.records id) (drop o.offset range)

abbrev pub find_next : Option ℕ → DeviceOutline → DeviceOutline
find_next (Some id) o = record o { value = id; cursor = id; store = looked o.store }
find_next None o = record o { value = 2 ^ 64 - 1; cursor = 0; store = looked o.store }

abbrev pub tell : Option ℕ → DeviceOutline → DeviceOutline
tell (Some number) o = record o { value = number }
tell None o = o

abbrev pub become : Option Action → DeviceOutline → List ℕ → Option ℕ → DeviceOutline
become (Some BeginWriteOperation) o range next = begun Write o
become (Some BeginReadOperation) o range next = begun Read o
become (Some BeginClearOperation) o range next = begun Clear o
become (Some BeginDummyWriteOperation) o range next = begun Dummy o
become (Some EndOperation) o range next = record (giving_up o) { operation = None }
become (Some SetRecordOffset) o range next = if running o then o else record o { offset = o.value }
become (Some SetRecordIdentifier) o range next = if running o then o else record o { id = o.value }
become (Some ExecuteOperation) o range next = if running o then o else start o.operation o range next
become (Some CheckBusyStatus) o range next = go_on o.reading o
become (Some GetRecordIdentifier) o range next = find_next next (giving_up o)
become (Some GetRecordCount) o range next = record (giving_up o) { value = len o.store.records; store = looked (gave_up o.store) }
become (Some action) o range next = tell (told_by action o.status o.store.layout) o
become None o range next = o

abbrev pub range_after : Option Action → DeviceOutline → List ℕ → List ℕ
range_after (Some CheckBusyStatus) o range = range_shown o.reading o range
range_after action o range = range

-- the cursor above which an action looks for an identifier, where it does
abbrev pub start_looks : Option Operation → Option ℕ
start_looks (Some Read) = Some 0
start_looks operation = None

abbrev pub looks : Option Action → DeviceOutline → Option ℕ
looks (Some ExecuteOperation) o = if running o then None else start_looks o.operation
looks (Some GetRecordIdentifier) o = Some o.cursor
looks action o = None

abbrev pub IsFound : Option ℕ → Stored → Option ℕ → Type 0
IsFound None map next = next ≡ None
IsFound (Some cursor) map next = IsNextAbove cursor map next

pub record Became (action : Option Action) (old : DeviceOutline) (range : List ℕ) (new : DeviceOutline) (after : List ℕ) : Type 0 where
  pub next : Option ℕ
  pub is_found : IsFound (looks action old) old.store.records next
  pub outline : new ≡ become action old range next
  pub range_is : after ≡ range_after action old range

-- One next is found

none_or_some : (cursor : ℕ) (map : Stored) (id : ℕ) → IsNextAbove cursor map None → IsNextAbove cursor map (Some id) → ⊥
none_or_some cursor map id none least = some_not (get map id) least.1 (none id least.0)
  where
    some_not : (kept : Option (List ℕ × ℕ)) → IsSome kept → kept ≡ None → ⊥
    some_not None here is = let e : false ≡ true = here in absurd (cc)
    some_not (Some x) here is = absurd (cc)

next_once : (cursor : ℕ) (map : Stored) (x y : Option ℕ) → IsNextAbove cursor map x → IsNextAbove cursor map y → x ≡ y
next_once cursor map None None none also = refl
next_once cursor map None (Some id) none least = absurd (none_or_some cursor map id none least)
next_once cursor map (Some id) None least none = absurd (none_or_some cursor map id none least)
next_once cursor map (Some x) (Some y) one other =
    let below : x ≤ y = one.2 y other.0 other.1 in
    let above : y ≤ x = other.2 x one.0 one.1 in
    let same : x ≡ y = omega arith in
    ap (λ (n : ℕ). Some n) same

pub found_once : (cursor : Option ℕ) (map : Stored) (x y : Option ℕ) → IsFound cursor map x → IsFound cursor map y → x ≡ y
found_once None map x y one other = one ∙ sym other
found_once (Some cursor) map x y one other = next_once cursor map x y one other

-- Whether an execution runs

busy_is : (pending : Pending) → IsBusy pending → is_busy (unplaced pending) ≡ true
busy_is Idle busy = absurd busy
busy_is (Writing id bytes slots replaces made) busy = refl
busy_is (Clearing id) busy = refl

still_is : (old : DeviceState) → IsStill old → running (device_outline old) ≡ false
still_is old still =
    ap (λ (r : Option ℕ). if is_some r then true else is_busy (unplaced old.store.pending)) still.no_read
    ∙ ap (λ (p : Pending). is_busy (unplaced p)) still.no_change

or_true : (b : Bool) → (if b then true else true) ≡ true
or_true true = refl
or_true false = refl

running_is : (old : DeviceState) → IsRunning old → running (device_outline old) ≡ true
running_is old runs = elim runs [
  | Reads id is ↦ ap (λ (r : Option ℕ). if is_some r then true else is_busy (unplaced old.store.pending)) is
  | Changes busy ↦ ap (λ (b : Bool). if is_some old.reading then true else b) (busy_is old.store.pending busy) ∙ or_true (is_some old.reading)
]

-- An action that looks for nothing

plain : (action : Option Action) (old new : DeviceOutline) (range after : List ℕ) → looks action old ≡ None → new ≡ become action old range None →
    after ≡ range_after action old range → Became action old range new after
plain action old new range after none is range_is = record {
  next = None;
  is_found = subst (λ (l : Option ℕ). IsFound l old.store.records None) (sym none) refl;
  outline = is;
  range_is = range_is;
}

given_up_device : (old : DeviceState) → KnowsCopies old.store → device_outline (given_up old) ≡ giving_up (device_outline old)
given_up_device old knows = ap (λ (s : StoreOutline). record (device_outline old) { reading = None; store = s }) (given_up_outline old.store knows)

begun_is : (op operation : Operation) (old : DeviceState) → op ≡ operation → KnowsCopies old.store
    → device_outline (record (given_up old) { operation = Some operation; offset = 0; id = 0; status = Success }) ≡ begun op (device_outline old)
begun_is op operation old same knows =
    ap (λ (d : DeviceOutline). record d { operation = Some operation; offset = 0; id = 0; status = Success }) (given_up_device old knows)
    ∙ ap (λ (o : Operation). begun o (device_outline old)) (sym same)

begins : (action : Action) (operation : Operation) (old : DeviceState) (range : List ℕ) → begun_by action ≡ Some operation → (gives_up (Some action) ≡ true → KnowsCopies old.store)
    → Became (Some action) (device_outline old) range (device_outline (record (given_up old) { operation = Some operation; offset = 0; id = 0; status = Success })) range
begins BeginWriteOperation operation old range by knows = plain (Some BeginWriteOperation) _ _ range range refl (begun_is Write operation old (same_Some _ _ by) (knows refl)) refl
begins BeginReadOperation operation old range by knows = plain (Some BeginReadOperation) _ _ range range refl (begun_is Read operation old (same_Some _ _ by) (knows refl)) refl
begins BeginClearOperation operation old range by knows = plain (Some BeginClearOperation) _ _ range range refl (begun_is Clear operation old (same_Some _ _ by) (knows refl)) refl
begins BeginDummyWriteOperation operation old range by knows = plain (Some BeginDummyWriteOperation) _ _ range range refl (begun_is Dummy operation old (same_Some _ _ by) (knows refl)) refl
begins action operation old range by knows = absurd (none-some operation by)

-- one that waits for an execution
waiting : (action : Action) (old : DeviceState) (range : List ℕ) → waits action ≡ true → running (device_outline old) ≡ true →
    Became (Some action) (device_outline old) range (device_outline old) range
waiting SetRecordOffset old range w runs =
    plain (Some SetRecordOffset) _ _ range range refl (sym (ap (λ (b : Bool). if b then device_outline old else record (device_outline old) { offset = old.value }) runs)) refl
waiting SetRecordIdentifier old range w runs =
    plain (Some SetRecordIdentifier) _ _ range range refl (sym (ap (λ (b : Bool). if b then device_outline old else record (device_outline old) { id = old.value }) runs)) refl
waiting ExecuteOperation old range w runs =
    plain (Some ExecuteOperation) (device_outline old) (device_outline old) range range
    (ap (λ (b : Bool). if b then None else start_looks old.operation) runs)
    (sym (ap (λ (b : Bool). if b then device_outline old else start old.operation (device_outline old) range None) runs)) refl
waiting action old range w runs = absurd (cc)

-- An action that only tells a number

telling : (action : Action) (old : DeviceState) (range : List ℕ) (number : ℕ) → told_by action old.status old.store.layout ≡ Some number
    → Became (Some action) (device_outline old) range (record (device_outline old) { value = number }) range
telling BeginWriteOperation old range number told = absurd (cc)
telling BeginReadOperation old range number told = absurd (cc)
telling BeginClearOperation old range number told = absurd (cc)
telling BeginDummyWriteOperation old range number told = absurd (cc)
telling EndOperation old range number told = absurd (cc)
telling SetRecordOffset old range number told = absurd (cc)
telling SetRecordIdentifier old range number told = absurd (cc)
telling ExecuteOperation old range number told = absurd (cc)
telling CheckBusyStatus old range number told = absurd (cc)
telling GetRecordIdentifier old range number told = absurd (cc)
telling GetRecordCount old range number told = absurd (cc)
telling action old range number told = plain (Some action) _ _ range range refl (sym (ap (λ (t : Option ℕ). tell t (device_outline old)) told)) refl

-- A start

record HasBegun (old : DeviceState) (range : List ℕ) (new : DeviceOutline) : Type 0 where
  next : Option ℕ
  is_found : IsFound (start_looks old.operation) (stored old.store) next
  outline : new ≡ start old.operation (device_outline old) range next

by_operation : (old : DeviceState) (range : List ℕ) (new : DeviceOutline) (operation : Option Operation) (next : Option ℕ) → old.operation ≡ operation →
    IsFound (start_looks operation) (stored old.store) next
    → new ≡ start operation (device_outline old) range next → HasBegun old range new
by_operation old range new operation next is is_found outline = record {
  next = next;
  is_found = subst (λ (o : Option Operation). IsFound (start_looks o) (stored old.store) next) (sym is) is_found;
  outline = outline ∙ sym (ap (λ (o : Option Operation). start o (device_outline old) range next) is);
}

with_status : (d : DeviceOutline) (x y : CommandStatus) (s t : StoreOutline) → x ≡ y → s ≡ t → ◌≡◌ {A = DeviceOutline} (record d { status = x; store = s }) (record d { status = y; store = t })
with_status d x y s t status store =
    ap (λ (c : CommandStatus). record d { status = c; store = s }) status ∙ ap (λ (o : StoreOutline). record d { status = y; store = o }) store

beyond_is : (range offset size long : ℕ) → size ≡ long → range < offset + size → nat_lt range (offset + long) ≡ true
beyond_is range offset size long is beyond = grind (arith, nat_tests)

within_is : (range offset size long : ℕ) → size ≡ long → offset + size ≤ range → nat_lt range (offset + long) ≡ false
within_is range offset size long is within = grind (arith, nat_tests)

module _ (tells : Type 0) (told : tells) (old : DeviceState) (range : List ℕ) where
  written : (size id : ℕ) (store : StoreView) (result : Result (Unit {0}) StoreError) → old.operation ≡ Some Write → draft_at old.offset range ≡ Some (size, id)
      → StartedWrite tells old.store store id (part range old.offset size) result → FailsNothing old.store store →
      HasBegun old range (device_outline (record old { status = status_after result; store = store }))
  written size id store result is draft call quiet =
      let started = write_started tells told old.store store id (part range old.offset size) result quiet call in
      by_operation old range _ (Some Write) None is refl
      (with_status (device_outline old) _ _ _ _ started.status started.outline ∙ sym (ap (λ (d : Option (ℕ × ℕ)). start_write d (device_outline old) range) draft))

  cleared : (store : StoreView) (result : Result (Unit {0}) StoreError) → old.operation ≡ Some Clear → is_reserved old.id ≡ false →
      StartedClear tells old.store store old.id result → FailsNothing old.store store
      → HasBegun old range (device_outline (record old { status = status_after result; store = store }))
  cleared store result is allowed call quiet =
      let started = clear_started tells told old.store store old.id result quiet call in
      by_operation old range _ (Some Clear) None is refl
      (with_status (device_outline old) _ _ _ _ started.status started.outline ∙ sym (ap (λ (b : Bool). start_clear b (device_outline old)) allowed))

  looks_for : (store : StoreView) (cursor : ℕ) (next : Option ℕ) → FoundNext tells old.store store cursor (Ok next) → FailsNothing old.store store →
      store_outline store ≡ looked (store_outline old.store)
  looks_for store cursor next look quiet = only_looked {T = Option ℕ} tells told old.store store (Ok next) quiet look.leaves

  shows_kept : (store : StoreView) (least size : ℕ) (beyond : Bool) → HasLength (stored old.store) (named old.id least) size → nat_lt (length range) (old.offset + size) ≡ beyond
      → show_record beyond (named old.id least) (device_outline old) ≡ find_record (get (stored old.store) (named old.id least)) (named old.id least) (device_outline old) range
  shows_kept store least size beyond long is =
      sym (ap (λ (k : Option (List ℕ × ℕ)). find_record k (named old.id least) (device_outline old) range) long.here
      ∙ ap (λ (b : Bool). show_record b (named old.id least) (device_outline old)) (ap (λ (n : ℕ). nat_lt (length range) (old.offset + n)) (sym long.size_is) ∙ is))

  has_begun : (new : DeviceState) → Starts tells old range new → FailsNothing old.store new.store → HasBegun old range (device_outline new)
  has_begun new starts = elim starts as (λ new starts. FailsNothing old.store new.store → HasBegun old range (device_outline new)) [
    | NoneBegun is ↦ λ quiet. by_operation old range _ None None is refl refl
    | WritesDummy is ↦ λ quiet. by_operation old range _ (Some Dummy) None is refl refl
    | NoDraft is none ↦ λ quiet. by_operation old range _ (Some Write) None is refl (sym (ap (λ (d : Option (ℕ × ℕ)). start_write d (device_outline old) range) none))
    | Writes size id store result is draft call ↦ λ quiet. written size id store result is draft call quiet
    | LookFails store error is look ↦ λ quiet. absurd (answers_ok (Option ℕ) old.store store error look.error quiet look.leaves.cause)
    | FindsNone store is look ↦ λ quiet. by_operation old range _ (Some Read) None is (look.answer told)
        (ap (λ (s : StoreOutline). record (device_outline old) { status = RecordStoreEmpty; store = s }) (looks_for store 0 None look quiet))
    | Misses store least is look none ↦ λ quiet. by_operation old range _ (Some Read) (Some least) is (look.answer told)
        (ap (λ (s : StoreOutline). record (device_outline old) { status = RecordNotFound; cursor = 0; store = s }) (looks_for store 0 (Some least) look quiet)
        ∙ sym (ap (λ (k : Option (List ℕ × ℕ)). find_record k (named old.id least) (device_outline old) range) (none told)))
    | GoesBeyond store least size is look long beyond ↦ λ quiet. by_operation old range _ (Some Read) (Some least) is (look.answer told)
        (ap (λ (s : StoreOutline). record (device_outline old) { status = Failed; store = s }) (looks_for store 0 (Some least) look quiet)
        ∙ shows_kept store least size true (long told) (beyond_is (length range) old.offset size size refl beyond))
    | Finds store least size is look long within ↦ λ quiet. by_operation old range _ (Some Read) (Some least) is (look.answer told)
        (ap (λ (s : StoreOutline). record (device_outline old) { status = Success; reading = Some (named old.id least); store = s }) (looks_for store 0 (Some least) look quiet)
        ∙ shows_kept store least size false (long told) (within_is (length range) old.offset size size refl within))
    | NoneToClear is reserved ↦ λ quiet. by_operation old range _ (Some Clear) None is refl (sym (ap (λ (b : Bool). start_clear b (device_outline old)) reserved))
    | Clears store result is allowed call ↦ λ quiet. cleared store result is allowed call quiet
  ]

  executed : (new : DeviceState) → IsStill old → Starts tells old range new → FailsNothing old.store new.store → Became (Some ExecuteOperation) (device_outline old) range (device_outline new) range
  executed new still starts quiet =
      let begun = has_begun new starts quiet in
      record {
        next = begun.next;
        is_found = subst (λ (l : Option ℕ). IsFound l (stored old.store) begun.next) (sym (ap (λ (b : Bool). if b then None else start_looks old.operation) (still_is old still))) begun.is_found;
        outline = begun.outline ∙ sym (ap (λ (b : Bool). if b then device_outline old else start old.operation (device_outline old) range begun.next) (still_is old still));
        range_is = refl;
      }

  -- an execution goes on
  step_made : (store : StoreView) (result : Result Bool StoreError) → old.reading ≡ None → IsBusy old.store.pending → Stepped tells old.store store result →
      FailsNothing old.store (stepped result store old).store
      → Became (Some CheckBusyStatus) (device_outline old) range (device_outline (stepped result store old)) range
  step_made store (Ok last) none busy step quiet =
      let made = has_changed tells told old.store store (Ok last) quiet step in
      plain (Some CheckBusyStatus) _ _ range range refl
      (ap (λ (r : Result Bool StoreError). device_outline (stepped r store old)) made.answer
      ∙ ap (λ (s : StoreOutline). record (device_outline old) { value = if is_idle (changed (store_outline old.store)).pending then 0 else 1; store = s }) made.outline
      ∙ sym (ap (λ (b : Bool). step_on b (device_outline old)) (busy_is old.store.pending busy))
      ∙ sym (ap (λ (r : Option ℕ). go_on r (device_outline old)) none))
      (sym (ap (λ (r : Option ℕ). range_shown r (device_outline old) range) none))
  step_made store (Err error) none busy step quiet = absurd (answers_ok Bool old.store store error step.error quiet step.cause)

  record_shown : (id : ℕ) (store : StoreView) (out : List ℕ) (result : Result ℕ StoreError) → old.reading ≡ Some id → ReadOut tells old.store store id (drop old.offset range) out result
      → FailsNothing old.store (shown id result store old).store → Became (Some CheckBusyStatus) (device_outline old) range (device_outline (shown id result store old)) (take old.offset range ++ out)
  record_shown id store out (Ok size) reading read quiet =
      let answer = read.answer told in
      let before : List ℕ = drop old.offset range in
      let out_is : out ≡ body_of (get (stored old.store) id) before =
      answer.3 ∙ ap (λ (n : ℕ). answer.0 ++ drop n before) answer.2 ∙ sym (ap (λ (k : Option (List ℕ × ℕ)). body_of k before) answer.1.1) in
      plain (Some CheckBusyStatus) _ _ range _ refl
      (ap (λ (s : StoreOutline). record (device_outline old) { value = 0; status = Success; cursor = id; reading = None; store = s })
      (only_looked {T = ℕ} tells told old.store store (Ok size) quiet read.leaves)
      ∙ sym (ap (λ (r : Option ℕ). go_on r (device_outline old)) reading))
      (ap (λ (xs : List ℕ). take old.offset range ++ xs) out_is ∙ sym (ap (λ (r : Option ℕ). range_shown r (device_outline old) range) reading))
  record_shown id store out (Err error) reading read quiet = absurd (answers_ok ℕ old.store store error (read.error told) quiet read.leaves.cause)

  -- a look, and a count
  looked_given_up : {T : Type 0} (store : StoreView) (result : Result T StoreError) → KnowsCopies old.store → FailsNothing old.store store → OnlyLooks tells (given_up old).store store result
      → store_outline store ≡ looked (gave_up (store_outline old.store))
  looked_given_up store result knows quiet looks = only_looked tells told (given_up old).store store result quiet looks ∙ ap looked (given_up_outline old.store knows)

  found_device : (store : StoreView) (next : Option ℕ) → store_outline store ≡ looked (gave_up (store_outline old.store))
      → device_outline (found (Ok next) store (given_up old)) ≡ find_next next (giving_up (device_outline old))
  found_device store (Some id) is = ap (λ (s : StoreOutline). record (device_outline old) { value = id; cursor = id; reading = None; store = s }) is
  found_device store None is = ap (λ (s : StoreOutline). record (device_outline old) { value = 2 ^ 64 - 1; cursor = 0; reading = None; store = s }) is

  next_found : (store : StoreView) (result : Result (Option ℕ) StoreError) → KnowsCopies old.store → FoundNext tells (given_up old).store store old.cursor
      result → FailsNothing old.store (found result store (given_up old)).store
      → Became (Some GetRecordIdentifier) (device_outline old) range (device_outline (found result store (given_up old))) range
  next_found store (Ok (Some id)) knows look quiet = record {
    next = Some id;
    is_found = look.answer told;
    outline = found_device store (Some id) (looked_given_up {T = Option ℕ} store (Ok (Some id)) knows quiet look.leaves);
    range_is = refl;
  }
  next_found store (Ok None) knows look quiet = record {
    next = None;
    is_found = look.answer told;
    outline = found_device store None (looked_given_up {T = Option ℕ} store (Ok None) knows quiet look.leaves);
    range_is = refl;
  }
  next_found store (Err error) knows look quiet = absurd (answers_ok (Option ℕ) (given_up old).store store error look.error quiet look.leaves.cause)

  count_made : (store : StoreView) (result : Result ℕ StoreError) → KnowsCopies old.store → Counted tells (given_up old).store store result →
      FailsNothing old.store (counted result store (given_up old)).store
      → Became (Some GetRecordCount) (device_outline old) range (device_outline (counted result store (given_up old))) range
  count_made store (Ok n) knows count quiet =
      plain (Some GetRecordCount) _ _ range range refl
      (ap (λ (s : StoreOutline). record (device_outline old) { value = n; reading = None; store = s }) (looked_given_up {T = ℕ} store (Ok n) knows quiet count.leaves)
      ∙ ap (λ (k : ℕ). record (device_outline old) { value = k; reading = None; store = looked (gave_up (store_outline old.store)) }) (count.answer told))
      refl
  count_made store (Err error) knows count quiet = absurd (answers_ok ℕ (given_up old).store store error count.error quiet count.leaves.cause)

  -- an action, by its one case
  pub became : (action : Option Action) (new : DeviceState) (after : List ℕ) → Acts tells old range action new after →
      (gives_up action ≡ true → KnowsCopies old.store) → FailsNothing old.store new.store
      → Became action (device_outline old) range (device_outline new) after
  became action new after acts = elim acts as (λ action new after acts. (gives_up action ≡ true → KnowsCopies old.store) → FailsNothing old.store new.store →
      Became action (device_outline old) range (device_outline new) after) [
        | Begins act operation by ↦ λ knows quiet. begins act operation old range by knows
        | Ends ↦ λ knows quiet. plain (Some EndOperation) _ _ range range refl (ap (λ (d : DeviceOutline). record d { operation = None }) (given_up_device old (knows refl))) refl
        | SetsOffset still ↦ λ knows quiet. plain (Some SetRecordOffset) _ _ range range refl
            (sym (ap (λ (b : Bool). if b then device_outline old else record (device_outline old) { offset = old.value }) (still_is old still))) refl
        | SetsId still ↦ λ knows quiet. plain (Some SetRecordIdentifier) _ _ range range refl
            (sym (ap (λ (b : Bool). if b then device_outline old else record (device_outline old) { id = old.value }) (still_is old still))) refl
        | Waits act w runs ↦ λ knows quiet. waiting act old range w (running_is old runs)
        | Executes new still starts ↦ λ knows quiet. executed new still starts quiet
        | NoneRuns still ↦ λ knows quiet. plain (Some CheckBusyStatus) _ _ range range refl
            (sym (ap (λ (r : Option ℕ). go_on r (device_outline old)) still.no_read ∙ ap (λ (p : Pending). step_on (is_busy (unplaced p)) (device_outline old)) still.no_change))
            (sym (ap (λ (r : Option ℕ). range_shown r (device_outline old) range) still.no_read))
        | Steps store result none busy step ↦ λ knows quiet. step_made store result none busy step quiet
        | Shows id store out result reading read ↦ λ knows quiet. record_shown id store out result reading read quiet
        | Tells act number told ↦ λ knows quiet. telling act old range number told
        | FindsNext store result look allowed ↦ λ knows quiet. next_found store result (knows refl) look quiet
        | Counts store result count ↦ λ knows quiet. count_made store result (knows refl) count quiet
        | Ignores ↦ λ knows quiet. plain None _ _ range range refl refl refl
      ]

-- two devices whose outlines are the same
pub became_alike : (action : Option Action) (one other : DeviceOutline) (range : List ℕ) (one_after : DeviceOutline) (one_range : List ℕ)
    (other_after : DeviceOutline) (other_range : List ℕ) → one ≡ other
    → Became action one range one_after one_range → Became action other range other_after other_range → (one_after ≡ other_after) × (one_range ≡ other_range)
became_alike action one other range one_after one_range other_after other_range equivalent first second =
    let back = subst (λ (o : DeviceOutline). Became action o range other_after other_range) (sym equivalent) second in
    let same = found_once (looks action one) one.store.records first.next back.next first.is_found back.is_found in
    (first.outline ∙ ap (λ (n : Option ℕ). become action one range n) same ∙ sym back.outline, first.range_is ∙ sym back.range_is)
