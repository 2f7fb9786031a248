-- The starts of a write and of a clear by the machine's own table.
use Rattle.std.proofs.Common.{◌≡◌, ◌⊎◌, ℕ, suc, ◌+◌, ◌-◌, ◌*◌, ◌^◌, ◌<◌, ◌≤◌, Bool, true, false, cond, List, length, Option, Some, None, Result, Ok, Err, refl, sym, ap, subst, ◌∙◌, arith, inl, inr}
use Rattle.std.specs.Prelude.{nat_lt}
use Rattle.std.proofs.lemmas.Bool.{le-ltb}
use Rattle.std.proofs.lemmas.Option.{none-some, same_Some}
use Rattle.base_model.specs.Bytes.{part, number_at}
use Rattle.base_model.proofs.BytesLemmas.{number_at-part}
use Rattle.base_model.specs.Faults.{Rose}
use Rattle.base_model.specs.Layout.{Layout, room_of, reach_of}
use Rattle.base_model.proofs.CrashLemmas.{Leaves-none}
use Rattle.record_model.specs.Records.{Stored, is_reserved}
use Rattle.record_model.specs.RecordMap.{Command, Write, Clear, Refusal, Failed as refused_for_good, NoSpace as no_space, NotFound as not_found, refusal_of, changes_of, made_by}
use Rattle.record_model.proofs.MapLemmas.{after-done}
use Rattle.record_model.proofs.RefusalLemmas.{changes_of-clear, changes_of-refused}
use Rattle.record_store.specs.Store.{StoreView, Pending, Idle, stored, slots_for, KeepsMap, DividesAlike, abandoned, IsInDoubt, IsReady}
use Rattle.record_store.specs.Answers.{HasFaultsOf, RefusesWrite, RefusesClear, EndsCopies, copies_of, ByFault}
use Rattle.record_store.specs.Calls.{OnlyStarts}
use Rattle.record_store.specs.declared.errors.StoreError.{StoreError}
use Rattle.record_store.specs.declared.errors.StoreError.TheVariants as errors
use Rattle.erst_entries.specs.Programs.{entries_of}
use Rattle.erst_interp.specs.declared.stops.RunStop.{RunStop}
use Rattle.erst_interp.specs.declared.stops.RunStop.TheVariants.{Budget}
use Rattle.erst_client.specs.declared.errors.ClientError.{ClientError}
use Rattle.erst_client.specs.declared.errors.ClientError.TheVariants.{NoSpace, Failed, NotFound, Stopped}
use Rattle.erst_client.specs.Requests.{Asks}
use Rattle.erst_client.specs.Sequences.{judged, write_requests, clear_requests, dummy_requests, Sequence}
use Rattle.erst_client.specs.Steps.{steps_needed}
use Rattle.erst_device.specs.declared.registers.Operation.TheVariants as operations
use Rattle.erst_device.specs.declared.status.CommandStatus.{CommandStatus}
use Rattle.erst_device.specs.declared.status.CommandStatus.TheVariants as statuses
use Rattle.erst_device.specs.Statuses.{status_of, number_of}
use Rattle.erst_device.specs.Drafts.{draft_at}
use Rattle.erst_device.specs.Timings.{most_changes}
use Rattle.erst_device.specs.StoreCalls.{StartedWrite, StartedClear}
use Rattle.erst_device.specs.DeviceState.{DeviceState, IsStill}
use Rattle.erst_device.specs.Starts.{Starts, NoneBegun, WritesDummy, NoDraft, Writes, LookFails, FindsNone, Misses, GoesBeyond, Finds, NoneToClear, Clears, status_after}
use Rattle.erst_device.proofs.ActionLemmas.{kept_map}
use Rattle.erst_device.proofs.EffectLemmas.{faults_rise}
use Rattle.erst_machine.specs.MachineState.{MachineState, records_of}
use Rattle.erst_machine.specs.Allowed.{Allows}
use Rattle.erst_machine.specs.OwnTables.{own_entries}
use Rattle.erst_commands.specs.OwnPrograms.{with_value, OwnProgramsRun}
use Rattle.erst_commands.specs.Attached.{own_client}
use Rattle.erst_commands.specs.Changes.{OfFailed, OfNoSpace, OfNotFound, HoldsRecord, ChangeCommand, DummyLeaves, DummyCommand, IsPlayed, IsCut}
use Rattle.erst_commands.proofs.MachineSteps.{on_device}
use Rattle.erst_commands.proofs.LimitLemmas.{changes-most}
use Rattle.erst_commands.proofs.SequenceLemmas.{Untouched, Opened, opened_weaker, opened_ok, opened_short, StillWaited, IsAtOnce, IsShort, wait_still}
use Rattle.erst_commands.proofs.SequenceLemmas.{ended_from, status_in, HasTold, HasNotTold, HasNotWaited, HasNotAsked, sequence_ends}
use Rattle.erst_commands.proofs.OpenLemmas.{IsOn, offset_device, clearing_device, write_opens, dummy_opens, clear_opens}
use Rattle.erst_commands.proofs.WayLemmas.{Leads, write_leads, some_changes}
use Rattle.erst_commands.proofs.ChangeLemmas.{Base, StartedChange, UnstartedChange, UnstartedAnswer, RefusedBy, FailedBy, copies_first, change_command}
use Rattle.erst_commands.proofs.SharedLemmas.{differ}

-- the steps of a sequence of three requests, with one that gives a value
pub needs-write : (checks : ℕ) → steps_needed own_entries write_requests checks ≡ 6 + 2 * checks
unfolding own_entries entries_of
needs-write checks = omega arith

pub needs-clear : (id checks : ℕ) → steps_needed own_entries (clear_requests id) checks ≡ 6 + 2 * checks
unfolding own_entries entries_of
needs-clear id checks = omega arith

abbrev judged_number : CommandStatus → Result (Unit {0}) ClientError
judged_number status = judged (number_of status)

-- What the store's start leaves

base_started : (tells : Type 0) (told : tells) (first start : MachineState) (store : StoreView) (result : Result (Unit {0}) StoreError) →
    OnlyStarts tells (abandoned first.device.store) store result → start.device.store ≡ store
    → start.device.cursor ≡ first.device.cursor → start ≡ on_device first start.device → Base first start
base_started tells told first start store result starts there cursor elsewhere = record {
  kept = subst (λ (s : StoreView). KeepsMap first.device.store s) (sym there) (starts.kept told);
  equivalent = subst (λ (s : StoreView). DividesAlike first.device.store s) (sym there)
      (record { layout = starts.equivalent.layout; size = starts.equivalent.size; sector_size = starts.equivalent.sector_size });
  few = subst (λ (s : StoreView). s.flash.steps ≤ first.device.store.flash.steps + 1) (sym there) (starts.few told);
  never_falls = subst (λ (s : StoreView). first.device.store.flash.faults ≤ s.flash.faults) (sym there) (faults_rise first.device.store.flash.faults store.flash.faults result starts.cause);
  cursor = cursor;
  elsewhere = elsewhere;
}

base_unasked : (first start : MachineState) → start.device.store ≡ abandoned first.device.store → start.device.cursor ≡ first.device.cursor → start ≡ on_device first start.device → Base first start
base_unasked first start there cursor elsewhere = record {
  kept = subst (λ (s : StoreView). KeepsMap first.device.store s) (sym there) (Leaves-none first.device.store.flash.told _ refl);
  equivalent = subst (λ (s : StoreView). DividesAlike first.device.store s) (sym there) (record { layout = refl; size = refl; sector_size = refl });
  few = subst (λ (s : StoreView). s.flash.steps ≤ first.device.store.flash.steps + 1) (sym there) (omega arith);
  never_falls = subst (λ (s : StoreView). first.device.store.flash.faults ≤ s.flash.faults) (sym there) (omega arith);
  cursor = cursor;
  elsewhere = elsewhere;
}

pub idle_after : (new : StoreView) (error : StoreError) → ByFault {T = Unit {0}} (Err error) (IsInDoubt new) (IsReady new) → new.pending ≡ Idle
idle_after new (errors.NoSpace free) doubt = doubt.idle
idle_after new (errors.LastGeneration id) doubt = doubt.idle
idle_after new errors.NotFound doubt = doubt.idle
idle_after new errors.Empty doubt = doubt.idle
idle_after new errors.Flash doubt = doubt.idle
idle_after new (errors.Small need) doubt = doubt.idle

copies_usable : (id : ℕ) (store : StoreView) → is_reserved id ≡ false → copies_of (abandoned store) ≡ copies_first id store
copies_usable id store usable = rw usable refl

copies_reserved : (id : ℕ) (store : StoreView) → is_reserved id ≡ true → copies_first id store ≡ 0
copies_reserved id store reserved = rw reserved refl

-- a start that answered an error that the map gives
refused_start : (first start : MachineState) (store : StoreView) (id : ℕ) → is_reserved id ≡ false → start.device.store ≡ store → store.in_doubt ≡ false →
    store.flash.faults ≡ first.device.store.flash.faults
    → store.flash.steps ≡ first.device.store.flash.steps + copies_of (abandoned first.device.store)
    → (start.device.store.flash.steps ≡ first.device.store.flash.steps + copies_first id first.device.store) × (start.device.store.flash.faults ≡ first.device.store.flash.faults)
    × (is_reserved id ≡ false → start.device.store.in_doubt ≡ false) × (is_reserved id ≡ true → start.device.store ≡ abandoned first.device.store)
refused_start first start store id usable there certain faults steps = (
  ap (λ (s : StoreView). s.flash.steps) there ∙ steps ∙ ap (λ (n : ℕ). first.device.store.flash.steps + n) (copies_usable id first.device.store usable),
  ap (λ (s : StoreView). s.flash.faults) there ∙ faults,
  λ also. ap (λ (s : StoreView). s.in_doubt) there ∙ certain,
  λ reserved. differ (sym reserved ∙ usable),
)

-- one of a reserved identifier, of which the store is not asked
reserved_start : (first start : MachineState) (id : ℕ) → is_reserved id ≡ true → start.device.store ≡ abandoned first.device.store
    → (start.device.store.flash.steps ≡ first.device.store.flash.steps + copies_first id first.device.store) × (start.device.store.flash.faults ≡ first.device.store.flash.faults)
    × (is_reserved id ≡ false → start.device.store.in_doubt ≡ false) × (is_reserved id ≡ true → start.device.store ≡ abandoned first.device.store)
reserved_start first start id reserved there =
    let none = copies_reserved id first.device.store reserved in
    let steps : start.device.store.flash.steps ≡ first.device.store.flash.steps = ap (λ (s : StoreView). s.flash.steps) there in
    (omega (arith, none, steps), ap (λ (s : StoreView). s.flash.faults) there, λ usable. differ (sym reserved ∙ usable), λ also. there)

-- no command makes more changes than the timings say
pub write-few : (state : MachineState) (id : ℕ) (bytes : List ℕ) → length bytes ≤ reach_of (room_of state.device.store.layout)
    → changes_of state.device.store.layout (Write id bytes) (records_of state) ≤ most_changes state.device.store.layout
write-few state id bytes fits = by_refusal (refusal_of state.device.store.layout (Write id bytes) (records_of state)) refl
  where
    by_refusal : (refusal : Option Refusal) → refusal_of state.device.store.layout (Write id bytes) (records_of state) ≡ refusal
        → changes_of state.device.store.layout (Write id bytes) (records_of state) ≤ most_changes state.device.store.layout
    by_refusal None taken =
        let some = some_changes state.device.store.layout id bytes (records_of state) taken in
        let most = changes-most state.device.store.layout (length bytes) fits in
        omega (arith, some.1, most)
    by_refusal (Some refusal) refused = omega (arith, changes_of-refused state.device.store.layout (Write id bytes) (records_of state) refusal refused)

pub clear-few : (state : MachineState) (id : ℕ) → changes_of state.device.store.layout (Clear id) (records_of state) ≤ most_changes state.device.store.layout
clear-few state id = by_refusal (refusal_of state.device.store.layout (Clear id) (records_of state)) refl
  where
    by_refusal : (refusal : Option Refusal) → refusal_of state.device.store.layout (Clear id) (records_of state) ≡ refusal
        → changes_of state.device.store.layout (Clear id) (records_of state) ≤ most_changes state.device.store.layout
    by_refusal None taken = omega (arith, changes_of-clear state.device.store.layout id (records_of state) taken)
    by_refusal (Some refusal) refused = omega (arith, changes_of-refused state.device.store.layout (Clear id) (records_of state) refusal refused)

-- A start that came to this, from a device that is otherwise this one

module _ (tells : Type 0) (told : tells) (first start : MachineState) (id : ℕ) (command : Command) (device : DeviceState) (no_read : device.reading ≡ None)
    (cursor : device.cursor ≡ first.device.cursor)
    (elsewhere : start ≡ on_device first start.device) where
  -- the store has begun what leads to the map that the command makes
  taken_start : (store : StoreView) (more : ℕ) → is_reserved id ≡ false → OnlyStarts tells (abandoned first.device.store) store (Ok tt) →
      start.device ≡ record device { status = statuses.Success; store = store }
      → refusal_of first.device.store.layout command (records_of first) ≡ None → changes_of first.device.store.layout command (records_of first) ≡ suc more
      → Leads (suc more) first.device.store.layout store.pending (records_of first) (made_by command (records_of first)) → StartedChange first start id command
  taken_start store more usable leaves is taken all leads =
      let there : start.device.store ≡ store = ap (λ (d : DeviceState). d.store) is in
      let base = base_started tells told first start store (Ok tt) leaves there (ap (λ (d : DeviceState). d.cursor) is ∙ cursor) elsewhere in
      let same = kept_map first.device.store start.device.store base.kept base.equivalent in
      record {
        base = base;
        usable = usable;
        taken = taken;
        steps = ap (λ (s : StoreView). s.flash.steps) there ∙ leaves.ended told;
        faults = ap (λ (s : StoreView). s.flash.faults) there ∙ leaves.cause;
        certain = ap (λ (s : StoreView). s.in_doubt) there ∙ leaves.doubt;
        no_read = ap (λ (d : DeviceState). d.reading) is ∙ no_read;
        status = ap (λ (d : DeviceState). d.status) is;
        more = more;
        all = all;
        leads = subst (λ (m : Stored). Leads (suc more) start.device.store.layout start.device.store.pending (stored start.device.store) m)
            (sym (after-done first.device.store.layout command (records_of first) taken))
            (subst (λ (m : Stored). Leads (suc more) start.device.store.layout start.device.store.pending m (made_by command (records_of first))) (sym same)
            (subst (λ (p : Pending). Leads (suc more) start.device.store.layout p (records_of first) (made_by command (records_of first))) (sym (ap (λ (s : StoreView). s.pending) there))
            (subst (λ (l : Layout). Leads (suc more) l store.pending (records_of first) (made_by command (records_of first))) (sym base.equivalent.layout) leads)));
      }

  -- it answered an error
  failed_start : (store : StoreView) (error : StoreError) → OnlyStarts tells (abandoned first.device.store) store (Err error) → start.device ≡ record device { status = status_of error; store = store }
      → UnstartedAnswer first start id command → UnstartedChange first start id command
  failed_start store error leaves is answer =
      let there : start.device.store ≡ store = ap (λ (d : DeviceState). d.store) is in
      record {
        base = base_started tells told first start store (Err error) leaves there (ap (λ (d : DeviceState). d.cursor) is ∙ cursor) elsewhere;
        still = record { no_read = ap (λ (d : DeviceState). d.reading) is ∙ no_read; no_change = ap (λ (s : StoreView). s.pending) there ∙ idle_after store error leaves.doubt };
        answer = answer;
      }

  -- no record can have the identifier, and the store was not asked
  reserved_refused : is_reserved id ≡ true → device.store ≡ abandoned first.device.store → refusal_of first.device.store.layout command (records_of first) ≡ Some refused_for_good
      → start.device ≡ record device { status = statuses.Failed } → UnstartedChange first start id command
  reserved_refused reserved unasked refused is =
      let there : start.device.store ≡ abandoned first.device.store = ap (λ (d : DeviceState). d.store) is ∙ unasked in
      let facts = reserved_start first start id reserved there in
      record {
        base = base_unasked first start there (ap (λ (d : DeviceState). d.cursor) is ∙ cursor) elsewhere;
        still = record { no_read = ap (λ (d : DeviceState). d.reading) is ∙ no_read; no_change = ap (λ (s : StoreView). s.pending) there };
        answer = RefusedBy refused_for_good Failed refused OfFailed (ap (λ (d : DeviceState). judged_number d.status) is) facts.0 facts.1 facts.2 facts.3;
      }

-- A write

draft : (range bytes : List ℕ) (id : ℕ) → HoldsRecord range id bytes
    → draft_at 0 range ≡ cond {A = Option (ℕ × ℕ)} (is_reserved id) None (Some (length bytes, id))
draft range bytes id holds =
    let size : number_at range 20 4 ≡ length bytes =
    sym (number_at-part range 0 (length bytes) 20 4 (omega (arith, holds.least))) ∙ ap (λ (xs : List ℕ). number_at xs 20 4) holds.stands ∙ holds.size in
    let name : number_at range 96 8 ≡ id =
    sym (number_at-part range 0 (length bytes) 96 8 (omega (arith, holds.least))) ∙ ap (λ (xs : List ℕ). number_at xs 96 8) holds.stands ∙ holds.name in
    ap (λ (b : Bool). cond {A = Option (ℕ × ℕ)} b None (cond (nat_lt (number_at range 20 4) 128) None (cond (nat_lt (length range) (0 + number_at range 20 4)) None
    (cond (is_reserved (number_at range 96 8)) None (Some (number_at range 20 4, number_at range 96 8)))))) (le-ltb (length range) 128 (omega (arith, holds.least, holds.within)))
    ∙ ap (λ (n : ℕ). cond {A = Option (ℕ × ℕ)} (nat_lt n 128) None (cond (nat_lt (length range) (0 + n)) None (cond (is_reserved (number_at range 96 8)) None (Some (n, number_at range 96 8))))) size
    ∙ ap (λ (b : Bool). cond {A = Option (ℕ × ℕ)} b None (cond (nat_lt (length range) (0 + length bytes)) None (cond (is_reserved (number_at range 96 8)) None
    (Some (length bytes, number_at range 96 8)))))
    (le-ltb (length bytes) 128 holds.least)
    ∙ ap (λ (b : Bool). cond {A = Option (ℕ × ℕ)} b None (cond (is_reserved (number_at range 96 8)) None (Some (length bytes, number_at range 96 8))))
    (le-ltb (length range) (0 + length bytes) (omega (arith, holds.within)))
    ∙ ap (λ (n : ℕ). cond {A = Option (ℕ × ℕ)} (is_reserved n) None (Some (length bytes, n))) name

draft_usable : (range bytes : List ℕ) (id : ℕ) → HoldsRecord range id bytes → is_reserved id ≡ false → draft_at 0 range ≡ Some (length bytes, id)
draft_usable range bytes id holds usable = draft range bytes id holds ∙ ap (λ (b : Bool). cond {A = Option (ℕ × ℕ)} b None (Some (length bytes, id))) usable

draft_reserved : (range bytes : List ℕ) (id : ℕ) → HoldsRecord range id bytes → is_reserved id ≡ true → draft_at 0 range ≡ None
draft_reserved range bytes id holds reserved = draft range bytes id holds ∙ ap (λ (b : Bool). cond {A = Option (ℕ × ℕ)} b None (Some (length bytes, id))) reserved

write_reserved : (layout : Layout) (id : ℕ) (bytes : List ℕ) (map : Stored) → is_reserved id ≡ true → refusal_of layout (Write id bytes) map ≡ Some refused_for_good
unfolding refusal_of
write_reserved layout id bytes map reserved = rw reserved refl

clear_reserved : (layout : Layout) (id : ℕ) (map : Stored) → is_reserved id ≡ true → refusal_of layout (Clear id) map ≡ Some refused_for_good
unfolding refusal_of
clear_reserved layout id map reserved = rw reserved refl

module _ (tells : Type 0) (told : tells) (first start : MachineState) (id : ℕ) (bytes : List ℕ) (elsewhere : start ≡ on_device first start.device) where
  write_ok : (store : StoreView) → is_reserved id ≡ false → StartedWrite tells (abandoned first.device.store) store id bytes (Ok tt) →
      start.device ≡ record (offset_device operations.Write first.device) { status = statuses.Success; store = store }
      → StartedChange first start id (Write id bytes)
  write_ok store usable begun is =
      let answer = begun.answer told in
      let taken : refusal_of first.device.store.layout (Write id bytes) (records_of first) ≡ None = answer.0 in
      let some = some_changes first.device.store.layout id bytes (records_of first) taken in
      let all : changes_of first.device.store.layout (Write id bytes) (records_of first) ≡ suc (changes_of first.device.store.layout (Write id bytes) (records_of first) - 1) = omega (arith, some.0) in
      taken_start tells told first start id (Write id bytes) (offset_device operations.Write first.device) refl refl elsewhere store
      (changes_of first.device.store.layout (Write id bytes) (records_of first) - 1) usable begun.leaves is taken all
      (subst (λ (n : ℕ). Leads n first.device.store.layout store.pending (records_of first) (made_by (Write id bytes) (records_of first))) all
      (subst (λ (p : Pending). Leads (changes_of first.device.store.layout (Write id bytes) (records_of first)) first.device.store.layout p (records_of first)
      (made_by (Write id bytes) (records_of first)))
      (sym answer.1) (write_leads first.device.store.layout id bytes (slots_for store (length bytes)) (records_of first) taken)))

  write_error : (store : StoreView) (error : StoreError) → is_reserved id ≡ false → RefusesWrite (abandoned first.device.store) store id bytes error →
      HasFaultsOf {T = Unit {0}} first.device.store.flash.faults store.flash.faults (Err error)
      → ByFault {T = Unit {0}} (Err error) (IsInDoubt store) (IsReady store) → EndsCopies {T = Unit {0}} (abandoned first.device.store) store (Err error) →
      start.device.store ≡ store → start.device.status ≡ status_of error
      → UnstartedAnswer first start id (Write id bytes)
  write_error store (errors.NoSpace free) usable refuses cause doubt ended there status =
      let facts = refused_start first start store id usable there doubt.certain cause ended in
      RefusedBy no_space NoSpace refuses.0 OfNoSpace (ap (λ (s : CommandStatus). judged_number s) status) facts.0 facts.1 facts.2 facts.3
  write_error store (errors.LastGeneration number) usable refuses cause doubt ended there status =
      let facts = refused_start first start store id usable there doubt.certain cause ended in
      RefusedBy refused_for_good Failed refuses.0 OfFailed (ap (λ (s : CommandStatus). judged_number s) status) facts.0 facts.1 facts.2 facts.3
  write_error store errors.NotFound usable refuses cause doubt ended there status = absurd refuses
  write_error store errors.Empty usable refuses cause doubt ended there status = absurd refuses
  write_error store errors.Flash usable refuses cause doubt ended there status =
      FailedBy usable (subst (λ (s : StoreView). Rose first.device.store.flash.faults s.flash.faults) (sym there) cause.1) status
  write_error store (errors.Small need) usable refuses cause doubt ended there status = absurd refuses

  write_by : (store : StoreView) (result : Result (Unit {0}) StoreError) → is_reserved id ≡ false → StartedWrite tells (abandoned first.device.store) store id bytes result
      → start.device ≡ record (offset_device operations.Write first.device) { status = status_after result; store = store } →
      (StartedChange first start id (Write id bytes)) ⊎ (UnstartedChange first start id (Write id bytes))
  write_by store (Ok done) usable begun is = inl (write_ok store usable begun is)
  write_by store (Err error) usable begun is =
      let leaves = begun.leaves in
      inr (failed_start tells told first start id (Write id bytes) (offset_device operations.Write first.device) refl refl elsewhere store error leaves is
      (write_error store error usable (begun.answer told) leaves.cause leaves.doubt (leaves.ended told) (ap (λ (d : DeviceState). d.store) is) (ap (λ (d : DeviceState). d.status) is)))

  write_refused : is_reserved id ≡ true → start.device ≡ record (offset_device operations.Write first.device) { status = statuses.Failed } → UnstartedChange first start id (Write id bytes)
  write_refused reserved is = reserved_refused tells told first start id (Write id bytes) (offset_device operations.Write first.device) refl refl elsewhere reserved refl
      (write_reserved first.device.store.layout id bytes (records_of first) reserved) is

  write_started : HoldsRecord first.memory.range id bytes → Starts tells (offset_device operations.Write first.device) first.memory.range start.device
      → (StartedChange first start id (Write id bytes)) ⊎ (UnstartedChange first start id (Write id bytes))
  write_started holds starts = by_case start.device starts refl
    where
      by_reserved : (size number : ℕ) (store : StoreView) (result : Result (Unit {0}) StoreError) (b : Bool) → is_reserved id ≡ b → draft_at 0 first.memory.range ≡ Some (size, number)
          → StartedWrite tells (abandoned first.device.store) store number (part first.memory.range 0 size) result
          → start.device ≡ record (offset_device operations.Write first.device) { status = status_after result; store = store } →
          (StartedChange first start id (Write id bytes)) ⊎ (UnstartedChange first start id (Write id bytes))
      by_reserved size number store result true reserved found begun is = absurd (none-some (size, number) (sym (draft_reserved first.memory.range bytes id holds reserved) ∙ found))
      by_reserved size number store result false usable found begun is =
          let same : (size, number) ≡ (length bytes, id) = same_Some _ _ (sym found ∙ draft_usable first.memory.range bytes id holds usable) in
          let exact = subst (λ (p : ℕ × ℕ). StartedWrite tells (abandoned first.device.store) store p.1 (part first.memory.range 0 p.0) result) same begun in
          write_by store result usable (subst (λ (xs : List ℕ). StartedWrite tells (abandoned first.device.store) store id xs result) holds.stands exact) is

      none_by : (b : Bool) → is_reserved id ≡ b → draft_at 0 first.memory.range ≡ None → start.device ≡ record (offset_device operations.Write first.device) { status = statuses.Failed }
          → (StartedChange first start id (Write id bytes)) ⊎ (UnstartedChange first start id (Write id bytes))
      none_by true reserved none is = inr (write_refused reserved is)
      none_by false usable none is = absurd (none-some (length bytes, id) (sym none ∙ draft_usable first.memory.range bytes id holds usable))

      by_case : (device : DeviceState) → Starts tells (offset_device operations.Write first.device) first.memory.range device → start.device ≡ device
          → (StartedChange first start id (Write id bytes)) ⊎ (UnstartedChange first start id (Write id bytes))
      by_case device starts = elim starts as (λ device starts. start.device ≡ device → (StartedChange first start id (Write id bytes)) ⊎ (UnstartedChange first start id (Write id bytes))) [
        | NoneBegun none ↦ λ is. absurd (cc none)
        | WritesDummy none ↦ λ is. absurd (cc none)
        | NoDraft begun none ↦ λ is. none_by (is_reserved id) refl none is
        | Writes size number store result begun found call ↦ λ is. by_reserved size number store result (is_reserved id) refl found call is
        | LookFails store error begun looks ↦ λ is. absurd (cc begun)
        | FindsNone store begun looks ↦ λ is. absurd (cc begun)
        | Misses store least begun looks none ↦ λ is. absurd (cc begun)
        | GoesBeyond store least size begun looks long beyond ↦ λ is. absurd (cc begun)
        | Finds store least size begun looks long fits ↦ λ is. absurd (cc begun)
        | NoneToClear begun reserved ↦ λ is. absurd (cc begun)
        | Clears store result begun usable call ↦ λ is. absurd (cc begun)
      ]

module _ (tells : Type 0) (own : OwnProgramsRun tells) (told : tells) (first : MachineState) (id : ℕ) (bytes : List ℕ) (holds : HoldsRecord first.memory.range id bytes) where
  abbrev IsWriting : MachineState → Type 0
  IsWriting w = (StartedChange first w id (Write id bytes)) ⊎ (UnstartedChange first w id (Write id bytes))

  pub write_command : length bytes ≤ reach_of (room_of first.device.store.layout) → (budget : ℕ) (result : Result (Unit {0}) ClientError) (left : ℕ) (last : MachineState)
      → Sequence (Allows tells) own_entries (own_client first).timings write_requests budget first result left last → ChangeCommand first last id (Write id bytes) write_requests budget result left
  write_command fits budget result left last sequence =
      change_command tells own told first id (Write id bytes) write_requests budget needs-write (write-few first id bytes fits)
      (λ result left last asks. opened_weaker first (IsOn tells first (offset_device operations.Write first.device)) IsWriting 4 budget result left last
      (λ w on. write_started tells told first w id bytes on.1 holds on.0) (write_opens tells own first budget result left last asks)) result left last sequence

-- A clear

module _ (tells : Type 0) (told : tells) (first start : MachineState) (id : ℕ) (elsewhere : start ≡ on_device first start.device) where
  clear_ok : (store : StoreView) → is_reserved id ≡ false → StartedClear tells (abandoned first.device.store) store id (Ok tt) →
      start.device ≡ record (clearing_device first.device id) { status = statuses.Success; store = store }
      → StartedChange first start id (Clear id)
  clear_ok store usable begun is =
      let answer = begun.answer told in
      taken_start tells told first start id (Clear id) (clearing_device first.device id) refl refl elsewhere store 0 usable begun.leaves is answer.0
      (changes_of-clear first.device.store.layout id (records_of first) answer.0)
      (subst (λ (p : Pending). Leads 1 first.device.store.layout p (records_of first) (made_by (Clear id) (records_of first))) (sym answer.1) (tt, inr refl, (refl, refl)))

  clear_error : (store : StoreView) (error : StoreError) → is_reserved id ≡ false → RefusesClear (abandoned first.device.store) store id error →
      HasFaultsOf {T = Unit {0}} first.device.store.flash.faults store.flash.faults (Err error)
      → ByFault {T = Unit {0}} (Err error) (IsInDoubt store) (IsReady store) → EndsCopies {T = Unit {0}} (abandoned first.device.store) store (Err error) →
      start.device.store ≡ store → start.device.status ≡ status_of error
      → UnstartedAnswer first start id (Clear id)
  clear_error store (errors.NoSpace free) usable refuses cause doubt ended there status = absurd refuses
  clear_error store (errors.LastGeneration number) usable refuses cause doubt ended there status = absurd refuses
  clear_error store errors.NotFound usable refuses cause doubt ended there status =
      let facts = refused_start first start store id usable there doubt.certain cause ended in
      RefusedBy not_found NotFound refuses.0 OfNotFound (ap (λ (s : CommandStatus). judged_number s) status) facts.0 facts.1 facts.2 facts.3
  clear_error store errors.Empty usable refuses cause doubt ended there status = absurd refuses
  clear_error store errors.Flash usable refuses cause doubt ended there status =
      FailedBy usable (subst (λ (s : StoreView). Rose first.device.store.flash.faults s.flash.faults) (sym there) cause.1) status
  clear_error store (errors.Small need) usable refuses cause doubt ended there status = absurd refuses

  clear_by : (store : StoreView) (result : Result (Unit {0}) StoreError) → is_reserved id ≡ false → StartedClear tells (abandoned first.device.store) store id result
      → start.device ≡ record (clearing_device first.device id) { status = status_after result; store = store } → (StartedChange first start id (Clear id)) ⊎
      (UnstartedChange first start id (Clear id))
  clear_by store (Ok done) usable begun is = inl (clear_ok store usable begun is)
  clear_by store (Err error) usable begun is =
      let leaves = begun.leaves in
      inr (failed_start tells told first start id (Clear id) (clearing_device first.device id) refl refl elsewhere store error leaves is
      (clear_error store error usable (begun.answer told) leaves.cause leaves.doubt (leaves.ended told) (ap (λ (d : DeviceState). d.store) is) (ap (λ (d : DeviceState). d.status) is)))

  clear_refused : is_reserved id ≡ true → start.device ≡ record (clearing_device first.device id) { status = statuses.Failed } → UnstartedChange first start id (Clear id)
  clear_refused reserved is = reserved_refused tells told first start id (Clear id) (clearing_device first.device id) refl refl elsewhere reserved refl
      (clear_reserved first.device.store.layout id (records_of first) reserved) is

  clear_started : Starts tells (clearing_device first.device id) first.memory.range start.device → (StartedChange first start id (Clear id)) ⊎ (UnstartedChange first start id (Clear id))
  clear_started starts = by_case start.device starts refl
    where
      by_case : (device : DeviceState) → Starts tells (clearing_device first.device id) first.memory.range device → start.device ≡ device
          → (StartedChange first start id (Clear id)) ⊎ (UnstartedChange first start id (Clear id))
      by_case device starts = elim starts as (λ device starts. start.device ≡ device → (StartedChange first start id (Clear id)) ⊎ (UnstartedChange first start id (Clear id))) [
        | NoneBegun none ↦ λ is. absurd (cc none)
        | WritesDummy none ↦ λ is. absurd (cc none)
        | NoDraft begun none ↦ λ is. absurd (cc begun)
        | Writes size number store result begun found call ↦ λ is. absurd (cc begun)
        | LookFails store error begun looks ↦ λ is. absurd (cc begun)
        | FindsNone store begun looks ↦ λ is. absurd (cc begun)
        | Misses store least begun looks none ↦ λ is. absurd (cc begun)
        | GoesBeyond store least size begun looks long beyond ↦ λ is. absurd (cc begun)
        | Finds store least size begun looks long fits ↦ λ is. absurd (cc begun)
        | NoneToClear begun reserved ↦ λ is. inr (clear_refused reserved is)
        | Clears store result begun usable call ↦ λ is. clear_by store result usable call is
      ]

module _ (tells : Type 0) (own : OwnProgramsRun tells) (told : tells) (first : MachineState) (id : ℕ) (small : id < 2 ^ 64) where
  abbrev IsClearing : MachineState → Type 0
  IsClearing w = (StartedChange first w id (Clear id)) ⊎ (UnstartedChange first w id (Clear id))

  pub clear_command : (budget : ℕ) (result : Result (Unit {0}) ClientError) (left : ℕ) (last : MachineState)
      → Sequence (Allows tells) own_entries (own_client first).timings (clear_requests id) budget first result left last → ChangeCommand first last id (Clear id) (clear_requests id) budget result left
  clear_command budget result left last sequence =
      change_command tells own told first id (Clear id) (clear_requests id) budget (needs-clear id) (clear-few first id)
      (λ result left last asks. opened_weaker first (IsOn tells first (clearing_device first.device id)) IsClearing 4 budget result left last
      (λ w on. clear_started tells told first w id on.1 on.0) (clear_opens tells own first id small budget result left last asks)) result left last sequence

-- A dummy write

pub needs-dummy : steps_needed own_entries dummy_requests 1 ≡ 8
unfolding own_entries entries_of
needs-dummy = refl

module _ (tells : Type 0) (own : OwnProgramsRun tells) (first : MachineState) where
  abbrev IsDummy : MachineState → Type 0
  IsDummy w = w ≡ on_device first (record (offset_device operations.Dummy first.device) { status = statuses.Success })

  dummy_started : (w : MachineState) → Starts tells (offset_device operations.Dummy first.device) first.memory.range w.device → w ≡ on_device first w.device → IsDummy w
  dummy_started w starts elsewhere = elsewhere ∙ ap (λ (d : DeviceState). on_device first d) (by_case w.device starts)
    where
      by_case : (device : DeviceState) → Starts tells (offset_device operations.Dummy first.device) first.memory.range device →
          device ≡ record (offset_device operations.Dummy first.device) { status = statuses.Success }
      by_case device starts = elim starts as (λ device starts. device ≡ record (offset_device operations.Dummy first.device) { status = statuses.Success }) [
        | NoneBegun none ↦ absurd (cc none)
        | WritesDummy begun ↦ refl
        | NoDraft begun none ↦ absurd (cc begun)
        | Writes size number store result begun found call ↦ absurd (cc begun)
        | LookFails store error begun looks ↦ absurd (cc begun)
        | FindsNone store begun looks ↦ absurd (cc begun)
        | Misses store least begun looks none ↦ absurd (cc begun)
        | GoesBeyond store least size begun looks long beyond ↦ absurd (cc begun)
        | Finds store least size begun looks long fits ↦ absurd (cc begun)
        | NoneToClear begun reserved ↦ absurd (cc begun)
        | Clears store result begun usable call ↦ absurd (cc begun)
      ]

  dummy_on : (budget : ℕ) (result : Result (List ℕ) RunStop) (left : ℕ) (last : MachineState) → Asks (Allows tells) own_entries dummy_requests budget first
      result left last → Opened first IsDummy 4 budget result left last
  dummy_on budget result left last asks =
      opened_weaker first (IsOn tells first (offset_device operations.Dummy first.device)) IsDummy 4 budget result left last (λ w on. dummy_started w on.0 on.1)
      (dummy_opens tells own first budget result left last asks)

  dummy_end : (value : ℕ) (w : MachineState) → IsDummy w → DummyLeaves first (ended_from (with_value value w))
  dummy_end value w is = subst (λ (m : MachineState). DummyLeaves first (ended_from (with_value value m))) (sym is) (record { store = refl; cursor = refl; elsewhere = refl })

  dummy_still : (w : MachineState) → IsDummy w → IsStill w.device
  dummy_still w is = subst (λ (m : MachineState). IsStill m.device) (sym is) (record { no_read = refl; no_change = refl })

  dummy_of : (w other : MachineState) (value : ℕ) → IsDummy w → (other ≡ w) ⊎ (other ≡ with_value value w) → DummyLeaves first (ended_from other)
  dummy_of w other value is either = elim either [
    | inl same ↦ subst (λ (m : MachineState). DummyLeaves first (ended_from m)) (sym same) (dummy_end w.device.value w is)
    | inr same ↦ subst (λ (m : MachineState). DummyLeaves first (ended_from m)) (sym same) (dummy_end value w is)
  ]

  dummy_halted : (budget : ℕ) (w : MachineState) → Untouched first w → budget < 4 → DummyCommand first (ended_from w) dummy_requests budget (Err (Stopped Budget)) 0
  dummy_halted budget w untouched short =
      IsCut
      (record {
        store = untouched.given_up;
        cursor = untouched.cursor;
        elsewhere = let device : DeviceState = (ended_from w).device in ap (λ (m : MachineState). record m { device = device }) untouched.elsewhere;
      })
      (omega (arith, short, needs-dummy))

  dummy_waited : (start : MachineState) (asked budget : ℕ) (result : Result (Unit {0}) ClientError) (waited : ℕ) (idle : MachineState) → result ≡ Ok tt → StillWaited start asked result waited idle
      → (idle ≡ with_value 0 start) × (waited + 2 ≡ asked)
  dummy_waited start asked budget result waited idle is ends = (elim ends as (λ result waited idle ends. result ≡ Ok tt → (idle ≡ with_value 0 start) × (waited + 2 ≡ asked)) [
    | IsAtOnce waited idle at sum ↦ λ e. (at, sum)
    | IsShort idle which few ↦ λ e. absurd (cc e)
  ]) is

  dummy_short : (start : MachineState) (is_dummy : IsDummy start) (asked budget : ℕ) (error : ClientError) (result : Result (Unit {0}) ClientError) (left : ℕ)
      (last : MachineState) → asked + 4 ≡ budget → result ≡ Err error
      → StillWaited start asked result left last → DummyCommand first (ended_from last) dummy_requests budget (Err error) left
  dummy_short start is_dummy asked budget error result left last opened is ends =
      (elim ends as (λ result left last ends. result ≡ Err error → DummyCommand first (ended_from last) dummy_requests budget (Err error) left) [
        | IsAtOnce left last at sum ↦ λ e. absurd (cc e)
        | IsShort last which few ↦ λ e.
            subst (λ (r : Result (Unit {0}) ClientError). DummyCommand first (ended_from last) dummy_requests budget r 0) e
            (IsCut (dummy_of start last 0 is_dummy which) (omega (arith, opened, few, needs-dummy)))
      ]) is

  pub dummy_command : (budget : ℕ) (result : Result (Unit {0}) ClientError) (left : ℕ) (last : MachineState) → Sequence (Allows tells) own_entries
      (own_client first).timings dummy_requests budget first result left last
      → DummyCommand first last dummy_requests budget result left
  dummy_command budget result left last sequence =
      elim (sequence_ends tells own (own_client first).timings dummy_requests budget first result left last sequence) as
      (λ result left last ends. DummyCommand first last dummy_requests budget result left) [
        | HasTold answers asked mid waited idle left asks waits spent ↦
            let opened = opened_ok first IsDummy 4 budget answers (Ok answers) asked mid refl (dummy_on budget (Ok answers) asked mid asks) in
            let at = dummy_waited mid asked budget (Ok tt) waited idle refl (wait_still tells own (own_client first).timings mid (dummy_still mid opened.0) asked (Ok tt) waited idle waits) in
            told mid idle asked waited left opened.0 opened.1 at.0 at.1 spent
        | HasNotTold answers asked mid waited idle other asks waits short either ↦
            let opened = opened_ok first IsDummy 4 budget answers (Ok answers) asked mid refl (dummy_on budget (Ok answers) asked mid asks) in
            let at = dummy_waited mid asked budget (Ok tt) waited idle refl (wait_still tells own (own_client first).timings mid (dummy_still mid opened.0) asked (Ok tt) waited idle waits) in
            IsCut (not_told mid idle other opened.0 at.0 either) (omega (arith, opened.1, at.1, short, needs-dummy))
        | HasNotWaited answers asked mid error left other asks waits ↦
            let opened = opened_ok first IsDummy 4 budget answers (Ok answers) asked mid refl (dummy_on budget (Ok answers) asked mid asks) in
            dummy_short mid opened.0 asked budget error (Err error) left other opened.1 refl (wait_still tells own (own_client first).timings mid
            (dummy_still mid opened.0) asked (Err error) left other waits)
        | HasNotAsked stop left other asks ↦
            opened_short first IsDummy 4 budget (λ stop left w. DummyCommand first (ended_from w) dummy_requests budget (Err (Stopped stop)) left) stop
            (Err stop) left other (dummy_halted budget) refl (dummy_on budget (Err stop) left other asks)
      ]
    where
      told : (mid idle : MachineState) (asked waited left : ℕ) → IsDummy mid → asked + 4 ≡ budget → idle ≡ with_value 0 mid → waited + 2 ≡ asked → left + 2 ≡ waited
          → DummyCommand first (ended_from (with_value (status_in idle) idle)) dummy_requests budget (judged (status_in idle)) left
      told mid idle asked waited left is opened at sum spent =
          let exact : idle ≡ on_device first (record (offset_device operations.Dummy first.device) { status = statuses.Success }) = at ∙ ap (with_value 0) is in
          subst (λ (m : MachineState). DummyCommand first (ended_from (with_value (status_in m) m)) dummy_requests budget (judged (status_in m)) left) (sym exact)
          (IsPlayed left (record { store = refl; cursor = refl; elsewhere = refl }) (omega (arith, opened, sum, spent, needs-dummy)))

      not_told : (mid idle other : MachineState) → IsDummy mid → idle ≡ with_value 0 mid → (other ≡ idle) ⊎ (other ≡ with_value (status_in idle) idle) → DummyLeaves first (ended_from other)
      not_told mid idle other is at either = dummy_of idle other (status_in idle) (at ∙ ap (with_value 0) is) either
