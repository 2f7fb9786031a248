-- What a call leaves of the outline of a store whose flash fails nothing.
use Rattle.std.proofs.Common.{◌≡◌, ℕ, ◌+◌, ◌⊎◌, Bool, true, false, List, [], Option, Some, None, Result, Ok, Err, refl, sym, ap, subst, ◌∙◌, inl, inr}
use Rattle.std.specs.Prelude.{if◌then◌else◌, is_some}
use Rattle.std.specs.FinMap.{get}
use Rattle.base_model.specs.Layout.{Layout}
use Rattle.record_model.specs.Records.{Stored}
use Rattle.record_model.specs.RecordMap.{Refusal, Write, Clear, Failed, NoSpace, NotFound, Empty, TooLong, refusal_of}
use Rattle.record_store.specs.Store.{StoreView, Pending, Idle, Writing, Clearing, stored, map_after, pending_after, IsReady, KeepsMap, DividesAlike, abandoned, IsInDoubt}
use Rattle.record_store.specs.Answers.{HasFaultsOf, EndsCopies, copies_in, copies_of, copies_pending, ByFault}
use Rattle.record_store.specs.Calls.{OnlyLooks, OnlyStarts}
use Rattle.record_store.specs.declared.errors.StoreError.{StoreError}
use Rattle.record_store.specs.declared.errors.StoreError.TheVariants as errors
use Rattle.erst_device.specs.declared.status.CommandStatus.{CommandStatus}
use Rattle.erst_device.specs.declared.status.CommandStatus.TheVariants as statuses
use Rattle.erst_device.specs.Statuses.{status_of}
use Rattle.erst_device.specs.StoreCalls.{Stepped, StartedWrite, StartedClear}
use Rattle.erst_device.specs.DeviceState.{KnowsCopies}
use Rattle.erst_device.specs.Starts.{status_after}
use Rattle.erst_device.proofs.ActionLemmas.{kept_map}
use Rattle.erst_device.proofs.EffectLemmas.{without_fault}
use Rattle.erst_commands.specs.Equivalence.{StoreOutline, unplaced, store_outline, FailsNothing}
use Rattle.record_store.proofs.Words.{doubt_after}

-- two outlines whose parts are the same
pub same_outline : (s t : StoreOutline) → s.layout ≡ t.layout → s.records ≡ t.records → s.steps ≡ t.steps → s.in_doubt ≡ t.in_doubt → s.pending ≡ t.pending → s.copies ≡ t.copies → s ≡ t
same_outline s t layout records steps doubt pending copies =
    ap (λ (x : Layout). record s { layout = x }) layout
    ∙ ap (λ (x : Stored). record s { layout = t.layout; records = x }) records
    ∙ ap (λ (x : ℕ). record s { layout = t.layout; records = t.records; steps = x }) steps
    ∙ ap (λ (x : Bool). record t { in_doubt = x; pending = s.pending; copies = s.copies }) doubt
    ∙ ap (λ (x : Pending). record t { pending = x; copies = s.copies }) pending
    ∙ ap (λ (x : ℕ). record t { copies = x }) copies

-- the store has looked at its slots
abbrev pub looked : StoreOutline → StoreOutline
looked s = record s { steps = s.steps + s.copies; in_doubt = false; pending = Idle; copies = 0 }

-- what was pending is given up
abbrev pub gave_up : StoreOutline → StoreOutline
gave_up s = record s {
  in_doubt = doubt_after s.pending s.in_doubt;
  pending = Idle;
  copies = if s.in_doubt then s.copies else copies_pending s.layout s.pending;
}

-- a change was made
abbrev pub changed : StoreOutline → StoreOutline
changed s = record s {
  records = map_after s.layout s.pending s.records;
  steps = s.steps + 1;
  in_doubt = false;
  pending = unplaced (pending_after s.layout s.pending);
  copies = 0;
}

-- a write or clear was started, or refused
abbrev pub started : Option Refusal → Pending → StoreOutline → StoreOutline
started None pending s = record (looked s) { pending = pending }
started (Some refusal) pending s = looked s

-- what a refusal says
abbrev pub status_by : Option Refusal → CommandStatus
status_by None = statuses.Success
status_by (Some Failed) = statuses.Failed
status_by (Some NoSpace) = statuses.NotEnoughSpace
status_by (Some NotFound) = statuses.RecordNotFound
status_by (Some Empty) = statuses.RecordStoreEmpty
status_by (Some TooLong) = statuses.Failed

-- an error of a flash that fails nothing is no fault
pub no_fault : (T : Type 0) (old new : StoreView) → FailsNothing old new → HasFaultsOf {T = T} old.flash.faults new.flash.faults (Err errors.Flash) → ⊥
no_fault T old new quiet cause = quiet cause.1

pub is_ready : {T : Type 0} (old new : StoreView) (result : Result T StoreError) → FailsNothing old new → HasFaultsOf old.flash.faults new.flash.faults result →
    ByFault result (IsInDoubt new) (IsReady new) → IsReady new
is_ready old new (Ok done) quiet cause doubt = doubt
is_ready old new (Err (errors.NoSpace free)) quiet cause doubt = doubt
is_ready old new (Err (errors.LastGeneration id)) quiet cause doubt = doubt
is_ready old new (Err errors.NotFound) quiet cause doubt = doubt
is_ready old new (Err errors.Empty) quiet cause doubt = doubt
is_ready old new (Err errors.Flash) quiet cause doubt = absurd (quiet cause.1)
is_ready old new (Err (errors.Small need)) quiet cause doubt = doubt

-- a store that knows its records has no second copy to end
pub no_copies : (new : StoreView) → new.in_doubt ≡ false → copies_of new ≡ 0
no_copies new certain = ap (λ (b : Bool). if b then copies_in new else 0) certain

looked_by : {T : Type 0} (old new : StoreView) (result : Result T StoreError) (pending : Pending) → FailsNothing old new → KeepsMap old new →
    EndsCopies old new result → new.in_doubt ≡ false → unplaced new.pending ≡ pending
    → DividesAlike old new → HasFaultsOf old.flash.faults new.flash.faults result → store_outline new ≡ record (looked (store_outline old)) { pending = pending }
looked_by old new result pending quiet kept ended certain is equivalent cause =
    same_outline (store_outline new) (record (looked (store_outline old)) { pending = pending }) equivalent.layout (kept_map old new kept equivalent)
    (without_fault (new.flash.steps ≡ old.flash.steps + copies_of old) old.flash.faults new.flash.faults result cause ended quiet) certain is (no_copies new certain)

-- a call that only looks
pub only_looked : {T : Type 0} (tells : Type 0) → tells → (old new : StoreView) (result : Result T StoreError) → FailsNothing old new →
    OnlyLooks tells old new result → store_outline new ≡ looked (store_outline old)
only_looked tells told old new result quiet looks =
    let ready = is_ready old new result quiet looks.cause looks.doubt in
    looked_by old new result Idle quiet (looks.kept told) (looks.ended told) ready.certain (ap unplaced ready.idle) looks.equivalent looks.cause

-- the copies that a store ends once what was pending is given up
copies_given_up : (doubt : Bool) (pending : Pending) (copies : ℕ) (layout : Layout) → (doubt ≡ false → copies ≡ copies_pending layout pending)
    → (if doubt_after pending doubt then copies else 0) ≡ (if doubt then (if doubt then copies else 0) else copies_pending layout (unplaced pending))
copies_given_up true Idle copies layout knows = refl
copies_given_up true (Writing id bytes slots replaces made) copies layout knows = refl
copies_given_up true (Clearing id) copies layout knows = refl
copies_given_up false Idle copies layout knows = refl
copies_given_up false (Writing id bytes slots replaces made) copies layout knows = knows refl
copies_given_up false (Clearing id) copies layout knows = knows refl

doubt_unplaced : (pending : Pending) (doubt : Bool) → doubt_after pending doubt ≡ doubt_after (unplaced pending) doubt
doubt_unplaced Idle doubt = refl
doubt_unplaced (Writing id bytes slots replaces made) doubt = refl
doubt_unplaced (Clearing id) doubt = refl

pub given_up_outline : (store : StoreView) → KnowsCopies store → store_outline (abandoned store) ≡ gave_up (store_outline store)
given_up_outline store knows =
    same_outline (store_outline (abandoned store)) (gave_up (store_outline store)) refl refl refl (doubt_unplaced store.pending store.in_doubt) refl
    (copies_given_up store.in_doubt store.pending (copies_in store) store.layout knows)

-- the next change
map_unplaced : (layout : Layout) (pending : Pending) (records : Stored) → map_after layout pending records ≡ map_after layout (unplaced pending) records
map_unplaced layout Idle records = refl
map_unplaced layout (Writing id bytes slots replaces made) records = refl
map_unplaced layout (Clearing id) records = refl

placed_cond : (b : Bool) (id : ℕ) (bytes slots : List ℕ) (replaces : Bool) (made : ℕ) → unplaced (if b then Idle else Writing id bytes slots replaces made)
    ≡ unplaced (if b then Idle else Writing id bytes [] replaces made)
placed_cond true id bytes slots replaces made = refl
placed_cond false id bytes slots replaces made = refl

pending_unplaced : (layout : Layout) (pending : Pending) → unplaced (pending_after layout pending) ≡ unplaced (pending_after layout (unplaced pending))
pending_unplaced layout Idle = refl
pending_unplaced layout (Writing id bytes slots replaces made) = placed_cond _ id bytes slots replaces (made + 1)
pending_unplaced layout (Clearing id) = refl

-- a change was the last one where nothing is pending behind it
abbrev pub is_idle : Pending → Bool
is_idle Idle = true
is_idle (Writing id bytes slots replaces made) = false
is_idle (Clearing id) = false

idle_is : (pending : Pending) → (pending ≡ Idle → ⊥) → is_idle (unplaced pending) ≡ false
idle_is Idle busy = absurd (busy refl)
idle_is (Writing id bytes slots replaces made) busy = refl
idle_is (Clearing id) busy = refl

last_is : (pending : Pending) (last : Bool) → ((last ≡ true) ⊎ (last ≡ false × (pending ≡ Idle → ⊥))) → (last ≡ true → pending ≡ Idle) → last ≡ is_idle (unplaced pending)
last_is pending last cases idle = elim cases [
  | inl is ↦ is ∙ sym (ap (λ (p : Pending). is_idle (unplaced p)) (idle is))
  | inr both ↦ both.0 ∙ sym (idle_is pending both.1)
]

-- the answer of a step, and the store behind it
pub record HasChanged (old new : StoreView) (result : Result Bool StoreError) : Type 0 where
  pub answer : result ≡ Ok (is_idle (changed (store_outline old)).pending)
  pub outline : store_outline new ≡ changed (store_outline old)

step_error : (old new : StoreView) (error : StoreError) → error ≡ errors.Flash → FailsNothing old new → HasFaultsOf {T = Bool} old.flash.faults new.flash.faults (Err error) → ⊥
step_error old new error is quiet cause = no_fault Bool old new quiet (subst (λ (e : StoreError). HasFaultsOf {T = Bool} old.flash.faults new.flash.faults (Err e)) is cause)

pub has_changed : (tells : Type 0) → tells → (old new : StoreView) (result : Result Bool StoreError) → FailsNothing old new → Stepped tells old new result → HasChanged old new result
has_changed tells told old new (Ok last) quiet step =
    let pending : unplaced new.pending ≡ unplaced (pending_after old.layout (unplaced old.pending)) = ap unplaced step.stepped.1 ∙ pending_unplaced old.layout old.pending in
    record {
      answer = ap (λ (b : Bool). Ok b) (last_is new.pending last step.stepped.2 step.stepped.3 ∙ ap is_idle pending);
      outline = same_outline (store_outline new) (changed (store_outline old)) step.equivalent.layout (step.answer told ∙ map_unplaced old.layout old.pending
          (stored old)) step.one step.stepped.0 pending (no_copies new step.stepped.0);
    }
has_changed tells told old new (Err error) quiet step = absurd (step_error old new error step.error quiet step.cause)

-- the start of a write or of a clear
pub record HasStarted (refusal : Option Refusal) (pending : Pending) (old new : StoreView) (result : Result (Unit {0}) StoreError) : Type 0 where
  pub status : status_after result ≡ status_by refusal
  pub outline : store_outline new ≡ started refusal pending (store_outline old)

started_ok : (tells : Type 0) → tells → (old new : StoreView) (result : Result (Unit {0}) StoreError) (refusal : Option Refusal) (pending : Pending) →
    result ≡ Ok tt → refusal ≡ None → FailsNothing old new → new.in_doubt ≡ false → unplaced new.pending ≡ pending
    → OnlyStarts tells old new result → HasStarted refusal pending old new result
started_ok tells told old new result refusal pending ok none quiet certain is leaves = record {
  status = ap status_after ok ∙ sym (ap status_by none);
  outline = looked_by old new result pending quiet (leaves.kept told) (leaves.ended told) certain is leaves.equivalent leaves.cause
      ∙ sym (ap (λ (r : Option Refusal). started r pending (store_outline old)) none);
}

started_refused : (tells : Type 0) → tells → (old new : StoreView) (error : StoreError) (refusal : Option Refusal) (why : Refusal) (pending : Pending) →
    refusal ≡ Some why → status_of error ≡ status_by (Some why) → FailsNothing old new → IsReady new
    → OnlyStarts tells old new (Err error) → HasStarted refusal pending old new (Err error)
started_refused tells told old new error refusal why pending is status quiet ready leaves = record {
  status = status ∙ sym (ap status_by is);
  outline = looked_by {T = Unit {0}} old new (Err error) Idle quiet (leaves.kept told) (leaves.ended told) ready.certain (ap unplaced ready.idle) leaves.equivalent leaves.cause
      ∙ sym (ap (λ (r : Option Refusal). started r pending (store_outline old)) is);
}

abbrev pub write_pending : Layout → Stored → ℕ → List ℕ → Pending
write_pending layout records id bytes = Writing id bytes [] (is_some (get records id)) 0

pub write_started : (tells : Type 0) → tells → (old new : StoreView) (id : ℕ) (bytes : List ℕ) (result : Result (Unit {0}) StoreError) → FailsNothing old new →
    StartedWrite tells old new id bytes result
    → HasStarted (refusal_of old.layout (Write id bytes) (stored old)) (write_pending old.layout (stored old) id bytes) old new result
write_started tells told old new id bytes (Ok done) quiet start =
    started_ok tells told old new (Ok done) _ _ refl (start.answer told).0 quiet start.leaves.doubt (ap unplaced (start.answer told).1) start.leaves
write_started tells told old new id bytes (Err (errors.NoSpace free)) quiet start =
    started_refused tells told old new (errors.NoSpace free) _ NoSpace _ (start.answer told).0 refl quiet start.leaves.doubt start.leaves
write_started tells told old new id bytes (Err (errors.LastGeneration found)) quiet start =
    started_refused tells told old new (errors.LastGeneration found) _ Failed _ (start.answer told).0 refl quiet start.leaves.doubt start.leaves
write_started tells told old new id bytes (Err errors.NotFound) quiet start = absurd (start.answer told)
write_started tells told old new id bytes (Err errors.Empty) quiet start = absurd (start.answer told)
write_started tells told old new id bytes (Err errors.Flash) quiet start = absurd (quiet start.leaves.cause.1)
write_started tells told old new id bytes (Err (errors.Small need)) quiet start = absurd (start.answer told)

pub clear_started : (tells : Type 0) → tells → (old new : StoreView) (id : ℕ) (result : Result (Unit {0}) StoreError) → FailsNothing old new → StartedClear tells old new id result
    → HasStarted (refusal_of old.layout (Clear id) (stored old)) (Clearing id) old new result
clear_started tells told old new id (Ok done) quiet start =
    started_ok tells told old new (Ok done) _ _ refl (start.answer told).0 quiet start.leaves.doubt (ap unplaced (start.answer told).1) start.leaves
clear_started tells told old new id (Err (errors.NoSpace free)) quiet start = absurd (start.answer told)
clear_started tells told old new id (Err (errors.LastGeneration found)) quiet start = absurd (start.answer told)
clear_started tells told old new id (Err errors.NotFound) quiet start =
    started_refused tells told old new errors.NotFound _ NotFound _ (start.answer told).0 refl quiet start.leaves.doubt start.leaves
clear_started tells told old new id (Err errors.Empty) quiet start = absurd (start.answer told)
clear_started tells told old new id (Err errors.Flash) quiet start = absurd (quiet start.leaves.cause.1)
clear_started tells told old new id (Err (errors.Small need)) quiet start = absurd (start.answer told)

-- an error that can only be a fault does not come
pub answers_ok : (T : Type 0) (old new : StoreView) (error : StoreError) → error ≡ errors.Flash → FailsNothing old new → HasFaultsOf {T = T} old.flash.faults new.flash.faults (Err error) → ⊥
answers_ok T old new error is quiet cause = no_fault T old new quiet (subst (λ (e : StoreError). HasFaultsOf {T = T} old.flash.faults new.flash.faults (Err e)) is cause)
