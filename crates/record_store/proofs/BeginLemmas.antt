-- A write that has begun.
use Rattle.std.proofs.Common.{◌≡◌, ℕ, ◌+◌, ◌*◌, ◌-◌, ◌<◌, ◌≤◌, Bool, true, false, List, ◌++◌, length, take, drop, Option, None, Ok, Err, refl, sym, ap, subst, ◌∙◌, arith, length-append, length-drop}
use Rattle.std.specs.Prelude.{is_some, ◌==◌}
use Rattle.std.specs.List.{list_any}
use Rattle.std.specs.FinMap.{get}
use Rattle.std.proofs.lemmas.List.{take_all, take-append-le}
use Rattle.flash_model.specs.declared.geometry.Geometry.{Geometry}
use Rattle.flash_model.specs.Layouts.{layout_of}
use Rattle.base_model.specs.Flash.{FlashState, Told}
use Rattle.base_model.specs.Layout.{reach_of}
use Rattle.record_model.specs.Records.{entry_at, parts_of, NearlyOnlyFirstUp}
use Rattle.record_model.specs.RecordMap.{Write, refusal_of}
use Rattle.record_model.specs.Plan.{StandsAtStage, made_at}
use Rattle.record_model.proofs.StepLemmas.{first_stage}
use Rattle.record_store.specs.Drafts.{IsDraft, IsStage, plan_of, stage_of}
use Rattle.record_store.specs.declared.draft.Draft.{Draft}
use Rattle.record_store.specs.declared.draft.Stage.{Stage}
use Rattle.record_slots.specs.declared.found.Found.{Found}
use Rattle.record_slots.specs.declared.found.SlotOf.{SlotOf}
use Rattle.record_slots.specs.Listed.{free_slots, first_records}
use Rattle.record_slots.proofs.FirstRecords.{free_slots-only}
use Rattle.record_slots.proofs.TakenLemmas.{least_free}
use Rattle.record_store.specs.Index.{IsListing}
use Rattle.record_store.specs.Store.{StoreView, Pending, Idle, Writing, records_of, slots_for, IsReady, IsInDoubt}
use Rattle.record_store.specs.Answers.{StartsWrite, RefusesWrite, ReadsExactly, HasFaultsOf, EndsCopies, copies_of, is_flash, ByFault}
use Rattle.record_store.specs.Calls.{OnlyStarts}
use Rattle.record_store.specs.Kept.{IsStore, IsWrite, IsUnderWay, Knows, KnowsSlots, KnowsDraft, view_of, pending_of, slots_in}
use Rattle.record_store.specs.Start.{IsPlanned, IsRefusedBy, ReadsTimes, ReadsToPlan, generation_over}
use Rattle.record_store.specs.declared.errors.StoreError.{StoreError}
use Rattle.record_store.specs.declared.errors.StoreError.TheVariants.{NoSpace, LastGeneration, NotFound, Empty, Flash, Small}
use Rattle.record_store.specs.declared.work.Begun.{Begun}
use Rattle.record_store.specs.declared.work.Begun.TheVariants as works
use Rattle.record_store.proofs.StartLemmas.{planned_draft, planned_takes, planned_stands, planned_generation, planned_replaces, planned_newest, planned_taken}
use Rattle.record_store.proofs.StartLemmas.{first_made, refused_no_space, refused_at_last}
use Rattle.record_store.proofs.FaultLemmas.{ends_refused, ends_read, ends_read_failed}
use Rattle.record_store.proofs.StoreLemmas.{idle_work, ready_inside, looks_ready, starts_by}

-- a slice that was lent is a whole vector again
pub written_back : (n : ℕ) (new items : List ℕ) → length new ≡ length items → n ≡ length items → take n (new ++ drop (length new) items) ≡ new
written_back n new items same is =
    take_front n new (drop (length new) items) (omega arith)
  where
    take_front : (k : ℕ) (xs ys : List ℕ) → k ≡ length xs → take k (xs ++ ys) ≡ xs
    take_front k xs ys e = take-append-le k xs ys (omega arith) ∙ take_all k xs (omega arith)

-- bytes at the start of a buffer leave its length
pub new_length : (bytes new lent items : List ℕ) → new ≡ bytes ++ drop (length bytes) lent → lent ≡ items → length bytes ≤ length items → length new ≡ length items
new_length bytes new lent items is same fits =
    let first : length new ≡ length (bytes ++ drop (length bytes) lent) = ap (λ (xs : List ℕ). length xs) is in
    let equal : length lent ≡ length items = ap (λ (xs : List ℕ). length xs) same in
    let both = length-append bytes (drop (length bytes) lent) in
    let rest = length-drop (length bytes) lent in
    omega arith

-- the bytes of a write stand at the start of the buffer
pub front_is : (bytes rest buffer : List ℕ) (n : ℕ) → buffer ≡ bytes ++ rest → n ≡ length bytes → take n buffer ≡ bytes
front_is bytes rest buffer n is long =
    ap (take n) is ∙ take-append-le n bytes rest (omega arith) ∙ take_all n bytes (omega arith)

module _ (tells : Type 0) (geometry : Geometry) (flash : FlashState) (found : Found) (id : ℕ) (bytes written : List ℕ) (draft : Draft) (stage : Stage) (replaced : Option SlotOf) where
  -- what a plan says, and where its first stage stands
  pub record Begins : Type 0 where
    pub is : IsPlanned tells geometry found flash.told.image draft replaced
    pub of_id : draft.id ≡ id
    pub of_len : draft.len ≡ length bytes
    pub least : 128 ≤ length bytes
    pub most : length bytes ≤ reach_of (geometry.slot_size - 64)
    pub front : take draft.len written ≡ bytes
    pub at : (body : List ℕ) → IsDraft geometry draft body → stage_of stage ≡ first_stage (plan_of draft body)
    pub form : (body : List ℕ) → IsDraft geometry draft body → IsStage geometry draft body stage

  begun_draft : Begins → IsListing geometry.slots geometry.slot_size found → IsDraft geometry draft bytes
  begun_draft begins listing = planned_draft tells geometry found flash.told.image bytes draft replaced begins.is begins.of_len listing begins.least begins.most

  begun_form : Begins → IsListing geometry.slots geometry.slot_size found → IsWrite geometry found bytes draft stage replaced
  begun_form begins listing =
      let draft_is = begun_draft begins listing in
      record {
        planned = draft_is;
        at = begins.form bytes draft_is;
        takes = planned_takes tells geometry found flash.told.image (length bytes) draft replaced begins.is begins.of_len begins.least begins.most;
        over = begins.is.over.within;
      }

  begun_knows : Begins → IsListing geometry.slots geometry.slot_size found → tells → KnowsSlots (layout_of geometry) flash.told.image found
      → KnowsDraft geometry found flash.told.image bytes draft stage replaced
  begun_knows begins listing told known =
      let is = begins.is in
      let takes = planned_takes tells geometry found flash.told.image (length bytes) draft replaced is begins.of_len begins.least begins.most in
      let entry = entry_at geometry.slot_size geometry.slots flash.told.image in
      let here = is.over.place entry known.list in
      let free = least_free entry geometry.slots draft.parts found.free.items known.list.free in
      record {
        slots = known;
        plan = record {
          only = known.only;
          free = λ n any. free.free n (subst (λ (xs : List ℕ). list_any (λ m. n == m) xs ≡ true) takes.1 any);
          newest = λ k e h at_k key.
              let less : e.generation < generation_over replaced = planned_newest geometry found flash.told.image draft.id replaced known here k e h at_k key in
              let same : draft.generation ≡ generation_over replaced = is.generation in
              omega arith;
        };
        generation = is.generation ∙ planned_generation geometry flash.told.image draft.id replaced here;
        over = here;
        stands = subst (λ s. StandsAtStage (layout_of geometry) (plan_of draft bytes) flash.told.image s) (sym (begins.at bytes (begun_draft begins listing)))
            (planned_stands tells geometry found flash.told.image bytes draft replaced is begins.of_len begins.least begins.most told);
      }

  pub begun_store : (new : FlashState) (buffer : List ℕ) (doubt : Bool) (work : Begun) (v : StoreView) → Begins
      → IsStore tells geometry flash found buffer doubt work → view_of geometry flash doubt (pending_of (layout_of geometry) buffer work) ≡ v → IsReady v → length written ≡ length buffer
      → (tells → new.told ≡ flash.told) → new.size ≡ flash.size → new.sector_size ≡ flash.sector_size
      → IsStore tells geometry new found written doubt (works.Write draft stage replaced)
  begun_store new buffer doubt work v begins store is ready long same new_size new_sector =
      let certain : doubt ≡ false = ap (λ (u : StoreView). u.in_doubt) is ∙ ready.certain in
      record {
        fits = record { size = new_size ∙ store.fits.size; sector_size = new_sector ∙ store.fits.sector_size };
        listing = store.listing;
        room = long ∙ store.room;
        form = subst (λ (xs : List ℕ). IsWrite geometry found xs draft stage replaced) (sym begins.front) (begun_form begins store.listing);
        certain = λ busy. certain;
        knows = λ told sure.
            subst (λ (t : Told). KnowsDraft geometry found t.image (take draft.len written) draft stage replaced) (sym (same told))
            (subst (λ (xs : List ℕ). KnowsDraft geometry found flash.told.image xs draft stage replaced) (sym begins.front)
            (begun_knows begins store.listing told (ready_inside tells geometry flash found buffer doubt work v store is ready told)));
        spare = λ told. subst (λ (t : Told). NearlyOnlyFirstUp geometry.slot_size geometry.slots t.image) (sym (same told)) (store.spare told);
      }

  -- what is pending then
  pub begun_pending : Begins → IsListing geometry.slots geometry.slot_size found
      → pending_of (layout_of geometry) written (works.Write draft stage replaced) ≡ Writing id bytes (slots_in draft) (is_some replaced) 0
  begun_pending begins listing =
      let none : made_at (layout_of geometry) (plan_of draft bytes) (stage_of stage) ≡ 0 =
      ap (made_at (layout_of geometry) (plan_of draft bytes)) (begins.at bytes (begun_draft begins listing)) ∙ first_made (layout_of geometry) (plan_of draft bytes) in
      ap (λ (xs : List ℕ). Writing draft.id xs (slots_in draft) (is_some replaced) (made_at (layout_of geometry) (plan_of draft xs) (stage_of stage))) begins.front
      ∙ ap (λ (n : ℕ). Writing draft.id bytes (slots_in draft) (is_some replaced) n) none
      ∙ ap (λ (n : ℕ). Writing n bytes (slots_in draft) (is_some replaced) 0) begins.of_id

  pub begun_answer : (new : FlashState) (buffer : List ℕ) (doubt : Bool) (work : Begun) (v : StoreView) (x : Unit {0}) → Begins
      → IsStore tells geometry flash found buffer doubt work → view_of geometry flash doubt (pending_of (layout_of geometry) buffer work) ≡ v → IsReady v → (tells → new.told ≡ flash.told)
      → (tells → length flash.told.image ≡ geometry.slot_size * geometry.slots) → tells
      → StartsWrite v (view_of geometry new doubt (pending_of (layout_of geometry) written (works.Write draft stage replaced))) id bytes (Ok x)
  begun_answer new buffer doubt work v x begins store is ready same sized told =
      let known = ready_inside tells geometry flash found buffer doubt work v store is ready told in
      let planned = begins.is in
      let takes = planned_takes tells geometry found flash.told.image (length bytes) draft replaced planned begins.of_len begins.least begins.most in
      let entry = entry_at geometry.slot_size geometry.slots flash.told.image in
      let free : slots_in draft ≡ take (parts_of (geometry.slot_size - 64) (length bytes)) (free_slots entry geometry.slots) =
      takes.1 ∙ ap (λ (n : ℕ). take n found.free.items) (planned.parts ∙ ap (parts_of (geometry.slot_size - 64)) begins.of_len)
      ∙ ap (take (parts_of (geometry.slot_size - 64) (length bytes))) known.list.free in
      let here : slots_in draft ≡ slots_for (view_of geometry new doubt Idle) (length bytes) =
      free ∙ ap (take (parts_of (geometry.slot_size - 64) (length bytes))) (sym (free_slots-only geometry.slot_size geometry.slots flash.told.image known.only))
      ∙ ap (λ (t : Told). take (parts_of (geometry.slot_size - 64) (length bytes))
      (free_slots (first_records (entry_at geometry.slot_size geometry.slots t.image) geometry.slots) geometry.slots)) (sym (same told)) in
      subst (λ (u : StoreView). StartsWrite u (view_of geometry new doubt (pending_of (layout_of geometry) written (works.Write draft stage replaced))) id bytes (Ok x)) is (
        subst (λ (n : ℕ). refusal_of (layout_of geometry) (Write n bytes) (records_of (layout_of geometry) flash.told.image) ≡ None) begins.of_id
            (planned_taken tells geometry found flash.told.image bytes draft replaced planned begins.of_len store.listing known (sized told)),
        begun_pending begins store.listing ∙ ap (λ (xs : List ℕ). Writing id bytes xs (is_some replaced) 0) here
            ∙ ap (λ (b : Bool). Writing id bytes (slots_for (view_of geometry new doubt Idle) (length bytes)) b 0)
            (planned_replaces geometry flash.told.image draft.id replaced (planned.over.place entry known.list)
            ∙ ap (λ (n : ℕ). is_some (get (records_of (layout_of geometry) flash.told.image) n)) begins.of_id),
      )

-- what a start of a store that knows its records leaves of it and of its flash
pub begun_starts : (tells : Type 0) (geometry : Geometry) (flash new : FlashState) (doubt : Bool) (pending later : Pending) (v : StoreView) (count : ℕ) {T : Type 0} (plan : T) (x : Unit {0})
    → view_of geometry flash doubt pending ≡ v → IsReady v → ReadsTimes {T = T} {E = StoreError} tells count flash new (Ok plan) → OnlyStarts tells v (view_of geometry new doubt later) (Ok x)
begun_starts tells geometry flash new doubt pending later v count plan x is ready reads =
    let at_v = looks_ready {T = Unit {0}} tells v x ready in
    subst_starts (starts_by tells (view_of geometry flash doubt pending) (view_of geometry flash doubt pending) (view_of geometry new doubt later) x (Ok x)
    (looks_ready tells (view_of geometry flash doubt pending) x (record { certain = ap (λ (u : StoreView). u.in_doubt) is ∙ ready.certain; idle = ap (λ (u : StoreView). u.pending) is ∙ ready.idle }))
    reads.told reads.steps reads.power (record { layout = refl; size = reads.size; sector_size = reads.sector_size }) (ap (λ (u : StoreView). u.in_doubt) is ∙ ready.certain) reads.cause.ok
    (λ told. reads.steps ∙ (looks_ready {T = Unit {0}} tells (view_of geometry flash doubt pending) x
    (record { certain = ap (λ (u : StoreView). u.in_doubt) is ∙ ready.certain; idle = ap (λ (u : StoreView). u.pending) is ∙ ready.idle })).ended told)
    (ends_read tells count flash new plan x reads))
  where
    subst_starts : OnlyStarts tells (view_of geometry flash doubt pending) (view_of geometry new doubt later) (Ok x) → OnlyStarts tells v (view_of geometry new doubt later) (Ok x)
    subst_starts had = subst (λ (u : StoreView). OnlyStarts tells u (view_of geometry new doubt later) (Ok x)) is had

-- a plan that the lists refuse, or that the flash failed
pub record RefusedStart (tells : Type 0) (count : Unit {0} → ℕ) (v new : StoreView) (id : ℕ) (bytes : List ℕ) (error : StoreError) : Type 0 where
  pub answer : tells → RefusesWrite v new id bytes error
  pub still : ReadsExactly {T = Unit {0}} tells count v new (Err error)
  pub leaves : OnlyStarts tells v new (Err error)

same_view : (geometry : Geometry) (flash new : FlashState) (doubt : Bool) (pending : Pending) (v : StoreView) → view_of geometry flash doubt pending ≡ v →
    IsReady v → new ≡ flash → view_of geometry new false pending ≡ v
same_view geometry flash new doubt pending v is ready same =
    ap (λ (f : FlashState). view_of geometry f false pending) same
    ∙ ap (λ (b : Bool). view_of geometry flash b pending) (sym (ap (λ (u : StoreView). u.in_doubt) is ∙ ready.certain)) ∙ is

-- a refusal by the lists, which leaves all as it was
refused_by_lists : (tells : Type 0) (count : Unit {0} → ℕ) (v : StoreView) (id : ℕ) (bytes : List ℕ) (error : StoreError) → IsReady v → (error ≡ Flash → ⊥) → (tells → RefusesWrite v v id bytes error)
    → ReadsExactly {T = Unit {0}} tells count v v (Err error) → ((tells → v.flash.steps ≡ v.flash.steps + copies_of v) → tells → EndsCopies {T = Unit {0}} v v (Err error))
    → ByFault {T = Unit {0}} (Err error) (IsInDoubt v) (IsReady v) → HasFaultsOf {T = Unit {0}} v.flash.faults v.flash.faults (Err error) → RefusedStart tells count v v id bytes error
refused_by_lists tells count v id bytes error ready other answer still ended doubt cause =
    let looks = looks_ready {T = Unit {0}} tells v tt ready in
    record {
      answer = answer;
      still = still;
      leaves = record {
        kept = looks.kept;
        few = looks.few;
        ended = ended looks.ended;
        at_most = looks.at_most;
        doubt = doubt;
        equivalent = looks.equivalent;
        power = looks.power;
        cause = cause;
        ends = ends_refused {T = Unit {0}} v.flash v.flash tt error other looks.ends;
      };
    }

pub refused_start : (tells : Type 0) (count : Unit {0} → ℕ) (reads : ℕ) (geometry : Geometry) (flash new : FlashState) (found : Found) (buffer : List ℕ)
    (doubt : Bool) (work : Begun) (v : StoreView) (id : ℕ) (bytes : List ℕ)
    (error : StoreError) (T : Type 0) → IsStore tells geometry flash found buffer doubt work → view_of geometry flash doubt (pending_of (layout_of geometry) buffer work) ≡ v → IsReady v
    → (tells → length flash.told.image ≡ geometry.slot_size * geometry.slots) → IsRefusedBy geometry found id (length bytes) error
    → ReadsToPlan {T = T} tells reads flash new (Err error)
    → RefusedStart tells count v (view_of geometry new (is_flash error) (pending_of (layout_of geometry) buffer work)) id bytes error
refused_start tells count reads geometry flash new found buffer doubt work v id bytes (NoSpace free) T store is ready sized by same =
    subst (λ (u : StoreView). RefusedStart tells count v u id bytes (NoSpace free)) (sym (same_view geometry flash new doubt (pending_of (layout_of geometry) buffer work) v is ready same))
    (refused_by_lists tells count v id bytes (NoSpace free) ready (λ e. cc) (λ told.
    subst (λ (u : StoreView). RefusesWrite u u id bytes (NoSpace free)) is
    (let known = ready_inside tells geometry flash found buffer doubt work v store is ready told in
    let refused = refused_no_space geometry found flash.told.image id free bytes (by.1).0 by.0 (by.1).1 (by.1).2 (by.1).3 store.listing known (sized told) in
    (refused.0, refused.1, refl))) refl (λ ended. ended) ready refl)
refused_start tells count reads geometry flash new found buffer doubt work v id bytes (LastGeneration number) T store is ready sized by same =
    subst (λ (u : StoreView). RefusedStart tells count v u id bytes (LastGeneration number)) (sym (same_view geometry flash new doubt (pending_of (layout_of geometry) buffer work) v is ready same))
    (refused_by_lists tells count v id bytes (LastGeneration number) ready (λ e. cc) (λ told.
    subst (λ (u : StoreView). RefusesWrite u u id bytes (LastGeneration number)) is
    (let known = ready_inside tells geometry flash found buffer doubt work v store is ready told in
    let place = by.2 in
    let refused = refused_at_last geometry flash.told.image id bytes place.0 by.0 place.1 (place.2 (entry_at geometry.slot_size geometry.slots flash.told.image) known.list) in
    (refused.0, by.1, refused.1, refl))) refl (λ ended. ended) ready refl)
refused_start tells count reads geometry flash new found buffer doubt work v id bytes NotFound T store is ready sized by same = absurd by
refused_start tells count reads geometry flash new found buffer doubt work v id bytes Empty T store is ready sized by same = absurd by
refused_start tells count reads geometry flash new found buffer doubt work v id bytes Flash T store is ready sized by read =
    let pending = pending_of (layout_of geometry) buffer work in
    let idle : pending ≡ Idle = ap (λ (u : StoreView). u.pending) is ∙ ready.idle in
    let inside : IsReady (view_of geometry flash doubt pending) = record { certain = ap (λ (u : StoreView). u.in_doubt) is ∙ ready.certain; idle = idle } in
    subst (λ (u : StoreView). RefusedStart tells count u (view_of geometry new true pending) id bytes Flash) is (record {
      answer = λ told. tt;
      still = record { told = read.told; steps = read.steps; power = read.power };
      leaves = starts_by tells (view_of geometry flash doubt pending) (view_of geometry flash doubt pending) (view_of geometry new true pending) tt (Err Flash)
          (looks_ready tells (view_of geometry flash doubt pending) tt inside) read.told read.steps read.power (record { layout = refl; size = read.size; sector_size = read.sector_size })
          (record { doubt = refl; idle = idle }) (read.cause.never_falls, read.cause.err) (λ told. tt) (ends_read_failed tells reads flash new Flash read);
    })
refused_start tells count reads geometry flash new found buffer doubt work v id bytes (Small need) T store is ready sized by same = absurd by

-- the store then
pub record PlanFrame (tells : Type 0) (old new : FlashState) : Type 0 where
  pub told : tells → new.told ≡ old.told
  pub size : new.size ≡ old.size
  pub sector_size : new.sector_size ≡ old.sector_size

same_frame : (tells : Type 0) (old new : FlashState) → new ≡ old → PlanFrame tells old new
same_frame tells old new same = record {
  told = λ told. ap (λ (f : FlashState). f.told) same;
  size = ap (λ (f : FlashState). f.size) same;
  sector_size = ap (λ (f : FlashState). f.sector_size) same;
}

plan_frame : (T : Type 0) (tells : Type 0) (count : ℕ) (old new : FlashState) (error : StoreError) → ReadsToPlan {T = T} tells count old new (Err error) → PlanFrame tells old new
plan_frame T tells count old new (NoSpace free) same = same_frame tells old new same
plan_frame T tells count old new (LastGeneration id) same = same_frame tells old new same
plan_frame T tells count old new NotFound same = same_frame tells old new same
plan_frame T tells count old new Empty same = same_frame tells old new same
plan_frame T tells count old new Flash read = record { told = read.told; size = read.size; sector_size = read.sector_size }
plan_frame T tells count old new (Small need) same = same_frame tells old new same

pub refused_store : (tells : Type 0) (reads : ℕ) (geometry : Geometry) (flash new : FlashState) (found : Found) (buffer : List ℕ) (doubt after : Bool) (work : Begun) (v : StoreView)
    (error : StoreError) (T : Type 0) → IsStore tells geometry flash found buffer doubt work → view_of geometry flash doubt (pending_of (layout_of geometry) buffer work) ≡ v → IsReady v
    → ReadsToPlan {T = T} tells reads flash new (Err error) → IsStore tells geometry new found buffer after work
refused_store tells reads geometry flash new found buffer doubt after work v error T store is ready read =
    let frame = plan_frame T tells reads flash new error read in
    let idle = idle_work (layout_of geometry) buffer work (ap (λ (u : StoreView). u.pending) is ∙ ready.idle) in
    let certain : doubt ≡ false = ap (λ (u : StoreView). u.in_doubt) is ∙ ready.certain in
    record {
      fits = record { size = frame.size ∙ store.fits.size; sector_size = frame.sector_size ∙ store.fits.sector_size };
      listing = store.listing;
      room = store.room;
      form = store.form;
      certain = λ busy. absurd (subst (λ (w : Begun). IsUnderWay w) idle busy);
      knows = λ told sure. subst (λ (t : Told). Knows geometry found buffer t.image work) (sym (frame.told told)) (store.knows told certain);
      spare = λ told. subst (λ (t : Told). NearlyOnlyFirstUp geometry.slot_size geometry.slots t.image) (sym (frame.told told)) (store.spare told);
    }
