-- What a store knows, in terms of what is seen of it.
use Rattle.std.proofs.Common.{◌≡◌, ◌⊎◌, ℕ, ◌+◌, ◌-◌, ◌*◌, ◌≤◌, Bool, true, false, cond, List, length, take, Option, Some, None, Result, Ok, Err, refl, sym, ap, subst, ◌∙◌, arith, inl, inr}
use Rattle.std.specs.Prelude.{is_some, MatchResult}
use Rattle.std.specs.FinMap.{get}
use Rattle.flash_model.specs.declared.geometry.Geometry.{Geometry}
use Rattle.flash_model.specs.Layouts.{layout_of}
use Rattle.base_model.specs.Flash.{Told, FlashState, Leaves, LosesOnlyByChange, StaysPowered, restart, raised, next_count}
use Rattle.base_model.specs.Layout.{Layout, room_of}
use Rattle.base_model.proofs.CrashLemmas.{Leaves-none, Leaves-exit}
use Rattle.base_model.specs.Faults.{Rose}
use Rattle.record_model.specs.Records.{Entry, Stored, entry_at, selected, stored_in, parts_of, parts_in, NearlyOnlyFirstUp, second_copies}
use Rattle.record_model.proofs.SpareLemmas.{second_copies-few}
use Rattle.record_slots.specs.declared.found.Found.{Found}
use Rattle.record_slots.specs.declared.found.SlotOf.{SlotOf}
use Rattle.record_slots.specs.Listed.{IsWithin, free_slots, first_records}
use Rattle.record_slots.specs.Recovered.{IsRecovered, KeepsRecords, StaysNearly, ChangesFew}
use Rattle.record_slots.proofs.FirstRecords.{free_slots-only}
use Rattle.record_store.specs.Index.{IsListing, IsListOf, IsPlaceFound}
use Rattle.record_store.specs.Store.{StoreView, Pending, Idle, Writing, stored, records_of, free_in, slots_for, map_after, IsReady, IsInDoubt, KeepsMap, DividesAlike, doubted, restarted}
use Rattle.record_model.specs.RecordMap.{Write, Failed, NoSpace as no_space, LAST_GENERATION, refusal_of}
use Rattle.record_store.specs.Answers.{StartsWrite, copies_in, copies_of, HasFaultsOf, EndsAtFault, EndsCopies, ReadsExactly, TakesReads, reads_to_know, ByFault}
use Rattle.record_store.specs.Calls.{OnlyLooks, OnlyStarts}
use Rattle.record_store.specs.Start.{ReadsTimes}
use Rattle.record_store.specs.Kept.{IsStore, IsWork, IsUnderWay, Knows, KnowsSlots, view_of, pending_of}
use Rattle.record_store.specs.declared.errors.StoreError.{StoreError}
use Rattle.record_store.specs.declared.errors.StoreError.TheVariants.{NoSpace, LastGeneration, NotFound, Empty, Flash, Small}
use Rattle.record_store.specs.declared.work.Begun.{Begun}
use Rattle.record_store.specs.declared.work.Begun.TheVariants as works
use Rattle.record_store.proofs.FaultLemmas.{ends_none, ends_refused, ends_then, ends_read, ends_read_failed}
use Rattle.record_store.proofs.Words.{ReadsFlash, MayMake}

-- power lost in nothing, or in what kept the records
pub KeepsMap-none : (v : StoreView) → KeepsMap v v
KeepsMap-none v = Leaves-none v.flash.told (λ image. records_of v.layout image ≡ stored v) refl

pub may_since : (geometry : Geometry) (flash : FlashState) (doubt : Bool) (pending : Pending) (v : StoreView) (new : Told) → view_of geometry flash doubt pending ≡ v
    → MayMake geometry pending flash.told new
    → Leaves v.flash.told new (λ image. (records_of v.layout image ≡ stored v) ⊎ (records_of v.layout image ≡ map_after v.layout v.pending (stored v)))
may_since geometry flash doubt pending v new is may =
    subst (λ (u : StoreView). Leaves u.flash.told new (λ image. (records_of u.layout image ≡ stored u) ⊎ (records_of u.layout image ≡ map_after u.layout u.pending (stored u)))) is may

pub may_exit : (geometry : Geometry) (flash : FlashState) (doubt : Bool) (pending : Pending) (v : StoreView) (new : Told) → view_of geometry flash doubt pending ≡ v
    → MayMake geometry pending flash.told new
    → (records_of (layout_of geometry) new.image ≡ stored v) ⊎ (records_of (layout_of geometry) new.image ≡ map_after v.layout v.pending (stored v))
may_exit geometry flash doubt pending v new is may =
    subst (λ (u : StoreView). (records_of (layout_of geometry) new.image ≡ stored u) ⊎ (records_of (layout_of geometry) new.image ≡ map_after u.layout u.pending (stored u))) is
    (Leaves-exit flash.told new (λ image. (records_of (layout_of geometry) image ≡ records_of (layout_of geometry) flash.told.image)
    ⊎ (records_of (layout_of geometry) image ≡ map_after (layout_of geometry) pending (records_of (layout_of geometry) flash.told.image))) may)

-- where nothing is seen to be pending nothing is
pub idle_work : (layout : Layout) (buffer : List ℕ) (work : Begun) → pending_of layout buffer work ≡ Idle → work ≡ works.Nothing
idle_work layout buffer works.Nothing is = refl
idle_work layout buffer (works.Write draft stage replaced) is = absurd (cc)
idle_work layout buffer (works.OldCopy draft place) is = absurd (cc)
idle_work layout buffer (works.Clear id place) is = absurd (cc)

-- what a store that is not in doubt knows, where nothing is pending
pub ready_inside : (tells : Type 0) (geometry : Geometry) (flash : FlashState) (found : Found) (buffer : List ℕ) (doubt : Bool) (work : Begun) (v : StoreView)
    → IsStore tells geometry flash found buffer doubt work → view_of geometry flash doubt (pending_of (layout_of geometry) buffer work) ≡ v → IsReady v → tells
    → KnowsSlots (layout_of geometry) flash.told.image found
ready_inside tells geometry flash found buffer doubt work v store is ready told =
    let certain : doubt ≡ false = ap (λ (u : StoreView). u.in_doubt) is ∙ ready.certain in
    let idle = idle_work (layout_of geometry) buffer work (ap (λ (u : StoreView). u.pending) is ∙ ready.idle) in
    subst (λ (w : Begun). Knows geometry found buffer flash.told.image w) idle (store.knows told certain)

pub ready_knows : (tells : Type 0) (geometry : Geometry) (flash : FlashState) (found : Found) (buffer : List ℕ) (doubt : Bool) (work : Begun) (v : StoreView)
    → IsStore tells geometry flash found buffer doubt work → view_of geometry flash doubt (pending_of (layout_of geometry) buffer work) ≡ v → IsReady v → tells
    → KnowsSlots v.layout v.flash.told.image found
ready_knows tells geometry flash found buffer doubt work v store is ready told =
    subst (λ (u : StoreView). KnowsSlots u.layout u.flash.told.image found) is (ready_inside tells geometry flash found buffer doubt work v store is ready told)

pub unfold_stored : (size slots : ℕ) (image : List ℕ) → stored_in size slots image ≡ selected (entry_at size slots image) slots
unfolding stored_in
unfold_stored size slots image = refl

-- a store that has looked at its slots
pub record KnowsMap (tells : Type 0) (old now : StoreView) (found : Found) : Type 0 where
  pub listing : IsListing now.layout.slots now.layout.slot_size found
  pub knows : tells → KnowsSlots now.layout now.flash.told.image found
  pub layout : now.layout ≡ old.layout
  pub map : tells → selected (entry_at now.layout.slot_size now.layout.slots now.flash.told.image) now.layout.slots ≡ stored old

pub kept_map : (old now : StoreView) → KeepsMap old now → DividesAlike old now → stored now ≡ stored old
kept_map old now kept equivalent =
    ap (λ (layout : Layout). records_of layout now.flash.told.image) equivalent.layout
    ∙ Leaves-exit old.flash.told now.flash.told (λ image. records_of old.layout image ≡ stored old) kept

pub looked : {T : Type 0} {tells : Type 0} {geometry : Geometry} {flash : FlashState} {found : Found} {buffer : List ℕ} {doubt : Bool} {work : Begun} {old now : StoreView} {x : T}
    → IsStore tells geometry flash found buffer doubt work → view_of geometry flash doubt (pending_of (layout_of geometry) buffer work) ≡ now
    → OnlyLooks {T = T} tells old now (Ok x) → KnowsMap tells old now found
looked {T} {tells} {geometry} {flash} {found} {buffer} {doubt} {work} {old} {now} store is leaves = record {
  listing = subst (λ (u : StoreView). IsListing u.layout.slots u.layout.slot_size found) is store.listing;
  knows = λ told. ready_knows tells geometry flash found buffer doubt work now store is leaves.doubt told;
  layout = leaves.equivalent.layout;
  map = λ told. sym (unfold_stored now.layout.slot_size now.layout.slots now.flash.told.image) ∙ kept_map old now (leaves.kept told) leaves.equivalent;
}

-- what is said of the map of the slots is said of the map at first
pub of_old : (tells : Type 0) (old now : StoreView) (found : Found) (P : Layout → Stored → Type 0) → KnowsMap tells old now found → tells
    → P now.layout (selected (entry_at now.layout.slot_size now.layout.slots now.flash.told.image) now.layout.slots) → P old.layout (stored old)
of_old tells old now found P is told here =
    subst (λ (s : Stored). P old.layout s) (is.map told)
    (subst (λ (l : Layout). P l (selected (entry_at now.layout.slot_size now.layout.slots now.flash.told.image) now.layout.slots)) is.layout here)

-- A look, and no more

pub equivalent_refl : (v : StoreView) → DividesAlike v v
equivalent_refl v = record { layout = refl; size = refl; sector_size = refl }

pub equivalent_then : (old mid new : StoreView) → DividesAlike old mid → DividesAlike mid new → DividesAlike old new
equivalent_then old mid new first second = record {
  layout = second.layout ∙ first.layout;
  size = second.size ∙ first.size;
  sector_size = second.sector_size ∙ first.sector_size;
}

pub power_refl : (flash : FlashState) → LosesOnlyByChange flash flash
power_refl flash = record { never_back = λ on. on; lost = inl refl }

-- A look at the slots

none_ended : (store : StoreView) → store.in_doubt ≡ false → store.flash.steps ≡ store.flash.steps + copies_of store
none_ended store sure =
    let none : copies_of store ≡ 0 = ap (λ (b : Bool). cond {A = ℕ} b (copies_in store) 0) sure in
    omega arith

-- by a store that knows its records
pub looks_ready : {T : Type 0} (tells : Type 0) (v : StoreView) (x : T) → IsReady v → OnlyLooks {T = T} tells v v (Ok x)
looks_ready tells v x ready = record {
  kept = λ told. KeepsMap-none v;
  few = λ told. omega arith;
  ended = λ told. none_ended v ready.certain;
  at_most = λ told. let same = none_ended v ready.certain in omega arith;
  doubt = ready;
  idle = ready.idle;
  equivalent = equivalent_refl v;
  power = power_refl v.flash;
  cause = refl;
  ends = ends_none v.flash x;
}

rescanned_few : (geometry : Geometry) (flash new : FlashState) → ChangesFew geometry.slot_size geometry.slots flash new → NearlyOnlyFirstUp geometry.slot_size
    geometry.slots flash.told.image → new.steps ≤ flash.steps + 1
rescanned_few geometry flash new few nearly = let one = second_copies-few geometry.slot_size geometry.slots flash.told.image nearly in omega arith

pub rescanned_spare : (size slots : ℕ) (old new : Told) → StaysNearly size slots old new → NearlyOnlyFirstUp size slots old.image → NearlyOnlyFirstUp size slots new.image
rescanned_spare size slots old new stays nearly = Leaves-exit old new (λ image. NearlyOnlyFirstUp size slots old.image → NearlyOnlyFirstUp size slots image) stays nearly

-- the frame of a scan
pub record IsScanned (tells : Type 0) (geometry : Geometry) (old new : FlashState) : Type 0 where
  pub crash : tells → KeepsRecords geometry.slot_size geometry.slots old.told new.told
  pub changes : tells → ChangesFew geometry.slot_size geometry.slots old new
  pub nearly : tells → NearlyOnlyFirstUp geometry.slot_size geometry.slots old.told.image
  pub size : new.size ≡ old.size
  pub sector_size : new.sector_size ≡ old.sector_size
  pub power : LosesOnlyByChange old new

looks_scanned : {T : Type 0} (tells : Type 0) (geometry : Geometry) (old new : FlashState) (doubt after : Bool) (pending : Pending) (y : Result T StoreError) → IsScanned tells geometry old new
    → doubt ≡ true → pending ≡ Idle → (tells → EndsCopies (view_of geometry old doubt pending) (view_of geometry new after pending) y) →
    ByFault y (IsInDoubt (view_of geometry new after pending)) (IsReady (view_of geometry new after pending)) → HasFaultsOf old.faults new.faults y
    → EndsAtFault {T = T} old new y → OnlyLooks {T = T} tells (view_of geometry old doubt pending) (view_of geometry new after pending) y
looks_scanned tells geometry old new doubt after pending y scanned unsure idle ended has_doubt cause ends = record {
  kept = scanned.crash;
  few = λ told. rescanned_few geometry old new (scanned.changes told) (scanned.nearly told);
  ended = ended;
  at_most = λ told.
      let all : cond {A = ℕ} doubt (second_copies geometry.slot_size geometry.slots old.told.image) 0 ≡ second_copies geometry.slot_size geometry.slots old.told.image =
      ap (λ (b : Bool). cond {A = ℕ} b (second_copies geometry.slot_size geometry.slots old.told.image) 0) unsure in
      let few : new.steps ≤ old.steps + second_copies geometry.slot_size geometry.slots old.told.image = scanned.changes told in
      omega arith;
  doubt = has_doubt;
  idle = idle;
  equivalent = record { layout = refl; size = scanned.size; sector_size = scanned.sector_size };
  power = scanned.power;
  cause = cause;
  ends = ends;
}

pub looks_again : {T : Type 0} (tells : Type 0) (geometry : Geometry) (old new : FlashState) (found : Found) (doubt : Bool) (pending : Pending) (v : StoreView)
    (x : T) → view_of geometry old doubt pending ≡ v
    → doubt ≡ true → pending ≡ Idle → IsScanned tells geometry old new → (tells → IsRecovered geometry.slot_size geometry.slots old new found) → new.faults ≡ old.faults
    → EndsAtFault {T = T} old new (Ok x) → OnlyLooks {T = T} tells v (view_of geometry new false pending) (Ok x)
looks_again {T} tells geometry old new found doubt pending v x is unsure idle scanned recovered same ends =
    subst (λ (u : StoreView). OnlyLooks {T = T} tells u (view_of geometry new false pending) (Ok x)) is
    (looks_scanned {T = T} tells geometry old new doubt false pending (Ok x) scanned unsure idle
    (λ told. (recovered told).steps ∙ ap (λ (n : ℕ). old.steps + n) (sym (ap (λ (b : Bool). cond {A = ℕ} b (second_copies geometry.slot_size geometry.slots old.told.image) 0) unsure)))
    (record { certain = refl; idle = idle }) same ends)

pub looks_failed : {T : Type 0} (tells : Type 0) (geometry : Geometry) (old new : FlashState) (doubt : Bool) (pending : Pending) (v : StoreView) → view_of geometry old doubt pending ≡ v
    → doubt ≡ true → pending ≡ Idle → IsScanned tells geometry old new → old.faults ≤ new.faults → Rose old.faults new.faults
    → StaysPowered old new → new.faults ≡ next_count old.faults → OnlyLooks {T = T} tells v (view_of geometry new doubt pending) (Err Flash)
looks_failed {T} tells geometry old new doubt pending v is unsure idle scanned up rose lit once =
    subst (λ (u : StoreView). OnlyLooks {T = T} tells u (view_of geometry new doubt pending) (Err Flash)) is
    (looks_scanned {T = T} tells geometry old new doubt doubt pending (Err Flash) scanned unsure idle (λ told. tt) (record { doubt = unsure; idle = idle })
    (up, rose) (record { once = once; lit = lit; same_power = tt; later = tt }))

-- by a store that was put in doubt, and one whose flash got its power back
pub looks_doubted : {T : Type 0} (tells : Type 0) (geometry : Geometry) (flash : FlashState) (doubt : Bool) (pending : Pending) (v new : StoreView)
    (y : Result T StoreError) → view_of geometry flash doubt pending ≡ v
    → OnlyLooks {T = T} tells (view_of geometry flash true Idle) new y → OnlyLooks {T = T} tells (doubted v) new y
looks_doubted {T} tells geometry flash doubt pending v new y is had = subst (λ (u : StoreView). OnlyLooks {T = T} tells (doubted u) new y) is had

pub looks_restarted : {T : Type 0} (tells : Type 0) (geometry : Geometry) (flash on : FlashState) (doubt : Bool) (pending : Pending) (v new : StoreView)
    (y : Result T StoreError) → view_of geometry flash doubt pending ≡ v
    → on ≡ restart flash → OnlyLooks {T = T} tells (doubted (view_of geometry on doubt pending)) new y → OnlyLooks {T = T} tells (restarted v) new y
looks_restarted {T} tells geometry flash on doubt pending v new y is again had =
    subst (λ (u : StoreView). OnlyLooks {T = T} tells (restarted u) new y) is
    (subst (λ (f : FlashState). OnlyLooks {T = T} tells (doubted (view_of geometry f doubt pending)) new y) again had)

-- The reads of a look

pub ready_reads : {T : Type 0} (v : StoreView) (x : T) → v.in_doubt ≡ false → TakesReads {T = T} (λ done reads. reads) v v (Ok x)
ready_reads v x sure = sym (ap (λ (b : Bool). cond {A = ℕ} b (raised (2 * v.layout.slots) v.flash.reads) v.flash.reads) sure)

pub looked_reads : {T : Type 0} (geometry : Geometry) (old new : FlashState) (doubt after : Bool) (pending : Pending) (v : StoreView) (x : T) → view_of geometry old doubt pending ≡ v → doubt ≡ true
    → new.reads ≡ raised (2 * geometry.slots) old.reads → TakesReads {T = T} (λ done reads. reads) v (view_of geometry new after pending) (Ok x)
looked_reads {T} geometry old new doubt after pending v x is unsure counted =
    subst (λ (u : StoreView). TakesReads {T = T} (λ done reads. reads) u (view_of geometry new after pending) (Ok x)) is
    (counted ∙ sym (ap (λ (b : Bool). cond {A = ℕ} b (raised (2 * geometry.slots) old.reads) old.reads) unsure))

-- those of a start come behind them
pub start_reads : (tells : Type 0) (count : ℕ) (old mid new : StoreView) (x : Unit {0}) (y : Result (Unit {0}) StoreError) → TakesReads {T = Unit {0}} (λ done reads. reads) old mid (Ok x)
    → ReadsExactly tells (λ done. count) mid new y → TakesReads (λ done. raised count) old new y
start_reads tells count old mid new x (Ok done) had still = still.1 ∙ ap (raised count) had
start_reads tells count old mid new x (Err (NoSpace free)) had still = ap (λ (v : StoreView). v.flash.reads) still ∙ had
start_reads tells count old mid new x (Err (LastGeneration id)) had still = ap (λ (v : StoreView). v.flash.reads) still ∙ had
start_reads tells count old mid new x (Err NotFound) had still = ap (λ (v : StoreView). v.flash.reads) still ∙ had
start_reads tells count old mid new x (Err Empty) had still = ap (λ (v : StoreView). v.flash.reads) still ∙ had
start_reads tells count old mid new x (Err Flash) had still = tt
start_reads tells count old mid new x (Err (Small need)) had still = ap (λ (v : StoreView). v.flash.reads) still ∙ had

-- and so do those of a record
pub read_still : {U E : Type 0} (tells : Type 0) (geometry : Geometry) (flash new : FlashState) (doubt : Bool) (pending : Pending) (old : StoreView) (size : ℕ)
    (z : U) → view_of geometry flash doubt pending ≡ old
    → ReadsTimes {T = U} {E = E} tells (parts_of (geometry.slot_size - 64) size) flash new (Ok z) → ReadsFlash tells (parts_of (room_of old.layout) size) old.flash new
read_still tells geometry flash new doubt pending old size z is reads =
    subst (λ (u : StoreView). ReadsFlash tells (parts_of (room_of u.layout) size) u.flash new) is
    (record { told = reads.told; steps = reads.steps; power = reads.power }, reads.counted)

pub read_reads : (geometry : Geometry) (flash new : FlashState) (doubt : Bool) (pending : Pending) (old mid : StoreView) (size : ℕ) →
    view_of geometry flash doubt pending ≡ mid → mid.layout ≡ old.layout
    → mid.flash.reads ≡ reads_to_know old → new.reads ≡ raised (parts_of (geometry.slot_size - 64) size) flash.reads → new.reads ≡ raised (parts_of (room_of old.layout) size) (reads_to_know old)
read_reads geometry flash new doubt pending old mid size is layout known counted =
    counted ∙ ap (λ (u : StoreView). raised (parts_of (room_of u.layout) size) u.flash.reads) is ∙ ap (λ (l : Layout). raised (parts_of (room_of l) size) mid.flash.reads) layout
    ∙ ap (raised (parts_of (room_of old.layout) size)) known

-- Reads after a look

same_told : (P : List ℕ → Type 0) (old mid new : Told) → new ≡ mid → Leaves old mid P → Leaves old new P
same_told P old mid new same leaves = subst (λ (t : Told). Leaves old t P) (sym same) leaves

power_read : (old mid new : FlashState) → new.powered ≡ mid.powered → new.steps ≡ mid.steps → LosesOnlyByChange old mid → LosesOnlyByChange old new
power_read old mid new power steps had = record {
  never_back = λ on. had.never_back (sym power ∙ on);
  lost = elim had.lost [ inl same ↦ inl (power ∙ same) | inr lost ↦ inr (omega arith) ];
}

looks_read : {T V U E : Type 0} (tells : Type 0) (old mid new : StoreView) (count : ℕ) (x : T) (z : U) (y : V) → OnlyLooks {T = T} tells old mid (Ok x) →
    ReadsTimes {T = U} {E = E} tells count mid.flash new.flash (Ok z)
    → new.layout ≡ mid.layout → IsReady new → OnlyLooks {T = V} tells old new (Ok y)
looks_read tells old mid new count x z y had reads layout ready = record {
  kept = λ told. same_told (λ image. records_of old.layout image ≡ stored old) old.flash.told mid.flash.told new.flash.told (reads.told told) (had.kept told);
  few = λ told. let before = had.few told in let same = reads.steps in omega arith;
  ended = λ told. reads.steps ∙ had.ended told;
  at_most = λ told. let before = had.at_most told in let same = reads.steps in omega arith;
  doubt = ready;
  idle = ready.idle;
  equivalent = record { layout = layout ∙ had.equivalent.layout; size = reads.size ∙ had.equivalent.size; sector_size = reads.sector_size ∙ had.equivalent.sector_size };
  power = power_read old.flash mid.flash new.flash reads.power reads.steps had.power;
  cause = reads.cause.ok ∙ had.cause;
  ends = ends_then old.flash mid.flash new.flash x (Ok y) had.cause had.ends (ends_read tells count mid.flash new.flash z y reads);
}

looks_read_failed : {T V U E : Type 0} (tells : Type 0) (old mid new : StoreView) (count : ℕ) (x : T) (e : E) → OnlyLooks {T = T} tells old mid (Ok x) →
    ReadsTimes {T = U} {E = E} tells count mid.flash new.flash (Err e)
    → new.layout ≡ mid.layout → IsInDoubt new → OnlyLooks {T = V} tells old new (Err Flash)
looks_read_failed tells old mid new count x e had reads layout doubt = record {
  kept = λ told. same_told (λ image. records_of old.layout image ≡ stored old) old.flash.told mid.flash.told new.flash.told (reads.told told) (had.kept told);
  few = λ told. let before = had.few told in let same = reads.steps in omega arith;
  ended = λ told. tt;
  at_most = λ told. let before = had.at_most told in let same = reads.steps in omega arith;
  doubt = doubt;
  idle = doubt.idle;
  equivalent = record { layout = layout ∙ had.equivalent.layout; size = reads.size ∙ had.equivalent.size; sector_size = reads.sector_size ∙ had.equivalent.sector_size };
  power = power_read old.flash mid.flash new.flash reads.power reads.steps had.power;
  cause = (let up = reads.cause.never_falls in let same = had.cause in omega arith, subst (λ (f : ℕ). Rose f new.flash.faults) had.cause reads.cause.err);
  ends = ends_then old.flash mid.flash new.flash x (Err Flash) had.cause had.ends (ends_read_failed tells count mid.flash new.flash e reads);
}

-- A start

-- the slots that are free for a write, after a look and before it
pub same_free_in : (old new : StoreView) → new.layout ≡ old.layout → new.flash.told ≡ old.flash.told → free_in new ≡ free_in old
same_free_in old new layout told =
    ap (λ (l : Layout). free_slots (first_records (entry_at l.slot_size l.slots new.flash.told.image) l.slots) l.slots) layout
    ∙ ap (λ (t : Told). free_slots (first_records (entry_at old.layout.slot_size old.layout.slots t.image) old.layout.slots) old.layout.slots) told

pub free_rescanned : (geometry : Geometry) (old new : FlashState) (found : Found) (doubt after : Bool) (pending : Pending) (v : StoreView) → view_of geometry old doubt pending ≡ v
    → IsRecovered geometry.slot_size geometry.slots old new found → free_in (view_of geometry new after pending) ≡ free_in v
free_rescanned geometry old new found doubt after pending v is recovered =
    subst (λ (u : StoreView). free_in (view_of geometry new after pending) ≡ free_in u) is
    (free_slots-only geometry.slot_size geometry.slots new.told.image recovered.only ∙ sym recovered.free ∙ recovered.free_before)

pub same_slots_for : (old new : StoreView) (len : ℕ) → new.layout ≡ old.layout → free_in new ≡ free_in old → slots_for new len ≡ slots_for old len
same_slots_for old new len layout free =
    ap (λ (l : Layout). take (parts_of (room_of l) len) (free_in new)) layout ∙ ap (take (parts_of (room_of old.layout) len)) free

-- what a store that knows its records leaves of a start, whatever it answers
pub starts_by : (tells : Type 0) (old mid new : StoreView) (x : Unit {0}) (y : Result (Unit {0}) StoreError) → OnlyLooks tells old mid (Ok x) →
    (tells → new.flash.told ≡ mid.flash.told) → new.flash.steps ≡ mid.flash.steps
    → new.flash.powered ≡ mid.flash.powered → DividesAlike mid new → MatchResult y (λ _. new.in_doubt ≡ false)
    (λ error. ByFault {T = Unit {0}} (Err error) (IsInDoubt new) (IsReady new)) → HasFaultsOf old.flash.faults new.flash.faults y →
    (tells → EndsCopies old new y) → EndsAtFault old.flash new.flash y → OnlyStarts tells old new y
starts_by tells old mid new x y had told steps power equivalent doubt cause ended ends = record {
  kept = λ t. same_told (λ image. records_of old.layout image ≡ stored old) old.flash.told mid.flash.told new.flash.told (told t) (had.kept t);
  few = λ t. let before = had.few t in omega arith;
  ended = ended;
  at_most = λ t. let before = had.at_most t in omega arith;
  doubt = doubt;
  equivalent = equivalent_then old mid new had.equivalent equivalent;
  power = power_read old.flash mid.flash new.flash power steps had.power;
  cause = cause;
  ends = ends;
}

-- a start that follows a look
pub starts_then : (count : Unit {0} → ℕ) (tells : Type 0) (old mid new : StoreView) (x : Unit {0}) (y : Result (Unit {0}) StoreError) →
    OnlyLooks tells old mid (Ok x) → ReadsExactly tells count mid new y
    → OnlyStarts tells mid new y → OnlyStarts tells old new y
starts_then count tells old mid new x (Ok done) had still starts =
    starts_by tells old mid new x (Ok done) had still.0.told still.0.steps still.0.power starts.equivalent starts.doubt (starts.cause ∙ had.cause)
    (λ told. still.0.steps ∙ had.ended told) (ends_then old.flash mid.flash new.flash x (Ok done) had.cause had.ends starts.ends)
starts_then count tells old mid new x (Err (NoSpace free)) had still starts =
    let steps : new.flash.steps ≡ mid.flash.steps = ap (λ (v : StoreView). v.flash.steps) still in
    starts_by tells old mid new x (Err (NoSpace free)) had (λ t. ap (λ (v : StoreView). v.flash.told) still) steps
    (ap (λ (v : StoreView). v.flash.powered) still) starts.equivalent starts.doubt (starts.cause ∙ had.cause)
    (λ told. steps ∙ had.ended told) (ends_then old.flash mid.flash new.flash x (Err (NoSpace free)) had.cause had.ends starts.ends)
starts_then count tells old mid new x (Err (LastGeneration id)) had still starts =
    let steps : new.flash.steps ≡ mid.flash.steps = ap (λ (v : StoreView). v.flash.steps) still in
    starts_by tells old mid new x (Err (LastGeneration id)) had (λ t. ap (λ (v : StoreView). v.flash.told) still) steps
    (ap (λ (v : StoreView). v.flash.powered) still) starts.equivalent starts.doubt (starts.cause ∙ had.cause)
    (λ told. steps ∙ had.ended told) (ends_then old.flash mid.flash new.flash x (Err (LastGeneration id)) had.cause had.ends starts.ends)
starts_then count tells old mid new x (Err NotFound) had still starts =
    let steps : new.flash.steps ≡ mid.flash.steps = ap (λ (v : StoreView). v.flash.steps) still in
    starts_by tells old mid new x (Err NotFound) had (λ t. ap (λ (v : StoreView). v.flash.told) still) steps (ap (λ (v : StoreView). v.flash.powered) still)
    starts.equivalent starts.doubt (starts.cause ∙ had.cause)
    (λ told. steps ∙ had.ended told) (ends_then old.flash mid.flash new.flash x (Err NotFound) had.cause had.ends starts.ends)
starts_then count tells old mid new x (Err Empty) had still starts =
    let steps : new.flash.steps ≡ mid.flash.steps = ap (λ (v : StoreView). v.flash.steps) still in
    starts_by tells old mid new x (Err Empty) had (λ t. ap (λ (v : StoreView). v.flash.told) still) steps (ap (λ (v : StoreView). v.flash.powered) still)
    starts.equivalent starts.doubt (starts.cause ∙ had.cause)
    (λ told. steps ∙ had.ended told) (ends_then old.flash mid.flash new.flash x (Err Empty) had.cause had.ends starts.ends)
starts_then count tells old mid new x (Err Flash) had still starts =
    let cause = starts.cause in
    let same = had.cause in
    starts_by tells old mid new x (Err Flash) had still.told still.steps still.power starts.equivalent starts.doubt
    (let up : mid.flash.faults ≤ new.flash.faults = cause.0 in omega arith, subst (λ (f : ℕ). Rose f new.flash.faults) same cause.1) (λ told. tt)
    (ends_then old.flash mid.flash new.flash x (Err Flash) had.cause had.ends starts.ends)
starts_then count tells old mid new x (Err (Small need)) had still starts =
    let steps : new.flash.steps ≡ mid.flash.steps = ap (λ (v : StoreView). v.flash.steps) still in
    starts_by tells old mid new x (Err (Small need)) had (λ t. ap (λ (v : StoreView). v.flash.told) still) steps (ap (λ (v : StoreView). v.flash.powered) still)
    starts.equivalent starts.doubt (starts.cause ∙ had.cause)
    (λ told. steps ∙ had.ended told) (ends_then old.flash mid.flash new.flash x (Err (Small need)) had.cause had.ends starts.ends)

pub starts_refused : (tells : Type 0) (old mid : StoreView) (x : Unit {0}) → OnlyLooks {T = Unit {0}} tells old mid (Ok x) → OnlyStarts tells old mid (Err NotFound)
starts_refused tells old mid x had = record {
  kept = had.kept;
  few = had.few;
  ended = had.ended;
  at_most = had.at_most;
  doubt = had.doubt;
  equivalent =
      had.equivalent;
  power = had.power;
  cause = had.cause;
  ends = ends_refused old.flash mid.flash x NotFound (λ e. cc) had.ends;
}

-- what a start answered a store that knows its records is the answer to the store at first
at_old : (old mid : StoreView) → mid.layout ≡ old.layout → stored mid ≡ stored old → (P : Layout → Stored → Type 0) → P mid.layout (stored mid) → P old.layout (stored old)
at_old old mid layout same P h = subst (λ (s : Stored). P old.layout s) same (subst (λ (l : Layout). P l (stored mid)) layout h)

pub start_from : (old mid new : StoreView) (id : ℕ) (bytes : List ℕ) (result : Result (Unit {0}) StoreError) → mid.layout ≡ old.layout → stored mid ≡ stored old
    → StartsWrite mid new id bytes result → StartsWrite old new id bytes result
start_from old mid new id bytes (Ok done) layout same h =
    at_old old mid layout same (λ l s. (refusal_of l (Write id bytes) s ≡ None) × (new.pending ≡ Writing id bytes (slots_for new (length bytes)) (is_some (get s id)) 0)) h
start_from old mid new id bytes (Err (NoSpace free)) layout same h =
    at_old old mid layout same (λ l s. (refusal_of l (Write id bytes) s ≡ Some no_space) × (free + parts_in (room_of l) s ≡ l.slots) × (stored new ≡ s)) h
start_from old mid new id bytes (Err (LastGeneration number)) layout same h =
    at_old old mid layout same (λ l s. (refusal_of l (Write id bytes) s ≡ Some Failed) × (number ≡ id) × ((body : List ℕ) × (get s id ≡ Some (body, LAST_GENERATION))) × (stored new ≡ s)) h
start_from old mid new id bytes (Err NotFound) layout same h = h
start_from old mid new id bytes (Err Empty) layout same h = h
start_from old mid new id bytes (Err Flash) layout same h = h
start_from old mid new id bytes (Err (Small need)) layout same h = h

-- a clearing has begun
pub clearing_store : (tells : Type 0) (geometry : Geometry) (flash : FlashState) (found : Found) (buffer : List ℕ) (doubt : Bool) (work : Begun) (v : StoreView) (id : ℕ) (place : SlotOf)
    → IsStore tells geometry flash found buffer doubt work → view_of geometry flash doubt (pending_of (layout_of geometry) buffer work) ≡ v → IsReady v
    → IsWithin geometry.slots geometry.slot_size place → ((entry : ℕ → Option Entry) → IsListOf entry geometry.slots found → IsPlaceFound entry geometry.slots id (Some place))
    → IsStore tells geometry flash found buffer doubt (works.Clear id place)
clearing_store tells geometry flash found buffer doubt work v id place store is ready within here = record {
  fits = store.fits;
  listing = store.listing;
  room = store.room;
  form = within;
  certain = λ busy. ap (λ (u : StoreView). u.in_doubt) is ∙ ready.certain;
  knows = λ told sure.
      let known = ready_inside tells geometry flash found buffer doubt work v store is ready told in
      record { slots = known; held = here (entry_at geometry.slot_size geometry.slots flash.told.image) known.list };
  spare = store.spare;
}

-- a record was read by way of the buffer, and nothing is pending
pub read_store : (tells : Type 0) (geometry : Geometry) (flash new : FlashState) (found : Found) (buffer read : List ℕ) (doubt after : Bool) (work : Begun) (v : StoreView)
    → IsStore tells geometry flash found buffer doubt work → view_of geometry flash doubt (pending_of (layout_of geometry) buffer work) ≡ v → IsReady v → length read ≡ length buffer
    → (tells → new.told ≡ flash.told) → new.size ≡ flash.size → new.sector_size ≡ flash.sector_size
    → IsStore tells geometry new found read after work
read_store tells geometry flash new found buffer read doubt after work v store is ready long same new_size new_sector =
    let idle = idle_work (layout_of geometry) buffer work (ap (λ (u : StoreView). u.pending) is ∙ ready.idle) in
    record {
      fits = record { size = new_size ∙ store.fits.size; sector_size = new_sector ∙ store.fits.sector_size };
      listing = store.listing;
      room = long ∙ store.room;
      form = subst (λ (w : Begun). IsWork geometry found read w) (sym idle) tt;
      certain = λ busy. absurd (subst (λ (w : Begun). IsUnderWay w) idle busy);
      knows = λ told sure.
          subst (λ (w : Begun). Knows geometry found read new.told.image w) (sym idle)
          (subst (λ (t : Told). KnowsSlots (layout_of geometry) t.image found) (sym (same told)) (ready_inside tells geometry flash found buffer doubt work v store is ready told));
      spare = λ told. subst (λ (t : Told). NearlyOnlyFirstUp geometry.slot_size geometry.slots t.image) (sym (same told)) (store.spare told);
    }

idle_still : (layout : Layout) (buffer read : List ℕ) (work : Begun) → pending_of layout buffer work ≡ Idle → pending_of layout read work ≡ Idle
idle_still layout buffer read work is = ap (pending_of layout read) (idle_work layout buffer work is)

-- what a read leaves of a store that has looked
pub read_leaves : {T V U E : Type 0} (tells : Type 0) (geometry : Geometry) (flash new : FlashState) (buffer read : List ℕ) (doubt : Bool) (work : Begun)
    (old v : StoreView) (count : ℕ) (x : T) (z : U) (y : V)
    → view_of geometry flash doubt (pending_of (layout_of geometry) buffer work) ≡ v → OnlyLooks {T = T} tells old v (Ok x) → ReadsTimes {T = U} {E = E} tells count flash new (Ok z)
    → OnlyLooks {T = V} tells old (view_of geometry new doubt (pending_of (layout_of geometry) read work)) (Ok y)
read_leaves {T} {V} tells geometry flash new buffer read doubt work old v count x z y is had reads =
    looks_read {T = T} {V = V} tells old (view_of geometry flash doubt (pending_of (layout_of geometry) buffer work))
    (view_of geometry new doubt (pending_of (layout_of geometry) read work)) count x z y
    (subst (λ (u : StoreView). OnlyLooks {T = T} tells old u (Ok x)) (sym is) had) reads refl
    (record {
      certain = ap (λ (u : StoreView). u.in_doubt) is ∙ had.doubt.certain;
      idle = idle_still (layout_of geometry) buffer read work (ap (λ (u : StoreView). u.pending) is ∙ had.idle);
    })

pub read_failed_leaves : {T V U E : Type 0} (tells : Type 0) (geometry : Geometry) (flash new : FlashState) (buffer read : List ℕ) (doubt : Bool) (work : Begun)
    (old v : StoreView) (count : ℕ) (x : T) (e : E)
    → view_of geometry flash doubt (pending_of (layout_of geometry) buffer work) ≡ v → OnlyLooks {T = T} tells old v (Ok x) → ReadsTimes {T = U} {E = E} tells count flash new (Err e)
    → OnlyLooks {T = V} tells old (view_of geometry new true (pending_of (layout_of geometry) read work)) (Err Flash)
read_failed_leaves {T} {V} tells geometry flash new buffer read doubt work old v count x e is had reads =
    looks_read_failed {T = T} {V = V} tells old (view_of geometry flash doubt (pending_of (layout_of geometry) buffer work))
    (view_of geometry new true (pending_of (layout_of geometry) read work)) count x e
    (subst (λ (u : StoreView). OnlyLooks {T = T} tells old u (Ok x)) (sym is) had) reads refl
    (record { doubt = refl; idle = idle_still (layout_of geometry) buffer read work (ap (λ (u : StoreView). u.pending) is ∙ had.idle) })
