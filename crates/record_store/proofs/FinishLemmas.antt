-- The changes of a command, one after another.
use Rattle.std.proofs.Common.{◌≡◌, ◌⊎◌, ℕ, ◌+◌, ◌-◌, ◌<◌, ◌≤◌, Bool, true, false, cond, nat_eq, List, length, Option, Some, None, Result, Ok, Err, refl, sym, ap, subst, ◌∙◌, arith, inl, inr}
use Rattle.std.specs.Prelude.{nat_le, is_some, OnOk}
use Rattle.std.specs.FinMap.{get}
use Rattle.std.proofs.lemmas.Bool.{cases_eq, cases_lt, cond-true, cond-false, eq-eqb, ne_eqb, le-leb, lt-leb}
use Rattle.std.proofs.lemmas.Result.{on_ok_weaker}
use Rattle.base_model.specs.Layout.{Layout}
use Rattle.base_model.proofs.PowerLemmas.{lit_none, lit_then}
use Rattle.base_model.proofs.CrashLemmas.{Leaves-none, Leaves-weaker, Leaves-then, Leaves-exit}
use Rattle.record_model.specs.Records.{Stored}
use Rattle.record_model.specs.RecordMap.{Command, Write, Clear, Refusal, Failed, NoSpace as no_space, NotFound as not_found, refusal_of, after, changes_of, made_by}
use Rattle.record_model.proofs.MapLemmas.{after-done}
use Rattle.record_model.proofs.RefusalLemmas.{changes_of-refused, changes_of-new, changes_of-over, changes_of-clear}
use Rattle.record_store.specs.Store.{StoreView, Pending, Idle, Writing, Clearing, stored, records_of, map_after, pending_after, changes_before_gate}
use Rattle.record_store.specs.Store.{changes_in_all, StandsIn, slots_for, PlacedAfter, KeepsOrMakes, KeepsMap, DividesAlike, IsInDoubt, IsReady}
use Rattle.record_store.specs.Answers.{FailsByFlash, AnswersWrite, AnswersClear, RefusesWrite, RefusesClear, HasFaultsOf, EndsAtFault, StartsWrite, StartsClear, TakesReads, copies_of, ByFault}
use Rattle.record_store.specs.Calls.{OnlyStarts, Changes}
use Rattle.record_store.specs.declared.errors.StoreError.{StoreError}
use Rattle.record_store.specs.declared.errors.StoreError.TheVariants.{NoSpace, LastGeneration, NotFound, Empty, Flash, Small}
use Rattle.record_store.specs.Finish.{IsUnfinished, changes_left, map_at_end, PlacedAtEnd, IsFinished}
use Rattle.record_store.proofs.FaultLemmas.{ends_then, loses_then}
use Rattle.record_store.proofs.StoreLemmas.{kept_map, equivalent_refl, equivalent_then}
use Rattle.record_store.proofs.Words.{PlacesAlike, IsOnWay}

-- the tests of a write that has made so many changes, of which so many come before the gate
record Tests (made before all : ℕ) (at_gate at_end early later : Bool) : Type 0 where
  gate : nat_eq made before ≡ at_gate
  last : nat_eq (made + 1) all ≡ at_end
  now : nat_le made before ≡ early
  next : nat_le (made + 1) before ≡ later

tests_early : (made before all : ℕ) → made < before → before < all → Tests made before all false false true true
tests_early made before all low more = record {
  gate = ne_eqb made before (λ e. absurd (omega arith));
  last = ne_eqb (made + 1) all (λ e. absurd (omega arith));
  now = le-leb made before (omega arith);
  next = le-leb (made + 1) before (omega arith);
}

tests_gate : (made before all : ℕ) (last : Bool) → made ≡ before → nat_eq (made + 1) all ≡ last → Tests made before all true last true false
tests_gate made before all last is at_end = record {
  gate = eq-eqb made before is;
  last = at_end;
  now = le-leb made before (omega arith);
  next = lt-leb (made + 1) before (omega arith);
}

tests_late : (made before all : ℕ) → before < made → made + 1 ≡ all → Tests made before all false true false false
tests_late made before all high is = record {
  gate = ne_eqb made before (λ e. absurd (omega arith));
  last = eq-eqb (made + 1) all is;
  now = lt-leb made before (omega arith);
  next = lt-leb (made + 1) before (omega arith);
}

-- the map once all changes are made stays the same as they are made
module _ (layout : Layout) (id made : ℕ) (bytes slots : List ℕ) (replaces : Bool) (stored : Stored) where
  end_by : (at_gate at_end early later : Bool) → Tests made (changes_before_gate layout bytes) (changes_in_all layout bytes replaces) at_gate at_end early later
      → map_at_end layout (cond at_end Idle (Writing id bytes slots replaces (made + 1))) (cond at_gate (made_by (Write id bytes) stored) stored) ≡ cond early (made_by (Write id bytes) stored) stored
      → map_at_end layout (pending_after layout (Writing id bytes slots replaces made)) (map_after layout (Writing id bytes slots replaces made) stored)
      ≡ map_at_end layout (Writing id bytes slots replaces made) stored
  end_by at_gate at_end early later tests same =
      ap (λ (t : Bool). map_at_end layout (cond t Idle (Writing id bytes slots replaces (made + 1))) (map_after layout (Writing id bytes slots replaces made) stored)) tests.last
      ∙ ap (λ (t : Bool). map_at_end layout (cond at_end Idle (Writing id bytes slots replaces (made + 1))) (cond t (made_by (Write id bytes) stored) stored)) tests.gate
      ∙ same
      ∙ sym (ap (λ (t : Bool). cond t (made_by (Write id bytes) stored) stored) tests.now)

end_writing : (layout : Layout) (id made : ℕ) (bytes slots : List ℕ) (replaces : Bool) (stored : Stored) → made < changes_in_all layout bytes replaces
    → map_at_end layout (pending_after layout (Writing id bytes slots replaces made)) (map_after layout (Writing id bytes slots replaces made) stored)
    ≡ map_at_end layout (Writing id bytes slots replaces made) stored
end_writing layout id made bytes slots true stored few = elim (cases_lt made (changes_before_gate layout bytes)) [
  | inl low ↦
      let tests = tests_early made (changes_before_gate layout bytes) (changes_in_all layout bytes true) low (omega arith) in
      end_by layout id made bytes slots true stored false false true true tests
      (ap (λ (t : Bool). cond t (made_by (Write id bytes) stored) stored) tests.next)
  | inr high ↦ elim (cases_eq made (changes_before_gate layout bytes)) [
    | inl is ↦
        let tests = tests_gate made (changes_before_gate layout bytes) (changes_in_all layout bytes true) false is (ne_eqb (made + 1) (changes_in_all layout bytes true) (λ e. absurd (omega arith))) in
        end_by layout id made bytes slots true stored true false true false tests
        (ap (λ (t : Bool). cond t (made_by (Write id bytes) (made_by (Write id bytes) stored)) (made_by (Write id bytes) stored)) tests.next)
    | inr apart ↦
        let tests = tests_late made (changes_before_gate layout bytes) (changes_in_all layout bytes true) (omega arith) (omega arith) in
        end_by layout id made bytes slots true stored false true false false tests refl
  ]
]
end_writing layout id made bytes slots false stored few = elim (cases_lt made (changes_before_gate layout bytes)) [
  | inl low ↦
      let tests = tests_early made (changes_before_gate layout bytes) (changes_in_all layout bytes false) low (omega arith) in
      end_by layout id made bytes slots false stored false false true true tests
      (ap (λ (t : Bool). cond t (made_by (Write id bytes) stored) stored) tests.next)
  | inr high ↦
      let tests = tests_gate made (changes_before_gate layout bytes) (changes_in_all layout bytes false) true (omega arith) (eq-eqb (made + 1) (changes_in_all layout bytes false) (omega arith)) in
      end_by layout id made bytes slots false stored true true true false tests refl
]

step_end : (layout : Layout) (pending : Pending) (stored : Stored) → IsUnfinished layout pending
    → map_at_end layout (pending_after layout pending) (map_after layout pending stored) ≡ map_at_end layout pending stored
step_end layout Idle stored some = absurd some
step_end layout (Writing id bytes slots replaces made) stored some = end_writing layout id made bytes slots replaces stored some
step_end layout (Clearing id) stored some = refl

-- a change makes no map, or the one at the end
step_map : (layout : Layout) (pending : Pending) (stored : Stored) → (map_after layout pending stored ≡ stored) ⊎ (map_after layout pending stored ≡ map_at_end layout pending stored)
step_map layout Idle stored = inl refl
step_map layout (Writing id bytes slots replaces made) stored = elim (cases_eq made (changes_before_gate layout bytes)) [
  | inl is ↦ inr (cond-true {A = Stored} (nat_eq made (changes_before_gate layout bytes)) (made_by (Write id bytes) stored) stored (eq-eqb made (changes_before_gate layout bytes) is)
      ∙ sym (cond-true {A = Stored} (nat_le made (changes_before_gate layout bytes)) (made_by (Write id bytes) stored) stored (le-leb made (changes_before_gate layout bytes) (omega arith))))
  | inr apart ↦ inl (cond-false {A = Stored} (nat_eq made (changes_before_gate layout bytes)) (made_by (Write id bytes) stored) stored (ne_eqb made (changes_before_gate layout bytes) apart))
]
step_map layout (Clearing id) stored = inr refl

-- one change less is left
step_left : (layout : Layout) (pending : Pending) → IsUnfinished layout pending → changes_left layout (pending_after layout pending) + 1 ≡ changes_left layout pending
step_left layout Idle some = absurd some
step_left layout (Writing id bytes slots replaces made) some = elim (cases_eq (made + 1) (changes_in_all layout bytes replaces)) [
  | inl last ↦
      ap (λ (t : Bool). changes_left layout (cond t Idle (Writing id bytes slots replaces (made + 1))) + 1)
      (eq-eqb (made + 1) (changes_in_all layout bytes replaces) last) ∙ one (changes_in_all layout bytes replaces) last
  | inr apart ↦
      ap (λ (t : Bool). changes_left layout (cond t Idle (Writing id bytes slots replaces (made + 1))) + 1)
      (ne_eqb (made + 1) (changes_in_all layout bytes replaces) apart) ∙ less (changes_in_all layout bytes replaces) some apart
]
  where
    one : (all : ℕ) → made + 1 ≡ all → 0 + 1 ≡ all - made
    one all e = omega arith

    less : (all : ℕ) → made < all → (made + 1 ≡ all → ⊥) → all - (made + 1) + 1 ≡ all - made
    less all h apart = omega arith
step_left layout (Clearing id) some = omega arith

step_unfinished : (layout : Layout) (pending : Pending) → IsUnfinished layout pending → (pending_after layout pending ≡ Idle → ⊥) → IsUnfinished layout (pending_after layout pending)
step_unfinished layout Idle some goes_on = absurd some
step_unfinished layout (Writing id bytes slots replaces made) some goes_on = elim (cases_eq (made + 1) (changes_in_all layout bytes replaces)) [
  | inl last ↦ absurd (goes_on (ap (λ (t : Bool). cond t Idle (Writing id bytes slots replaces (made + 1))) (eq-eqb (made + 1) (changes_in_all layout bytes replaces) last)))
  | inr apart ↦
      subst (λ (t : Bool). IsUnfinished layout (cond t Idle (Writing id bytes slots replaces (made + 1)))) (sym (ne_eqb (made + 1) (changes_in_all layout bytes replaces) apart))
      (below (changes_in_all layout bytes replaces) some apart)
]
  where
    below : (all : ℕ) → made < all → (made + 1 ≡ all → ⊥) → made + 1 < all
    below all h apart = omega arith
step_unfinished layout (Clearing id) some goes_on = absurd (goes_on refl)

-- what is placed at the end stays the same, as long as it is not the end
step_places : (layout : Layout) (pending : Pending) → IsUnfinished layout pending → (pending_after layout pending ≡ Idle → ⊥) → PlacesAlike layout pending (pending_after layout pending)
step_places layout Idle some goes_on image at_end = tt
step_places layout (Writing id bytes slots replaces made) some goes_on image at_end = elim (cases_eq (made + 1) (changes_in_all layout bytes replaces)) [
  | inl last ↦ absurd (goes_on (ap (λ (t : Bool). cond t Idle (Writing id bytes slots replaces (made + 1))) (eq-eqb (made + 1) (changes_in_all layout bytes replaces) last)))
  | inr apart ↦
      subst (λ (t : Bool). PlacedAtEnd layout (cond t Idle (Writing id bytes slots replaces (made + 1))) image) (ne_eqb (made + 1) (changes_in_all layout bytes replaces) apart) at_end
]
step_places layout (Clearing id) some goes_on image at_end = tt

-- after the last change it is there
last_placed : (layout : Layout) (pending : Pending) (image : List ℕ) → IsUnfinished layout pending → pending_after layout pending ≡ Idle →
    PlacedAfter layout pending image → PlacedAtEnd layout pending image
last_placed layout Idle image some ends placed = tt
last_placed layout (Writing id bytes slots replaces made) image some ends placed = elim (cases_eq (made + 1) (changes_in_all layout bytes replaces)) [
  | inl last ↦ placed (behind replaces last)
  | inr apart ↦ absurd (busy (sym (ap (λ (t : Bool). cond t Idle (Writing id bytes slots replaces (made + 1))) (ne_eqb (made + 1) (changes_in_all layout bytes replaces) apart)) ∙ ends))
]
  where
    behind : (b : Bool) → made + 1 ≡ changes_before_gate layout bytes + cond b 2 1 → changes_before_gate layout bytes ≤ made
    behind true e = omega arith
    behind false e = omega arith

    busy : Writing id bytes slots replaces (made + 1) ≡ Idle → ⊥
    busy e = cc
last_placed layout (Clearing id) image some ends placed = tt

-- no change yet
pub IsOnWay-none : (tells : Type 0) (v : StoreView) → IsUnfinished v.layout v.pending → IsOnWay tells v v
IsOnWay-none tells v some = record {
  unfinished = some;
  left = refl;
  faults = refl;
  reads = refl;
  power = refl;
  lit = lit_none v.flash;
  later = omega arith;
  equivalent = equivalent_refl v;
  places = λ image at_end. at_end;
  end = λ told. refl;
  crash = λ told. Leaves-none v.flash.told (λ image. (records_of v.layout image ≡ stored v) ⊎ (records_of v.layout image ≡ map_at_end v.layout v.pending (stored v))) (inl refl);
}

-- what power lost in one more change leaves
pub way_crash : (tells : Type 0) (old mid new : StoreView) → IsOnWay tells old mid → tells → KeepsOrMakes mid new (map_after mid.layout mid.pending (stored mid))
    → KeepsOrMakes old new (map_at_end old.layout old.pending (stored old))
way_crash tells old mid new way told step =
    let finish = map_at_end old.layout old.pending (stored old) in
    let P : List ℕ → Type 0 = λ image. (records_of old.layout image ≡ stored old) ⊎ (records_of old.layout image ≡ finish) in
    Leaves-then old.flash.told mid.flash.told new.flash.told P (way.crash told)
    (Leaves-weaker mid.flash.told new.flash.told
    (λ image. (records_of mid.layout image ≡ stored mid) ⊎ (records_of mid.layout image ≡ map_after mid.layout mid.pending (stored mid))) P step
    (λ image either. elim either [
      | inl kept ↦ at_mid image kept
      | inr made ↦ elim (step_map mid.layout mid.pending (stored mid)) [
        | inl same ↦ at_mid image (made ∙ same)
        | inr ends ↦ inr (equivalent_stored image ∙ made ∙ ends ∙ way.end told)
      ]
    ]))
  where
    equivalent_stored : (image : List ℕ) → records_of old.layout image ≡ records_of mid.layout image
    equivalent_stored image = ap (λ (l : Layout). records_of l image) (sym way.equivalent.layout)

    at_mid : (image : List ℕ) → records_of mid.layout image ≡ stored mid
        → (records_of old.layout image ≡ stored old) ⊎ (records_of old.layout image ≡ map_at_end old.layout old.pending (stored old))
    at_mid image same = elim (Leaves-exit old.flash.told mid.flash.told
        (λ x. (records_of old.layout x ≡ stored old) ⊎ (records_of old.layout x ≡ map_at_end old.layout old.pending (stored old))) (way.crash told)) [
          | inl first ↦ inl (equivalent_stored image ∙ same ∙ sym (equivalent_stored mid.flash.told.image) ∙ first)
          | inr last ↦ inr (equivalent_stored image ∙ same ∙ sym (equivalent_stored mid.flash.told.image) ∙ last)
        ]

-- one more change was made, and it was not the last
pub IsOnWay-more : (tells : Type 0) (old mid new : StoreView) → IsOnWay tells old mid → new.pending ≡ pending_after mid.layout mid.pending → (new.pending ≡ Idle → ⊥)
    → (tells → stored new ≡ map_after mid.layout mid.pending (stored mid)) → (tells → KeepsOrMakes mid new (map_after mid.layout mid.pending (stored mid)))
    → new.flash.steps ≡ mid.flash.steps + 1 → DividesAlike mid new → new.flash.faults ≡ mid.flash.faults → new.flash.reads ≡ mid.flash.reads
    → {T : Type 0} (x : T) → EndsAtFault {T = T} mid.flash new.flash (Ok x) → IsOnWay tells old new
IsOnWay-more tells old mid new way pending goes_on made crash step equivalent faults reads x ends =
    let layout : new.layout ≡ mid.layout = equivalent.layout in
    let at_new : changes_left new.layout new.pending ≡ changes_left mid.layout (pending_after mid.layout mid.pending) =
    ap (λ (l : Layout). changes_left l new.pending) layout ∙ ap (changes_left mid.layout) pending in
    let one = step_left mid.layout mid.pending way.unfinished in
    let left = way.left in
    record {
      unfinished = subst (λ (l : Layout). IsUnfinished l new.pending) (sym layout)
          (subst (λ (p : Pending). IsUnfinished mid.layout p) (sym pending) (step_unfinished mid.layout mid.pending way.unfinished (λ idle. goes_on (pending ∙ idle))));
      left = omega arith;
      faults = faults ∙ way.faults;
      reads = reads ∙ way.reads;
      power = ends.same_power ∙ way.power;
      lit = lit_then old.flash mid.flash new.flash way.power way.lit ends.lit;
      later = let before = way.later in omega arith;
      equivalent = equivalent_then old mid new way.equivalent equivalent;
      places = λ image at_end. way.places image
          (subst (λ (l : Layout). PlacedAtEnd l mid.pending image) way.equivalent.layout
          (step_places mid.layout mid.pending way.unfinished (λ idle. goes_on (pending ∙ idle)) image
          (subst (λ (l : Layout). PlacedAtEnd l (pending_after mid.layout mid.pending) image) (sym way.equivalent.layout)
          (subst (λ (p : Pending). PlacedAtEnd old.layout p image) pending at_end))));
      end = λ told.
          ap (λ (l : Layout). map_at_end l new.pending (stored new)) layout ∙ ap (λ (p : Pending). map_at_end mid.layout p (stored new)) pending
          ∙ ap (map_at_end mid.layout (pending_after mid.layout mid.pending)) (made told)
          ∙ step_end mid.layout mid.pending (stored mid) way.unfinished ∙ way.end told;
      crash = λ told. way_crash tells old mid new way told (crash told);
    }

-- and where it was, the record that was written is in its slots
pub way_placed : (tells : Type 0) (old mid new : StoreView) → IsOnWay tells old mid → new.pending ≡ pending_after mid.layout mid.pending → new.pending ≡ Idle
    → PlacedAfter mid.layout mid.pending new.flash.told.image → PlacedAtEnd old.layout old.pending new.flash.told.image
way_placed tells old mid new way pending ends placed =
    way.places new.flash.told.image (subst (λ (l : Layout). PlacedAtEnd l mid.pending new.flash.told.image) way.equivalent.layout
    (last_placed mid.layout mid.pending new.flash.told.image way.unfinished (sym pending ∙ ends) placed))

-- a command that was refused, or failed before its first change
pub kept_or_made : (old new : StoreView) (made : Stored) → KeepsMap old new → KeepsOrMakes old new made
kept_or_made old new made kept =
    Leaves-weaker old.flash.told new.flash.told (λ image. records_of old.layout image ≡ stored old)
    (λ image. (records_of old.layout image ≡ stored old) ⊎ (records_of old.layout image ≡ made)) kept (λ image same. inl same)

-- a command that was begun, and then made
begun_then : (old mid new : StoreView) (made end : Stored) → KeepsMap old mid → DividesAlike old mid → end ≡ made → KeepsOrMakes mid new end → KeepsOrMakes old new made
begun_then old mid new made end kept equivalent is makes =
    Leaves-then old.flash.told mid.flash.told new.flash.told (λ image. (records_of old.layout image ≡ stored old) ⊎ (records_of old.layout image ≡ made))
    (kept_or_made old mid made kept)
    (Leaves-weaker mid.flash.told new.flash.told
    (λ image. (records_of mid.layout image ≡ stored mid) ⊎ (records_of mid.layout image ≡ end))
    (λ image. (records_of old.layout image ≡ stored old) ⊎ (records_of old.layout image ≡ made)) makes
    (λ image either. elim either [
      | inl same ↦ inl (equivalent_stored image ∙ same ∙ sym (equivalent_stored mid.flash.told.image) ∙ Leaves-exit old.flash.told mid.flash.told (λ x. records_of old.layout x ≡ stored old) kept)
      | inr ends ↦ inr (equivalent_stored image ∙ ends ∙ is)
    ]))
  where
    equivalent_stored : (image : List ℕ) → records_of old.layout image ≡ records_of mid.layout image
    equivalent_stored image = ap (λ (l : Layout). records_of l image) (sym equivalent.layout)

-- the map at the end of a write that has begun, or of a clear, is the one after the command
write_end : (old mid : StoreView) (id : ℕ) (bytes slots : List ℕ) (replaces : Bool) → mid.pending ≡ Writing id bytes slots replaces 0 → stored mid ≡ stored old
    → refusal_of old.layout (Write id bytes) (stored old) ≡ None → map_at_end mid.layout mid.pending (stored mid) ≡ after old.layout (Write id bytes) (stored old)
write_end old mid id bytes slots replaces pending same taken =
    ap (λ (p : Pending). map_at_end mid.layout p (stored mid)) pending
    ∙ cond-true {A = Stored} (nat_le 0 (changes_before_gate mid.layout bytes)) (made_by (Write id bytes) (stored mid)) (stored mid) (le-leb 0 (changes_before_gate mid.layout bytes) (omega arith))
    ∙ ap (made_by (Write id bytes)) same ∙ sym (after-done old.layout (Write id bytes) (stored old) taken)

clear_end : (old mid : StoreView) (id : ℕ) → mid.pending ≡ Clearing id → stored mid ≡ stored old
    → refusal_of old.layout (Clear id) (stored old) ≡ None → map_at_end mid.layout mid.pending (stored mid) ≡ after old.layout (Clear id) (stored old)
clear_end old mid id pending same taken =
    ap (λ (p : Pending). map_at_end mid.layout p (stored mid)) pending
    ∙ ap (made_by (Clear id)) same ∙ sym (after-done old.layout (Clear id) (stored old) taken)

-- the answers of what was made
write_answers : (old new : StoreView) (id : ℕ) (bytes : List ℕ) (result : Result (Unit {0}) StoreError) → FailsByFlash result → refusal_of old.layout (Write id bytes) (stored old) ≡ None
    → OnOk result (stored new ≡ after old.layout (Write id bytes) (stored old)) → AnswersWrite old new id bytes result
write_answers old new id bytes (Ok done) fails taken made = (taken, made)
write_answers old new id bytes (Err (NoSpace free)) fails taken made = absurd (cc)
write_answers old new id bytes (Err (LastGeneration number)) fails taken made = absurd (cc)
write_answers old new id bytes (Err NotFound) fails taken made = absurd (cc)
write_answers old new id bytes (Err Empty) fails taken made = absurd (cc)
write_answers old new id bytes (Err Flash) fails taken made = tt
write_answers old new id bytes (Err (Small need)) fails taken made = absurd (cc)

clear_answers : (old new : StoreView) (id : ℕ) (result : Result (Unit {0}) StoreError) → FailsByFlash result → refusal_of old.layout (Clear id) (stored old) ≡ None
    → OnOk result (stored new ≡ after old.layout (Clear id) (stored old)) → AnswersClear old new id result
clear_answers old new id (Ok done) fails taken made = (taken, made)
clear_answers old new id (Err (NoSpace free)) fails taken made = absurd (cc)
clear_answers old new id (Err (LastGeneration number)) fails taken made = absurd (cc)
clear_answers old new id (Err NotFound) fails taken made = absurd (cc)
clear_answers old new id (Err Empty) fails taken made = absurd (cc)
clear_answers old new id (Err Flash) fails taken made = tt
clear_answers old new id (Err (Small need)) fails taken made = absurd (cc)

-- the changes of what was made
unless_flash : (result : Result (Unit {0}) StoreError) (P : Type 0) → FailsByFlash result → OnOk result P → ByFault result (Unit {0}) P
unless_flash (Ok done) P fails ok = ok
unless_flash (Err (NoSpace free)) P fails ok = absurd (cc)
unless_flash (Err (LastGeneration number)) P fails ok = absurd (cc)
unless_flash (Err NotFound) P fails ok = absurd (cc)
unless_flash (Err Empty) P fails ok = absurd (cc)
unless_flash (Err Flash) P fails ok = tt
unless_flash (Err (Small need)) P fails ok = absurd (cc)

-- a command that is refused makes no change but those that end copies
refused_steps : (old new : StoreView) (command : Command) (refusal : Refusal) → refusal_of old.layout command (stored old) ≡ Some refusal → new.flash.steps ≡ old.flash.steps + copies_of old
    → new.flash.steps ≡ old.flash.steps + (copies_of old + changes_of old.layout command (stored old))
refused_steps old new command refusal refused same =
    let none : changes_of old.layout command (stored old) ≡ 0 = changes_of-refused old.layout command (stored old) refusal refused in
    omega arith

-- a write that is taken makes as many changes as are left once it has begun
write_steps : (old mid : StoreView) (id : ℕ) (bytes slots : List ℕ) (kept : Option (List ℕ × ℕ)) → mid.layout ≡ old.layout → get (stored old) id ≡ kept →
    mid.pending ≡ Writing id bytes slots (is_some kept) 0
    → refusal_of old.layout (Write id bytes) (stored old) ≡ None → changes_left mid.layout mid.pending ≡ changes_of old.layout (Write id bytes) (stored old)
write_steps old mid id bytes slots kept equivalent is pending taken =
    ap (changes_left mid.layout) pending ∙ ap (λ (l : Layout). changes_left l (Writing id bytes slots (is_some kept) 0)) equivalent ∙ by_kept kept is
  where
    by_kept : (o : Option (List ℕ × ℕ)) → get (stored old) id ≡ o → changes_left old.layout (Writing id bytes slots (is_some o) 0) ≡ changes_of old.layout (Write id bytes) (stored old)
    by_kept None none = (omega arith) ∙ sym (changes_of-new old.layout id bytes (stored old) taken none)
    by_kept (Some x) some = (omega arith) ∙ sym (changes_of-over old.layout id bytes (stored old) x taken some)

clear_steps : (old mid : StoreView) (id : ℕ) → mid.pending ≡ Clearing id → refusal_of old.layout (Clear id) (stored old) ≡ None
    → changes_left mid.layout mid.pending ≡ changes_of old.layout (Clear id) (stored old)
clear_steps old mid id pending taken = ap (changes_left mid.layout) pending ∙ sym (changes_of-clear old.layout id (stored old) taken)

-- what a whole command leaves

finish_cause : (before mid after : ℕ) (result : Result (Unit {0}) StoreError) → FailsByFlash result → mid ≡ before → HasFaultsOf mid after result → HasFaultsOf before after result
finish_cause before mid after result fails same cause = subst (λ (n : ℕ). HasFaultsOf n after result) same cause

changes_begun : (tells : Type 0) (old mid new : StoreView) (command : Command) (x : Unit {0}) (result : Result (Unit {0}) StoreError) →
    OnlyStarts tells old mid (Ok x) → IsFinished tells mid new result
    → (tells → map_at_end mid.layout mid.pending (stored mid) ≡ after old.layout command (stored old))
    → (tells → changes_left mid.layout mid.pending ≡ changes_of old.layout command (stored old)) → Changes tells old new command result
changes_begun tells old mid new command x result starts finished end left = let over = finished.over in record {
  crash = λ told.
      begun_then old mid new (after old.layout command (stored old)) (map_at_end mid.layout mid.pending (stored mid)) (starts.kept told) starts.equivalent (end told) (finished.crash told);
  steps = λ told.
      unless_flash result (new.flash.steps ≡ old.flash.steps + (copies_of old + changes_of old.layout command (stored old))) finished.error
      (on_ok_weaker result (λ took. in_all mid.flash.steps new.flash.steps old.flash.steps (copies_of old) (changes_left mid.layout mid.pending)
      (changes_of old.layout command (stored old)) (starts.ended told) took (left told))
      finished.steps);
  few = λ told. few_in_all mid.flash.steps new.flash.steps old.flash.steps (changes_left mid.layout mid.pending) (changes_of old.layout command (stored old))
      (starts.few told) finished.at_most (left told);
  at_most = λ told.
      at_most_in_all mid.flash.steps new.flash.steps old.flash.steps (copies_of old) (changes_left mid.layout mid.pending)
      (changes_of old.layout command (stored old)) (starts.at_most told) finished.at_most (left told);
  over = record {
    doubt = over.doubt;
    idle = over.idle;
    equivalent = equivalent_then old mid new starts.equivalent over.equivalent;
    power = loses_then old.flash mid.flash new.flash starts.ends.same_power starts.ends.later over.power;
    powered = over.powered;
    cause = finish_cause old.flash.faults mid.flash.faults new.flash.faults result finished.error starts.cause over.cause;
    ends = ends_then old.flash mid.flash new.flash x result starts.cause starts.ends over.ends;
  };
}
  where
    few_in_all : (m n o l all : ℕ) → m ≤ o + 1 → n ≤ m + l → l ≡ all → n ≤ o + 1 + all
    few_in_all m n o l all started made is = omega arith

    in_all : (m n o c l all : ℕ) → m ≡ o + c → n ≡ m + l → l ≡ all → n ≡ o + (c + all)
    in_all m n o c l all started made is = omega arith

    at_most_in_all : (m n o c l all : ℕ) → m ≤ o + c → n ≤ m + l → l ≡ all → n ≤ o + (c + all)
    at_most_in_all m n o c l all started made is = omega arith

-- a start that was refused or failed
changes_refused : (tells : Type 0) (old new : StoreView) (command : Command) (error : StoreError) → OnlyStarts tells old new (Err error)
    → (tells → ByFault {T = Unit {0}} (Err error) (Unit {0}) (new.flash.steps ≡ old.flash.steps + (copies_of old + changes_of old.layout command (stored old))))
    → ByFault {T = Unit {0}} (Err error) (IsInDoubt new) (IsReady new) → new.pending ≡ Idle → Changes tells old new command (Err error)
changes_refused tells old new command error starts steps doubt idle = record {
  crash = λ told. kept_or_made old new (after old.layout command (stored old)) (starts.kept told);
  steps = steps;
  few = λ told. let few = starts.few told in omega arith;
  at_most = λ told. let few = starts.at_most told in omega arith;
  over = record { doubt = doubt; idle = idle; equivalent = starts.equivalent; power = starts.power; powered = tt; cause = starts.cause; ends = starts.ends };
}

pub write_refused : (tells : Type 0) (old new : StoreView) (id : ℕ) (bytes : List ℕ) (error : StoreError) → OnlyStarts tells old new (Err error)
    → (tells → RefusesWrite old new id bytes error) → Changes tells old new (Write id bytes) (Err error)
write_refused tells old new id bytes (NoSpace free) starts answer =
    changes_refused tells old new (Write id bytes) (NoSpace free) starts
    (λ told. refused_steps old new (Write id bytes) no_space (answer told).0 (starts.ended told)) starts.doubt starts.doubt.idle
write_refused tells old new id bytes (LastGeneration number) starts answer =
    changes_refused tells old new (Write id bytes) (LastGeneration number) starts
    (λ told. refused_steps old new (Write id bytes) Failed (answer told).0 (starts.ended told)) starts.doubt starts.doubt.idle
write_refused tells old new id bytes NotFound starts answer = changes_refused tells old new (Write id bytes) NotFound starts (λ told. absurd (answer told)) starts.doubt starts.doubt.idle
write_refused tells old new id bytes Empty starts answer = changes_refused tells old new (Write id bytes) Empty starts (λ told. absurd (answer told)) starts.doubt starts.doubt.idle
write_refused tells old new id bytes Flash starts answer = changes_refused tells old new (Write id bytes) Flash starts (λ told. tt) starts.doubt starts.doubt.idle
write_refused tells old new id bytes (Small need) starts answer = changes_refused tells old new (Write id bytes) (Small need) starts (λ told. absurd (answer told)) starts.doubt starts.doubt.idle

pub clear_refused : (tells : Type 0) (old new : StoreView) (id : ℕ) (error : StoreError) → OnlyStarts tells old new (Err error)
    → (tells → RefusesClear old new id error) → Changes tells old new (Clear id) (Err error)
clear_refused tells old new id (NoSpace free) starts answer = changes_refused tells old new (Clear id) (NoSpace free) starts (λ told. absurd (answer told)) starts.doubt starts.doubt.idle
clear_refused tells old new id (LastGeneration number) starts answer = changes_refused tells old new (Clear id) (LastGeneration number) starts
    (λ told. absurd (answer told)) starts.doubt starts.doubt.idle
clear_refused tells old new id NotFound starts answer =
    changes_refused tells old new (Clear id) NotFound starts
    (λ told. refused_steps old new (Clear id) not_found (answer told).0 (starts.ended told)) starts.doubt starts.doubt.idle
clear_refused tells old new id Empty starts answer = changes_refused tells old new (Clear id) Empty starts (λ told. absurd (answer told)) starts.doubt starts.doubt.idle
clear_refused tells old new id Flash starts answer = changes_refused tells old new (Clear id) Flash starts (λ told. tt) starts.doubt starts.doubt.idle
clear_refused tells old new id (Small need) starts answer = changes_refused tells old new (Clear id) (Small need) starts (λ told. absurd (answer told)) starts.doubt starts.doubt.idle

-- a whole write
pub record WriteMade (tells : Type 0) (old new : StoreView) (id : ℕ) (bytes : List ℕ) (result : Result (Unit {0}) StoreError) : Type 0 where
  pub answer : tells → AnswersWrite old new id bytes result
  pub placed : OnOk result (tells → StandsIn old.layout new.flash.told.image id (slots_for old (length bytes)))
  pub leaves : Changes tells old new (Write id bytes) result

pub write_made : (tells : Type 0) (old mid new : StoreView) (id : ℕ) (bytes : List ℕ) (x : Unit {0}) (result : Result (Unit {0}) StoreError) → OnlyStarts tells old mid (Ok x)
    → (tells → StartsWrite old mid id bytes (Ok x)) → (tells → slots_for mid (length bytes) ≡ slots_for old (length bytes)) → IsFinished tells mid new result
    → WriteMade tells old new id bytes result
write_made tells old mid new id bytes x result starts begun slots finished = record {
  answer = λ told.
      write_answers old new id bytes result finished.error (begun told).0 (on_ok_weaker result (λ made. made told ∙ end told) finished.made);
  placed = on_ok_weaker result (λ placed told.
      subst (λ (l : Layout). StandsIn l new.flash.told.image id (slots_for old (length bytes))) starts.equivalent.layout
      (subst (λ (xs : List ℕ). StandsIn mid.layout new.flash.told.image id xs) (slots told)
      (subst (λ (p : Pending). PlacedAtEnd mid.layout p new.flash.told.image) (begun told).1 (placed told)))) finished.placed;
  leaves = changes_begun tells old mid new (Write id bytes) x result starts finished end
      (λ told. write_steps old mid id bytes (slots_for mid (length bytes)) (get (stored old) id) starts.equivalent.layout refl (begun told).1 (begun told).0);
}
  where
    end : tells → map_at_end mid.layout mid.pending (stored mid) ≡ after old.layout (Write id bytes) (stored old)
    end told =
        write_end old mid id bytes (slots_for mid (length bytes)) (is_some (get (stored old) id)) (begun told).1 (kept_map old mid (starts.kept told) starts.equivalent) (begun told).0

-- a whole clear
pub record ClearMade (tells : Type 0) (old new : StoreView) (id : ℕ) (result : Result (Unit {0}) StoreError) : Type 0 where
  pub answer : tells → AnswersClear old new id result
  pub leaves : Changes tells old new (Clear id) result

pub clear_made : (tells : Type 0) (old mid new : StoreView) (id : ℕ) (x : Unit {0}) (result : Result (Unit {0}) StoreError) → OnlyStarts tells old mid (Ok x)
    → (tells → StartsClear old mid id (Ok x)) → IsFinished tells mid new result
    → ClearMade tells old new id result
clear_made tells old mid new id x result starts begun finished = record {
  answer = λ told.
      clear_answers old new id result finished.error (begun told).0 (on_ok_weaker result (λ made. made told ∙ end told) finished.made);
  leaves = changes_begun tells old mid new (Clear id) x result starts finished end
      (λ told. clear_steps old mid id (begun told).1 (begun told).0);
}
  where
    end : tells → map_at_end mid.layout mid.pending (stored mid) ≡ after old.layout (Clear id) (stored old)
    end told = clear_end old mid id (begun told).1 (kept_map old mid (starts.kept told) starts.equivalent) (begun told).0

-- the reads of a whole command are those of its start
pub finish_reads : (more : Unit {0} → ℕ → ℕ) (old mid new : StoreView) (x : Unit {0}) (result : Result (Unit {0}) StoreError) → TakesReads more old mid (Ok x) → FailsByFlash result
    → new.flash.reads ≡ mid.flash.reads → TakesReads more old new result
finish_reads more old mid new x (Ok done) started fails same = same ∙ started
finish_reads more old mid new x (Err (NoSpace free)) started fails same = absurd (cc)
finish_reads more old mid new x (Err (LastGeneration number)) started fails same = absurd (cc)
finish_reads more old mid new x (Err NotFound) started fails same = absurd (cc)
finish_reads more old mid new x (Err Empty) started fails same = absurd (cc)
finish_reads more old mid new x (Err Flash) started fails same = tt
finish_reads more old mid new x (Err (Small need)) started fails same = absurd (cc)
