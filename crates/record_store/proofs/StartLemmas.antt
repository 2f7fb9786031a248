-- What a write begins with, from the lists.
use Rattle.std.proofs.Common.{◌≡◌, ℕ, zero, suc, ◌+◌, ◌*◌, ◌-◌, ◌<◌, ◌≤◌, Bool, true, false, List, [], ◌∷◌, length, take, drop, get_or, cond, Option, Some}
use Rattle.std.proofs.Common.{None, refl, sym, ap, subst, ◌∙◌, arith, inl, inr, length-drop}
use Rattle.std.specs.Prelude.{◌==◌, ◌||◌, is_some}
use Rattle.std.specs.List.{list_any}
use Rattle.std.specs.FinMap.{get}
use Rattle.std.proofs.Math.ListN.{set}
use Rattle.std.proofs.lemmas.Bool.{cases_eq}
use Rattle.std.proofs.lemmas.List.{get_or-set_other, get_or-set_same, length-take}
use Rattle.std.specs.Prelude.{nat_lt}
use Rattle.std.proofs.lemmas.Bool.{ne_eqb, cond-true, cond-false, eq-eqb, both_ways, ltb-false}
use Rattle.flash_model.specs.declared.geometry.Geometry.{Geometry}
use Rattle.flash_model.specs.Layouts.{layout_of}
use Rattle.base_model.specs.Flash.{FlashState}
use Rattle.base_model.specs.Layout.{Layout, room_of, reach_of}
use Rattle.record_model.specs.Records.{Entry, Stored, slot_at, tail_at, entry_at, parts_of, part_len, parts_in, is_reserved, AreDistinct, AreBelow, tail_mark}
use Rattle.record_model.specs.RecordMap.{Write, Failed, NoSpace as no_space, LAST_GENERATION, refusal_of, next_generation}
use Rattle.record_model.specs.Plan as planned
use Rattle.record_model.specs.Plan.{Plan, StandsAtStage, made_at, made_in_slot, made_in_further, first_step}
use Rattle.record_model.proofs.RefusalLemmas.{write_at_last, write_new_no_space, write_new_taken, write_over_no_space, write_over_taken}
use Rattle.record_model.proofs.StepLemmas.{first_stage, first_stage_stands}
use Rattle.record_store.specs.Drafts.{IsDraft, plan_of, marked_in}
use Rattle.record_store.specs.declared.draft.Draft.{Draft}
use Rattle.record_store.proofs.Next.{plan_slots}
use Rattle.record_slots.specs.declared.found.Found.{Found}
use Rattle.record_slots.specs.declared.found.SlotOf.{SlotOf}
use Rattle.record_slots.proofs.TakenLemmas.{rising_distinct, distinct_take}
use Rattle.record_store.specs.Index.{IsListing, IsPlaceFound}
use Rattle.record_store.specs.Store.{records_of}
use Rattle.record_store.specs.Kept.{KnowsSlots}
use Rattle.record_store.specs.Start.{AreMarks, IsOver, IsPlanned, generation_over, slots_needed}
use Rattle.record_store.proofs.AnswerLemmas.{place_stored, no_place_stored}
use Rattle.record_store.proofs.CountLemmas.{free_and_stored}
use Rattle.record_store.proofs.PartLemmas.{parts_of_len}
use Rattle.record_store.proofs.ReadLemmas.{HasRead}
use Rattle.record_store.proofs.StoreLemmas.{unfold_stored}
use Rattle.record_store.proofs.WorkLemmas.{large_slot}
use Rattle.record_store.proofs.Words.{TakesFree}

-- the marks of the first slots were looked at
pub record HasMarks (tells : Type 0) (slot_size n : ℕ) (old now : FlashState) (slots : List ℕ) (marks : List Bool) : Type 0 where
  pub four : length marks ≡ 4
  pub reads : HasRead tells (2 * n) old now
  pub marked : tells → AreMarks slot_size old.told.image n slots marks

pub marks_more : (slot_size n : ℕ) (image : List ℕ) (slots : List ℕ) (marks : List Bool) (mark : Bool) → n < length marks → AreMarks slot_size image n slots marks
    → mark ≡ (tail_at image (get_or slots n 0 * slot_size) slot_size == tail_mark) → AreMarks slot_size image (n + 1) slots (set marks n mark)
marks_more slot_size n image slots marks mark within had is i h = elim (cases_eq i n) [
  | inl here ↦
      ap (λ (k : ℕ). get_or (set marks n mark) k false) here ∙ get_or-set_same marks n mark false within ∙ is
      ∙ ap (λ (k : ℕ). tail_at image (get_or slots k 0 * slot_size) slot_size == tail_mark) (sym here)
  | inr apart ↦ get_or-set_other marks n i mark false apart ∙ had i (omega arith)
]

-- the first free slots were taken
pub record HasTaken (n : ℕ) (free slots : List ℕ) : Type 0 where
  pub four : length slots ≡ 4
  pub taken : (i : ℕ) → i < n → get_or slots i 0 ≡ get_or free i 0

pub slots_more : (slots free : List ℕ) (n slot : ℕ) → n < length slots → ((i : ℕ) → i < n → get_or slots i 0 ≡ get_or free i 0) → slot ≡ get_or free n 0
    → (i : ℕ) → i < n + 1 → get_or (set slots n slot) i 0 ≡ get_or free i 0
slots_more slots free n slot within had is i h = elim (cases_eq i n) [
  | inl here ↦ ap (λ (k : ℕ). get_or (set slots n slot) k 0) here ∙ get_or-set_same slots n slot 0 within ∙ is ∙ ap (λ (k : ℕ). get_or free k 0) (sym here)
  | inr apart ↦ get_or-set_other slots n i slot 0 apart ∙ had i (omega arith)
]

-- The slots of a plan

below_front : (slots n : ℕ) (xs : List ℕ) → ((i : ℕ) → i < length xs → get_or xs i 0 < slots) → AreBelow slots (take n xs)
below_front slots zero xs each = tt
below_front slots (suc n) [] each = tt
below_front slots (suc n) (x ∷ xs) each = (each 0 (omega arith), below_front slots n xs (λ i h. each (suc i) (omega arith)))

same_front : (n : ℕ) (xs ys : List ℕ) → n ≤ length xs → n ≤ length ys → ((i : ℕ) → i < n → get_or xs i 0 ≡ get_or ys i 0) → take n xs ≡ take n ys
same_front zero xs ys h l same = refl
same_front (suc n) [] ys h l same = absurd (omega arith)
same_front (suc n) (x ∷ xs) [] h l same = absurd (omega arith)
same_front (suc n) (x ∷ xs) (y ∷ ys) h l same = cc (same 0 (omega arith), same_front n xs ys (omega arith) (omega arith) (λ i k. same (suc i) (omega arith)))

-- the plan takes the free slots of least number
planned_parts : (tells : Type 0) (geometry : Geometry) (found : Found) (image : List ℕ) (draft : Draft) (replaced : Option SlotOf) → IsPlanned tells geometry found image draft replaced
    → draft.parts ≤ length found.free.items
planned_parts tells geometry found image draft None is = let all : draft.parts + 1 ≤ length found.free.items = is.enough in omega arith
planned_parts tells geometry found image draft (Some place) is = is.enough

pub planned_takes : (tells : Type 0) (geometry : Geometry) (found : Found) (image : List ℕ) (len : ℕ) (draft : Draft) (replaced : Option SlotOf) → IsPlanned tells geometry found image draft replaced
    → draft.len ≡ len → 128 ≤ len → len ≤ reach_of (geometry.slot_size - 64) → TakesFree found draft
planned_takes tells geometry found image len draft replaced is long least most =
    let parts = parts_of_len geometry len least most in
    let enough = planned_parts tells geometry found image draft replaced is in
    let four = is.four in
    let counted : draft.parts ≡ parts_of (geometry.slot_size - 64) len = is.parts ∙ ap (parts_of (geometry.slot_size - 64)) long in
    (enough, plan_slots draft.slots draft.parts (omega arith) (omega arith) ∙ same_front draft.parts draft.slots found.free.items (omega arith) enough is.taken)

pub planned_draft : (tells : Type 0) (geometry : Geometry) (found : Found) (image bytes : List ℕ) (draft : Draft) (replaced : Option SlotOf)
    → IsPlanned tells geometry found image draft replaced → draft.len ≡ length bytes → IsListing geometry.slots geometry.slot_size found → 128 ≤ length bytes →
    length bytes ≤ reach_of (geometry.slot_size - 64)
    → IsDraft geometry draft bytes
planned_draft tells geometry found image bytes draft replaced is long listing least most =
    let parts = parts_of_len geometry (length bytes) least most in
    let takes = planned_takes tells geometry found image (length bytes) draft replaced is long least most in
    let enough : draft.parts ≤ length found.free.items = takes.0 in
    let four = is.four in
    let counted : draft.parts ≡ parts_of (geometry.slot_size - 64) (length bytes) = is.parts ∙ ap (parts_of (geometry.slot_size - 64)) long in
    let front = length-take (draft.parts - 1) (drop 1 draft.slots) in
    let behind = length-drop 1 draft.slots in
    let some : 1 ≤ draft.parts = omega arith in
    let few : draft.parts ≤ 4 = omega arith in
    let distinct = distinct_take draft.parts found.free.items (rising_distinct found.free.items listing.free.rising) in
    let below = subst (λ (xs : List ℕ). AreBelow geometry.slots xs) (sym takes.1) (below_front geometry.slots draft.parts found.free.items listing.free.within) in
    record {
      plan = record {
        names = record { least = least; most = most; counted = omega arith; few = omega arith; below = below.1 };
        allowed = is.allowed;
        distinct = subst (λ (xs : List ℕ). AreDistinct xs) (sym takes.1) distinct;
        id = is.id_fits;
        generation = is.generation_fits;
      };
      len = sym long;
      parts = counted;
      some = some;
      few = few;
      below = λ i h. subst (λ (n : ℕ). n < geometry.slots) (sym (is.taken i h)) (listing.free.within i (omega arith));
    }

-- the marks of the plan are those that stand
mark_of : (slots : List ℕ) (marks : List Bool) (parts n : ℕ) (mark : ℕ → Bool) → parts ≤ length marks → ((i : ℕ) → i < parts → get_or marks i false ≡ mark (get_or slots i 0))
    → list_any (λ m. n == m) (take parts slots) ≡ true → marked_in slots marks n ≡ mark n
mark_of slots marks zero n mark long each any = absurd (both_ways false refl any)
mark_of [] marks (suc parts) n mark long each any = absurd (both_ways false refl any)
mark_of (x ∷ slots) [] (suc parts) n mark long each any = absurd (omega arith)
mark_of (x ∷ slots) (b ∷ marks) (suc parts) n mark long each any = elim (cases_eq n x) [
  | inl here ↦ cond-true {A = Bool} (n == x) b (marked_in slots marks n) (eq-eqb n x here) ∙ each 0 (omega arith) ∙ ap mark (sym here)
  | inr apart ↦
      cond-false {A = Bool} (n == x) b (marked_in slots marks n) (ne_eqb n x apart)
      ∙ mark_of slots marks parts n mark (omega arith) (λ i h. each (suc i) (omega arith)) (behind (n == x) (ne_eqb n x apart) any)
]
  where
    behind : (a : Bool) → a ≡ false → (a || list_any (λ m. n == m) (take parts slots)) ≡ true → list_any (λ m. n == m) (take parts slots) ≡ true
    behind true e h = absurd (both_ways true e refl)
    behind false e h = h

pub planned_stands : (tells : Type 0) (geometry : Geometry) (found : Found) (image bytes : List ℕ) (draft : Draft) (replaced : Option SlotOf)
    → IsPlanned tells geometry found image draft replaced → draft.len ≡ length bytes → 128 ≤ length bytes → length bytes ≤ reach_of (geometry.slot_size - 64) → tells
    → StandsAtStage (layout_of geometry) (plan_of draft bytes) image (first_stage (plan_of draft bytes))
unfolding slot_at
planned_stands tells geometry found image bytes draft replaced is long least most told =
    let parts = parts_of_len geometry (length bytes) least most in
    let four = is.four in
    let four_marks = is.four_marks in
    let counted : draft.parts ≡ parts_of (geometry.slot_size - 64) (length bytes) = is.parts ∙ ap (parts_of (geometry.slot_size - 64)) long in
    first_stage_stands (layout_of geometry) (plan_of draft bytes) image
    (λ n any. sym (mark_of draft.slots draft.marked draft.parts n (λ k. tail_at image (k * geometry.slot_size) geometry.slot_size == tail_mark) (omega arith) (is.marks told)
    (subst (λ (xs : List ℕ). list_any (λ m. n == m) xs ≡ true) (plan_slots draft.slots draft.parts (omega arith) (omega arith)) any)))

-- no change is made at the first stage
none_further : (per_slot room size n : ℕ) → n ≡ 0 → made_in_further per_slot room size n ≡ 0
unfolding made_in_further
none_further per_slot room size n is = subst (λ (m : ℕ). made_in_further per_slot room size m ≡ 0) (sym is) refl

none_in_slot : (per_slot len : ℕ) (marked : Bool) → made_in_slot per_slot len (first_step marked) ≡ 0
none_in_slot per_slot len true = refl
none_in_slot per_slot len false = refl

pub first_made : (layout : Layout) (plan : Plan) → made_at layout plan (first_stage plan) ≡ 0
first_made layout plan = by_choice (nat_lt 0 (length plan.further)) refl
  where
    room : ℕ
    room = layout.slot_size - 64

    size : ℕ
    size = length plan.body

    by_choice : (b : Bool) → nat_lt 0 (length plan.further) ≡ b
        → made_at layout plan (cond b (planned.Fill 1 (first_step (plan.marked (get_or plan.further 0 0)))) (planned.Fill 0 (first_step (plan.marked plan.first)))) ≡ 0
    by_choice true more =
        let further = none_further layout.per_slot room size 0 refl in
        let slot = none_in_slot layout.per_slot (part_len room size 1) (plan.marked (get_or plan.further 0 0)) in
        omega arith
    by_choice false none =
        let few : length plan.further ≤ 0 = ltb-false 0 (length plan.further) none in
        let further = none_further layout.per_slot room size (length plan.further) (omega arith) in
        let slot = none_in_slot layout.per_slot (part_len room size 0) (plan.marked plan.first) in
        omega arith

-- The refusals, and the map

allowed_new : (geometry : Geometry) (found : Found) (image : List ℕ) → IsListing geometry.slots geometry.slot_size found → KnowsSlots (layout_of geometry) image
    found → length image ≡ geometry.slot_size * geometry.slots
    → length found.free.items + parts_in (room_of (layout_of geometry)) (records_of (layout_of geometry) image) ≡ geometry.slots
allowed_new geometry found image listing known sized = free_and_stored geometry.slot_size geometry.slots image found (large_slot geometry) sized known.only known.list

none_stored_at : (geometry : Geometry) (image : List ℕ) (id : ℕ) → IsPlaceFound (entry_at geometry.slot_size geometry.slots image) geometry.slots id None →
    get (records_of (layout_of geometry) image) id ≡ None
none_stored_at geometry image id none =
    ap (λ (s : Stored). get s id) (unfold_stored geometry.slot_size geometry.slots image) ∙ no_place_stored (entry_at geometry.slot_size geometry.slots image) geometry.slots id none

some_stored_at : (geometry : Geometry) (image : List ℕ) (id : ℕ) (place : SlotOf) → IsPlaceFound (entry_at geometry.slot_size geometry.slots image) geometry.slots id (Some place)
    → (body : List ℕ) × (get (records_of (layout_of geometry) image) id ≡ Some (body, place.generation))
some_stored_at geometry image id place here =
    let had = place_stored (entry_at geometry.slot_size geometry.slots image) geometry.slots id place here in
    ((had.0).body, ap (λ (s : Stored). get s id) (unfold_stored geometry.slot_size geometry.slots image) ∙ (had.1).stored)

pub planned_generation : (geometry : Geometry) (image : List ℕ) (id : ℕ) (replaced : Option SlotOf) → IsPlaceFound (entry_at geometry.slot_size geometry.slots image) geometry.slots id replaced
    → generation_over replaced ≡ next_generation (get (records_of (layout_of geometry) image) id)
planned_generation geometry image id None here = sym (ap next_generation (none_stored_at geometry image id here))
planned_generation geometry image id (Some place) here = sym (ap next_generation (some_stored_at geometry image id place here).1)

pub planned_replaces : (geometry : Geometry) (image : List ℕ) (id : ℕ) (replaced : Option SlotOf) → IsPlaceFound (entry_at geometry.slot_size geometry.slots image) geometry.slots id replaced
    → is_some replaced ≡ is_some (get (records_of (layout_of geometry) image) id)
planned_replaces geometry image id None here = sym (ap is_some (none_stored_at geometry image id here))
planned_replaces geometry image id (Some place) here = sym (ap is_some (some_stored_at geometry image id place here).1)

-- a record that is replaced has a lesser generation
pub planned_newest : (geometry : Geometry) (found : Found) (image : List ℕ) (id : ℕ) (replaced : Option SlotOf) → KnowsSlots (layout_of geometry) image found
    → IsPlaceFound (entry_at geometry.slot_size geometry.slots image) geometry.slots id replaced
    → (k : ℕ) (e : Entry) → k < geometry.slots → entry_at geometry.slot_size geometry.slots image k ≡ Some e → e.id ≡ id → e.generation < generation_over replaced
planned_newest geometry found image id None known here k e h at_k is = absurd (here k e h at_k is)
planned_newest geometry found image id (Some place) known here k e h at_k is =
    let most : e.generation ≤ (here.chosen).generation = (here.is).greatest k e h at_k (is ∙ sym here.of_id) in
    let same : (here.chosen).generation ≡ place.generation = here.generation in
    omega arith

-- the map takes the record of a plan
pub planned_taken : (tells : Type 0) (geometry : Geometry) (found : Found) (image bytes : List ℕ) (draft : Draft) (replaced : Option SlotOf)
    → IsPlanned tells geometry found image draft replaced → draft.len ≡ length bytes → IsListing geometry.slots geometry.slot_size found →
    KnowsSlots (layout_of geometry) image found → length image ≡ geometry.slot_size * geometry.slots
    → refusal_of (layout_of geometry) (Write draft.id bytes) (records_of (layout_of geometry) image) ≡ None
planned_taken tells geometry found image bytes draft None is long listing known sized =
    let all = allowed_new geometry found image listing known sized in
    let enough : draft.parts + 1 ≤ length found.free.items = is.enough in
    let counted : draft.parts ≡ parts_of (geometry.slot_size - 64) (length bytes) = is.parts ∙ ap (parts_of (geometry.slot_size - 64)) long in
    write_new_taken (layout_of geometry) (length found.free.items) draft.id bytes (records_of (layout_of geometry) image) is.allowed
    (none_stored_at geometry image draft.id (is.over.place (entry_at geometry.slot_size geometry.slots image) known.list)) all (omega arith)
planned_taken tells geometry found image bytes draft (Some place) is long listing known sized =
    let all = allowed_new geometry found image listing known sized in
    let enough : draft.parts ≤ length found.free.items = is.enough in
    let counted : draft.parts ≡ parts_of (geometry.slot_size - 64) (length bytes) = is.parts ∙ ap (parts_of (geometry.slot_size - 64)) long in
    let had = some_stored_at geometry image draft.id place (is.over.place (entry_at geometry.slot_size geometry.slots image) known.list) in
    write_over_taken (layout_of geometry) (length found.free.items) draft.id place.generation bytes had.0 (records_of (layout_of geometry) image) is.allowed had.1 is.over.not_last all (omega arith)

pub refused_no_space : (geometry : Geometry) (found : Found) (image : List ℕ) (id free : ℕ) (bytes : List ℕ) (replaced : Option SlotOf) → is_reserved id ≡ false → IsOver geometry found id replaced
    → free ≡ length found.free.items → free < slots_needed (parts_of (geometry.slot_size - 64) (length bytes)) replaced
    → IsListing geometry.slots geometry.slot_size found → KnowsSlots (layout_of geometry) image found → length image ≡ geometry.slot_size * geometry.slots
    → (refusal_of (layout_of geometry) (Write id bytes) (records_of (layout_of geometry) image) ≡ Some no_space)
    × (free + parts_in (room_of (layout_of geometry)) (records_of (layout_of geometry) image) ≡ geometry.slots)
refused_no_space geometry found image id free bytes None allowed over is few listing known sized =
    let all = allowed_new geometry found image listing known sized in
    let counted : free + parts_in (room_of (layout_of geometry)) (records_of (layout_of geometry) image) ≡ geometry.slots = omega arith in (
      write_new_no_space (layout_of geometry) free id bytes (records_of (layout_of geometry) image) allowed
          (none_stored_at geometry image id (over.place (entry_at geometry.slot_size geometry.slots image) known.list)) counted few,
      counted,
    )
refused_no_space geometry found image id free bytes (Some place) allowed over is few listing known sized =
    let all = allowed_new geometry found image listing known sized in
    let counted : free + parts_in (room_of (layout_of geometry)) (records_of (layout_of geometry) image) ≡ geometry.slots = omega arith in
    let had = some_stored_at geometry image id place (over.place (entry_at geometry.slot_size geometry.slots image) known.list) in
    (write_over_no_space (layout_of geometry) free id place.generation bytes had.0 (records_of (layout_of geometry) image) allowed had.1 over.not_last counted few, counted)

pub refused_at_last : (geometry : Geometry) (image : List ℕ) (id : ℕ) (bytes : List ℕ) (place : SlotOf) → is_reserved id ≡ false → place.generation ≡ LAST_GENERATION
    → IsPlaceFound (entry_at geometry.slot_size geometry.slots image) geometry.slots id (Some place)
    → (refusal_of (layout_of geometry) (Write id bytes) (records_of (layout_of geometry) image) ≡ Some Failed)
    × ((body : List ℕ) × (get (records_of (layout_of geometry) image) id ≡ Some (body, LAST_GENERATION)))
refused_at_last geometry image id bytes place allowed last here =
    let had = some_stored_at geometry image id place here in
    let at_last : get (records_of (layout_of geometry) image) id ≡ Some (had.0, LAST_GENERATION) = had.1 ∙ ap (λ (n : ℕ). Some (had.0, n)) last in
    (write_at_last (layout_of geometry) id bytes had.0 (records_of (layout_of geometry) image) allowed at_last, (had.0, at_last))
