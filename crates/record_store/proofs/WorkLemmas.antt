-- What each change of what is pending makes of the slots and of the map.
use Rattle.std.proofs.Common.{◌≡◌, ◌≢◌, ◌⊎◌, ℕ, zero, suc, ◌+◌, ◌-◌, ◌*◌, ◌<◌, ◌≤◌, Bool, true, false, cond, nat_eq, not, List, [], ◌∷◌, length, take, drop}
use Rattle.std.proofs.Common.{get_or, Option, Some, None, refl, sym, ap, subst, ◌∙◌, arith, inl, inr, length-drop}
use Rattle.std.specs.Prelude.{is_some, IfSome, ◌&&◌}
use Rattle.std.specs.FinMap.{get, insert, remove}
use Rattle.std.proofs.lemmas.Bool.{cases_eq, cond-true, cond-false, eq-eqb, ne_eqb}
use Rattle.std.proofs.lemmas.List.{length-take}
use Rattle.std.proofs.lemmas.Option.{none-some, same_Some}
use Rattle.base_model.specs.Bytes.{SameOutside, number_at}
use Rattle.base_model.proofs.BytesLemmas.{SameOutside-wider, SameOutside-refl, SameOutside-none}
use Rattle.flash_model.specs.declared.geometry.Geometry.{Geometry}
use Rattle.flash_model.specs.Layouts.{layout_of}
use Rattle.base_model.specs.Flash.{Told, Leaves, MayChange, IsErased}
use Rattle.base_model.specs.Layout.{Layout, reach_of}
use Rattle.base_model.proofs.CrashLemmas.{Leaves-weaker, Leaves-exit}
use Rattle.record_model.specs.Records.{Entry, Stored, entry_at, entry_of, slot_at, head_at, is_up, stored_in, parts_of, part_len, is_taken, holds, IsChosen}
use Rattle.record_model.specs.Records.{OnlyFirstUp, NearlyOnlyFirstUp, gate_open, kill_mark}
use Rattle.record_model.proofs.MarkLemmas.{killed_is_not_erased}
use Rattle.record_model.specs.RecordMap.{Write as write, Clear as clear, made_by, next_generation, pieces_of}
use Rattle.record_model.specs.Filling as filling
use Rattle.record_model.specs.Plan as planned
use Rattle.record_model.specs.Plan.{Plan, StandsAtStage, target_of, stage_after, made_in_slot, made_in_further, made_at}
use Rattle.record_model.proofs.BegunLemmas.{length-bytes, length-first}
use Rattle.record_model.proofs.MadeLemmas.{made_before_gate, made_one_more}
use Rattle.record_model.proofs.PlanLemmas.{StaysKnown, Opens, record_for, target_in, gate_only, gate_spare}
use Rattle.record_model.proofs.LiveLemmas.{up_entry, up_gate, free_none, only_single, gate_nearly, killed_others, killed_leaves, down_entry}
use Rattle.record_model.proofs.KillLemmas.{scan_kill, cleared, spare_killed, freed}
use Rattle.record_model.proofs.LeavesLemmas.{old_copy_leaves, clear_leaves}
use Rattle.record_model.proofs.ChosenLemmas.{IsChosen-unique, IsChosen-without}
use Rattle.record_model.proofs.PartsLemmas.{entry_len}
use Rattle.record_model.proofs.SlotLemmas.{slot_at-other, kill_byte, down_by_kill, down_by_gate, differs_only}
use Rattle.record_store.proofs.Here.{four_of}
use Rattle.record_store.specs.Drafts.{IsDraft, IsStage, plan_of, step_of, stage_of}
use Rattle.record_store.specs.declared.draft.Draft.{Draft}
use Rattle.record_store.specs.declared.draft.Step.{Step}
use Rattle.record_store.specs.declared.draft.Stage.{Stage}
use Rattle.record_store.specs.declared.draft.Stage.TheVariants.{Fill, Gate}
use Rattle.record_store.proofs.Next.{number_low}
use Rattle.record_slots.specs.declared.found.Found.{Found}
use Rattle.record_slots.specs.declared.found.SlotOf.{SlotOf}
use Rattle.record_slots.specs.Listed.{IsWithin}
use Rattle.record_slots.proofs.OpenedLemmas.{IsChosen-opened}
use Rattle.record_slots.proofs.SettledLemmas.{kill_can}
use Rattle.record_store.specs.Index.{IsListOf, HasOpened, HasLost, IsEntryOf, IsPlaceFound}
use Rattle.record_store.specs.Store.{Pending, Idle, Writing, records_of, IsAt, map_after, pending_after, changes_before_gate, changes_in_all}
use Rattle.record_store.specs.Kept.{KnowsDraft, KnowsOldCopy, KnowsCleared, IsWrite, HasMade, kept_of, pending_of, work_after, slots_in, opened_place}
use Rattle.record_store.specs.declared.work.Begun.TheVariants.{Nothing, Write, OldCopy, Clear}
use Rattle.record_model.proofs.Words.{DiffersInFreeSlot}
use Rattle.record_store.proofs.Words.{HasItsParts, IsOlderCopy, IsOnlyCopy, MayMake, further_in}

pub large_slot : (geometry : Geometry) → 65 ≤ geometry.slot_size
large_slot geometry = omega (arith, geometry.least_slot)

-- a call for a change leaves what is outside its range
pub MayChange-same : (place len : ℕ) (old new : Told) → MayChange place len old new → SameOutside place len old.image new.image
MayChange-same place len old new change = elim change [
  | inl same ↦ subst (λ (t : Told). SameOutside place len old.image t.image) (sym same) (SameOutside-refl place len old.image)
  | inr some ↦ elim some [
    | inl whole ↦ whole.image
    | inr empty ↦ subst (λ (xs : List ℕ). SameOutside place len old.image xs) (sym (SameOutside-none 0 old.image new.image empty.image)) (SameOutside-refl place len old.image)
  ]
]

-- with only first slots of records upright, at most one is none
pub nearly_of_only : (size slots : ℕ) (image : List ℕ) → OnlyFirstUp size slots image → NearlyOnlyFirstUp size slots image
nearly_of_only size slots image only = record { spare = slots; each = λ k h apart up. only k h up }

pub only_each : (size slots : ℕ) (image : List ℕ) → OnlyFirstUp size slots image → (k : ℕ) → k < slots → is_up (size - 64) slots (slot_at size image k) ≡ true
    → (e : Entry) × IsChosen (entry_at size slots image) slots k e
unfolding entry_at
only_each size slots image only k h up = only k h up

-- The changes before the gate

further_le : (per_slot room size n m : ℕ) → n ≤ m → made_in_further per_slot room size n ≤ made_in_further per_slot room size m
unfolding made_in_further
further_le per_slot room size n zero h = let none : n ≡ 0 = omega arith in let same : made_in_further per_slot room size n ≡ made_in_further per_slot room size
    0 = ap (made_in_further per_slot room size) none in omega arith
further_le per_slot room size n (suc m) h = elim (cases_eq n (suc m)) [
  | inl here ↦ let same : made_in_further per_slot room size n ≡ made_in_further per_slot room size (suc m) = ap (made_in_further per_slot room size) here in omega arith
  | inr below ↦ let less : made_in_further per_slot room size n ≤ made_in_further per_slot room size m = further_le per_slot room size n m (omega arith) in omega arith
]

further_more : (per_slot room size n : ℕ) → made_in_further per_slot room size (suc n) ≡ made_in_further per_slot room size n + (per_slot + 2 + pieces_of (part_len room size (suc n)))
unfolding made_in_further
further_more per_slot room size n = refl

slot_low : (layout : Layout) (len bytes : ℕ) (step : filling.Step) → filling.IsStep layout bytes step → bytes ≡ len → made_in_slot layout.per_slot len step < layout.per_slot + 2 + pieces_of len
slot_low layout len bytes (filling.EraseFromHead done) form is = let h : done < layout.per_slot = form in omega arith
slot_low layout len bytes (filling.EraseFromTail done) form is = let h : done < layout.per_slot = form in omega arith
slot_low layout len bytes filling.PutHead form is = omega arith
slot_low layout len bytes (filling.Piece piece) form is = let h : 256 * piece < bytes = form in omega arith
slot_low layout len bytes filling.TailMark form is = omega arith

pub fill_early : (layout : Layout) (plan : Plan) (number : ℕ) (step : filling.Step) → number ≤ length plan.further → filling.IsStep layout (length (target_of layout plan number).bytes) step
    → made_at layout plan (planned.Fill number step) < made_at layout plan planned.Gate
fill_early layout plan zero step low form =
    let here = slot_low layout (part_len (layout.slot_size - 64) (length plan.body) 0) (length (target_of layout plan 0).bytes) step form (length-first (layout.slot_size - 64) plan.body) in
    omega arith
fill_early layout plan (suc n) step low form =
    let room = layout.slot_size - 64 in
    let here = slot_low layout (part_len room (length plan.body) (suc n)) (length (target_of layout plan (suc n)).bytes) step form (length-bytes room (suc n) plan.body) in
    let one = further_more layout.per_slot room (length plan.body) n in
    let most = further_le layout.per_slot room (length plan.body) (suc n) (length plan.further) low in
    omega arith

-- a change before the gate makes no map and goes on
not_made : (layout : Layout) (id made : ℕ) (bytes slots : List ℕ) (replaces : Bool) (stored : Stored) → made < changes_before_gate layout bytes
    → map_after layout (Writing id bytes slots replaces made) stored ≡ stored
not_made layout id made bytes slots replaces stored low =
    cond-false {A = Stored} (nat_eq made (changes_before_gate layout bytes)) (made_by (write id bytes) stored) stored
    (ne_eqb made (changes_before_gate layout bytes) (λ e. absurd (omega arith)))

goes_on : (layout : Layout) (id made next : ℕ) (bytes slots : List ℕ) (replaces : Bool) → made < changes_before_gate layout bytes → next ≡ made + 1
    → Writing id bytes slots replaces next ≡ pending_after layout (Writing id bytes slots replaces made)
goes_on layout id made next bytes slots replaces low is =
    ap (Writing id bytes slots replaces) is
    ∙ sym (cond-false {A = Pending} (nat_eq (made + 1) (changes_in_all layout bytes replaces)) Idle (Writing id bytes slots replaces (made + 1))
    (ne_eqb (made + 1) (changes_in_all layout bytes replaces) (λ e. more replaces e)))
  where
    more : (b : Bool) → made + 1 ≡ changes_before_gate layout bytes + cond b 2 1 → ⊥
    more true e = absurd (omega arith)
    more false e = absurd (omega arith)

module _ (geometry : Geometry) (buffer : List ℕ) (draft : Draft) (number : ℕ) (step : Step) (replaced : Option SlotOf) where
  abbrev layout : Layout
  layout = layout_of geometry

  abbrev body : List ℕ
  body = take draft.len buffer

  abbrev plan : Plan
  plan = plan_of draft body

  abbrev made : ℕ
  made = made_at layout plan (planned.Fill number (step_of step))

  fill_low : (found : Found) → IsWrite geometry found body draft (Fill number step) replaced → made < changes_before_gate layout body
  fill_low found form =
      let low = number_low geometry draft body number form.planned (form.at).0 in
      let early = fill_early layout plan number (step_of step) low (form.at).1 in
      let gate = made_before_gate layout plan (form.planned).plan in
      omega arith

  pub filled_may : (found : Found) (old new : Told) → IsWrite geometry found body draft (Fill number step) replaced → Leaves old new (StaysKnown layout plan number old.image)
      → MayMake geometry (pending_of layout buffer (Write draft (Fill number step) replaced)) old new
  filled_may found old new form kept =
      Leaves-weaker old new (StaysKnown layout plan number old.image)
      (λ image. (records_of layout image ≡ records_of layout old.image)
      ⊎ (records_of layout image ≡ map_after layout (pending_of layout buffer (Write draft (Fill number step) replaced)) (records_of layout old.image)))
      kept (λ image stays. inl stays.stored)

  pub filled_spare : (old new : Told) → Leaves old new (StaysKnown layout plan number old.image) → NearlyOnlyFirstUp geometry.slot_size geometry.slots new.image
  filled_spare old new kept =
      nearly_of_only geometry.slot_size geometry.slots new.image (Leaves-exit old new (StaysKnown layout plan number old.image) kept).knows.only

  pub filled_made : (tells : Type 0) (found : Found) (next : Stage) (old new : Told) → IsWrite geometry found body draft (Fill number step) replaced
      → (tells → KnowsDraft geometry found old.image body draft (Fill number step) replaced)
      → (tells → Leaves old new (StaysKnown layout plan number old.image)) → IsStage geometry draft body next → stage_of next ≡ stage_after layout plan number (step_of step)
      → (tells → StandsAtStage layout plan new.image (stage_of next))
      → HasMade tells (kept_of geometry found buffer) old.image new.image (Write draft (Fill number step) replaced) (Write draft next replaced)
  filled_made tells found next old new form knows kept next_form is stands =
      let low = fill_low found form in
      let one : made_at layout plan (stage_of next) ≡ made + 1 =
      ap (made_at layout plan) is ∙ made_one_more layout plan number (step_of step) (number_low geometry draft body number form.planned (form.at).0) (form.at).1 in
      record {
        form = record { planned = form.planned; at = next_form; takes = form.takes; over = form.over };
        pending = goes_on layout draft.id made (made_at layout plan (stage_of next)) body (slots_in draft) (is_some replaced) low one;
        knows = λ told.
            let exit = Leaves-exit old new (StaysKnown layout plan number old.image) (kept told) in
            let had = knows told in
            record {
              slots = record {
                list = subst (λ (entry : ℕ → Option Entry). IsListOf entry geometry.slots found) (sym exit.entries) had.slots.list;
                only = (exit.knows).only;
              };
              plan = exit.knows;
              generation = had.generation ∙ ap (λ (s : Stored). next_generation (get s draft.id)) (sym exit.stored);
              over = subst (λ (entry : ℕ → Option Entry). IsPlaceFound entry geometry.slots draft.id replaced) (sym exit.entries) had.over;
              stands = stands told;
            };
        made = λ told.
            (Leaves-exit old new (StaysKnown layout plan number old.image) (kept told)).stored
            ∙ sym (not_made layout draft.id made body (slots_in draft) (is_some replaced) (records_of layout old.image) low);
        placed = λ told late. absurd (omega arith);
      }

-- The gate

gate_counted : (geometry : Geometry) (draft : Draft) (body : List ℕ) → IsDraft geometry draft body → made_at (layout_of geometry) (plan_of draft body)
    planned.Gate ≡ changes_before_gate (layout_of geometry) body
gate_counted geometry draft body is = made_before_gate (layout_of geometry) (plan_of draft body) is.plan

at_gate : (layout : Layout) (id made : ℕ) (bytes slots : List ℕ) (replaces : Bool) (stored : Stored) → made ≡ changes_before_gate layout bytes
    → map_after layout (Writing id bytes slots replaces made) stored ≡ made_by (write id bytes) stored
at_gate layout id made bytes slots replaces stored is =
    cond-true {A = Stored} (nat_eq made (changes_before_gate layout bytes)) (made_by (write id bytes) stored) stored (eq-eqb made (changes_before_gate layout bytes) is)

gate_ends : (layout : Layout) (id made : ℕ) (bytes slots : List ℕ) → made ≡ changes_before_gate layout bytes → Idle ≡ pending_after layout (Writing id bytes slots false made)
gate_ends layout id made bytes slots is =
    sym (cond-true {A = Pending} (nat_eq (made + 1) (changes_in_all layout bytes false)) Idle (Writing id bytes slots false (made + 1))
    (eq-eqb (made + 1) (changes_in_all layout bytes false) (omega arith)))

gate_goes_on : (layout : Layout) (id made : ℕ) (bytes slots : List ℕ) → made ≡ changes_before_gate layout bytes
    → Writing id bytes slots true (changes_before_gate layout bytes + 1) ≡ pending_after layout (Writing id bytes slots true made)
gate_goes_on layout id made bytes slots is =
    ap (λ (n : ℕ). Writing id bytes slots true (n + 1)) (sym is)
    ∙ sym (cond-false {A = Pending} (nat_eq (made + 1) (changes_in_all layout bytes true)) Idle (Writing id bytes slots true (made + 1))
    (ne_eqb (made + 1) (changes_in_all layout bytes true) (λ e. absurd (omega arith))))

-- the map with the record is what a write makes of it
made_is : (id generation : ℕ) (bytes : List ℕ) (stored : Stored) → generation ≡ next_generation (get stored id) → insert stored id (bytes, generation) ≡ made_by (write id bytes) stored
unfolding made_by
made_is id generation bytes stored is = ap (λ (n : ℕ). insert stored id (bytes, n)) is

pub gate_may : (geometry : Geometry) (found : Found) (buffer : List ℕ) (draft : Draft) (replaced : Option SlotOf) (old new : Told) → IsDraft geometry draft (take draft.len buffer)
    → KnowsDraft geometry found old.image (take draft.len buffer) draft Gate replaced
    → Leaves old new (λ image. (stored_in geometry.slot_size geometry.slots image ≡ stored_in geometry.slot_size geometry.slots old.image)
    ⊎ (stored_in geometry.slot_size geometry.slots image ≡ insert (stored_in geometry.slot_size geometry.slots old.image) draft.id (take draft.len buffer, draft.generation)))
    → MayMake geometry (pending_of (layout_of geometry) buffer (Write draft Gate replaced)) old new
gate_may geometry found buffer draft replaced old new is known leaves =
    let layout = layout_of geometry in
    let body = take draft.len buffer in
    Leaves-weaker old new
    (λ image. (records_of layout image ≡ records_of layout old.image) ⊎ (records_of layout image ≡ insert (records_of layout old.image) draft.id (body, draft.generation)))
    (λ image. (records_of layout image ≡ records_of layout old.image)
    ⊎ (records_of layout image ≡ map_after layout (pending_of layout buffer (Write draft Gate replaced)) (records_of layout old.image)))
    leaves
    (λ image either. elim either [
      | inl kept ↦ inl kept
      | inr opened ↦ inr (opened ∙ made_is draft.id draft.generation body (records_of layout old.image) known.generation
          ∙ sym (at_gate layout draft.id (made_at layout (plan_of draft body) planned.Gate) body (slots_in draft) (is_some replaced)
          (records_of layout old.image) (gate_counted geometry draft body is)))
    ])

-- a slot that has a record has its gate open
gate_of : (size slots k : ℕ) (image : List ℕ) (e : Entry) → entry_at size slots image k ≡ Some e → number_at image (k * size) 1 ≡ gate_open
unfolding entry_at slot_at head_at
gate_of size slots k image e here = up_gate (size - 64) slots (slot_at size image k) (up_entry (size - 64) slots (slot_at size image) k e here).1

pub has_opened : (geometry : Geometry) (found : Found) (draft : Draft) (body old new : List ℕ) (stage : Stage) (replaced : Option SlotOf) → KnowsDraft geometry found old body draft stage replaced
    → Opens (layout_of geometry) (plan_of draft body) old new
    → HasOpened (entry_at geometry.slot_size geometry.slots old) (entry_at geometry.slot_size geometry.slots new) geometry.slots (get_or draft.slots 0 0) (record_for (plan_of draft body))
has_opened geometry found draft body old new stage replaced known opens =
    let free = known.plan.free (get_or draft.slots 0 0) (target_in (layout_of geometry) (plan_of draft body) 0 (omega arith)) in
    record {
      same = opens.others;
      free = free_none (entry_at geometry.slot_size geometry.slots old) geometry.slots (get_or draft.slots 0 0) free.0 free.1;
      here = opens.here;
      newest = known.plan.newest;
    }

-- where the record of an opened gate stands
opened_at : (geometry : Geometry) (found : Found) (draft : Draft) (body old new : List ℕ) (stage : Stage) (replaced : Option SlotOf) → KnowsDraft geometry found old body draft stage replaced
    → Opens (layout_of geometry) (plan_of draft body) old new → IsAt (layout_of geometry) new draft.id (get_or draft.slots 0 0) (further_in draft)
opened_at geometry found draft body old new stage replaced known opens =
    let has = has_opened geometry found draft body old new stage replaced known opens in
    let free = known.plan.free (get_or draft.slots 0 0) (target_in (layout_of geometry) (plan_of draft body) 0 (omega arith)) in
    record {
      entry = record_for (plan_of draft body);
      of_id = refl;
      in_further = refl;
      chosen = IsChosen-opened (entry_at geometry.slot_size geometry.slots old) (entry_at geometry.slot_size geometry.slots new) geometry.slots
          (get_or draft.slots 0 0) (record_for (plan_of draft body)) free.0
          has.same has.here has.newest;
    }

-- but for the older record every upright slot is a first one
opened_others : (geometry : Geometry) (found : Found) (draft : Draft) (body old new : List ℕ) (place : SlotOf) → KnowsDraft geometry found old body draft Gate (Some place)
    → Opens (layout_of geometry) (plan_of draft body) old new → SameOutside (get_or draft.slots 0 0 * geometry.slot_size) 1 old new
    → (k : ℕ) → k < geometry.slots → k ≢ place.slot → is_up (geometry.slot_size - 64) geometry.slots (slot_at geometry.slot_size new k) ≡ true
    → (e : Entry) × IsChosen (entry_at geometry.slot_size geometry.slots new) geometry.slots k e
unfolding entry_at
opened_others geometry found draft body old new place known opens same k h aside up =
    let size = geometry.slot_size in
    let slots = geometry.slots in
    let large = large_slot geometry in
    let first = get_or draft.slots 0 0 in
    let free = known.plan.free first (target_in (layout_of geometry) (plan_of draft body) 0 (omega arith)) in
    let wide = SameOutside-wider (first * size) 1 (first * size) size old new (omega arith) (omega arith) same in
    gate_nearly (size - 64) slots (slot_at size old) (slot_at size new) first place.slot (record_for (plan_of draft body)) known.plan.only free.1 free.0
    (λ n other. slot_at-other size first n old new (omega arith) wide other) opens.here known.plan.newest k h aside
    (λ x at_k equal. only_single (size - 64) slots (slot_at size old) known.plan.only k place.slot x known.over.chosen h (known.over.is).within at_k
    (known.over.is).here (equal ∙ sym known.over.of_id)) up

pub gate_made : (tells : Type 0) (geometry : Geometry) (before found : Found) (buffer : List ℕ) (draft : Draft) (replaced : Option SlotOf) (old new : Told)
    → IsWrite geometry before (take draft.len buffer) draft Gate replaced
    → (tells → KnowsDraft geometry before old.image (take draft.len buffer) draft Gate replaced)
    → (tells → Opens (layout_of geometry) (plan_of draft (take draft.len buffer)) old.image new.image)
    → (tells → SameOutside (get_or draft.slots 0 0 * geometry.slot_size) 1 old.image new.image)
    → (tells → IsListOf (entry_at geometry.slot_size geometry.slots new.image) geometry.slots found)
    → HasMade tells (kept_of geometry found buffer) old.image new.image (Write draft Gate replaced) (work_after draft replaced)
gate_made tells geometry before found buffer draft replaced old new form knows opens same list = by_replaced replaced form.over knows
  where
    layout : Layout
    layout = layout_of geometry

    body : List ℕ
    body = take draft.len buffer

    counted : made_at layout (plan_of draft body) planned.Gate ≡ changes_before_gate layout body
    counted = gate_counted geometry draft body form.planned

    made : (o : Option SlotOf) → (tells → KnowsDraft geometry before old.image body draft Gate o) → tells
        → records_of layout new.image ≡ map_after layout (pending_of layout buffer (Write draft Gate o)) (records_of layout old.image)
    made o known told =
        (opens told).stored ∙ made_is draft.id draft.generation body (records_of layout old.image) (known told).generation
        ∙ sym (at_gate layout draft.id (made_at layout (plan_of draft body) planned.Gate) body (slots_in draft) (is_some o) (records_of layout old.image) counted)

    by_replaced : (o : Option SlotOf) → IfSome o (IsWithin geometry.slots geometry.slot_size) → (tells → KnowsDraft geometry before old.image body draft Gate o)
        → HasMade tells (kept_of geometry found buffer) old.image new.image (Write draft Gate o) (work_after draft o)
    by_replaced None within known = record {
      form = tt;
      pending = gate_ends layout draft.id (made_at layout (plan_of draft body) planned.Gate) body (slots_in draft) counted;
      knows = λ told. record {
        list = list told;
        only = gate_only layout (plan_of draft body) old.image new.image (form.planned).plan (known told).plan (known told).stands (same told)
            (gate_of geometry.slot_size geometry.slots (get_or draft.slots 0 0) new.image (record_for (plan_of draft body)) (opens told).here) (known told).over;
      };
      made = made None known;
      placed = λ told late. opened_at geometry before draft body old.image new.image Gate None (known told) (opens told);
    }
    by_replaced (Some place) within known = record {
      form = within;
      pending = gate_goes_on layout draft.id (made_at layout (plan_of draft body) planned.Gate) body (slots_in draft) counted;
      knows = λ told.
          let over = (known told).over in
          let has = has_opened geometry before draft body old.image new.image Gate (Some place) (known told) (opens told) in
          let apart : get_or draft.slots 0 0 ≢ place.slot = λ e. none-some over.chosen (sym has.free ∙ ap (entry_at geometry.slot_size geometry.slots old.image) e ∙ (over.is).here) in
          record {
            list = list told;
            lost = over.chosen;
            here = (opens told).others place.slot (λ e. apart (sym e)) ∙ (over.is).here;
            is = record { of_id = over.of_id; generation = over.generation; len = over.len; further = over.further };
            newer = opened_at geometry before draft body old.image new.image Gate (Some place) (known told) (opens told);
            apart = apart;
            others = opened_others geometry before draft body old.image new.image place (known told) (opens told) (same told);
          };
      made = made (Some place) known;
      placed = λ told late. opened_at geometry before draft body old.image new.image Gate (Some place) (known told) (opens told);
    }

-- whatever is torn as the gate opens, at most one upright slot is not a first one
pub gate_nearly_only : (geometry : Geometry) (found : Found) (draft : Draft) (body : List ℕ) (replaced : Option SlotOf) (old new : Told) → IsDraft geometry draft body
    → KnowsDraft geometry found old.image body draft Gate replaced → MayChange (get_or draft.slots 0 0 * geometry.slot_size) 1 old new
    → NearlyOnlyFirstUp geometry.slot_size geometry.slots new.image
gate_nearly_only geometry found draft body replaced old new is known change =
    let size = geometry.slot_size in
    let first = get_or draft.slots 0 0 in
    let same = MayChange-same (first * size) 1 old new change in
    elim (cases_eq (number_at new.image (first * size) 1) gate_open) [
      | inl opened ↦ by_replaced same opened replaced known
      | inr closed ↦
          let large = large_slot geometry in
          let free = known.plan.free first (target_in (layout_of geometry) (plan_of draft body) 0 (omega arith)) in
          let differs : DiffersInFreeSlot size geometry.slots first old.image new.image = record {
            same = SameOutside-wider (first * size) 1 (first * size) size old.image new.image (omega arith) (omega arith) same;
            down = down_by_gate size geometry.slots first new.image closed;
          } in
          nearly_of_only size geometry.slots new.image (differs_only size geometry.slots first old.image new.image (omega arith) free.0 known.plan.only free.1 differs)
    ]
  where
    by_replaced : SameOutside (get_or draft.slots 0 0 * geometry.slot_size) 1 old.image new.image → number_at new.image (get_or draft.slots 0 0 * geometry.slot_size) 1 ≡ gate_open
        → (o : Option SlotOf) → KnowsDraft geometry found old.image body draft Gate o → NearlyOnlyFirstUp geometry.slot_size geometry.slots new.image
    by_replaced same opened None had =
        nearly_of_only geometry.slot_size geometry.slots new.image
        (gate_only (layout_of geometry) (plan_of draft body) old.image new.image is.plan had.plan had.stands same opened had.over)
    by_replaced same opened (Some place) had =
        gate_spare (layout_of geometry) (plan_of draft body) place.slot had.over.chosen old.image new.image is.plan had.plan had.stands same opened
        (had.over.is).within (had.over.is).here had.over.of_id

-- the place of a draft
pub opened_entry_of : (geometry : Geometry) (draft : Draft) (body : List ℕ) → IsDraft geometry draft body → length draft.slots ≡ 4
    → IsEntryOf draft.id (opened_place draft) (record_for (plan_of draft body))
opened_entry_of geometry draft body is four = record {
  of_id = refl;
  generation = refl;
  len = is.len;
  further =
      let some = is.some in
      let few = is.few in
      let front = length-take (draft.parts - 1) (drop 1 draft.slots) in
      let behind = length-drop 1 draft.slots in
      let long : draft.parts - 1 ≡ length (take (draft.parts - 1) (drop 1 draft.slots)) = omega arith in
      ap (λ (n : ℕ). take n (drop 1 draft.slots)) long ∙ ap (take (length (take (draft.parts - 1) (drop 1 draft.slots)))) (four_of draft.slots four);
}

pub opened_within : (geometry : Geometry) (draft : Draft) (body : List ℕ) → IsDraft geometry draft body → IsWithin geometry.slots geometry.slot_size (opened_place draft)
opened_within geometry draft body is =
    let least = is.plan.names.least in
    let most = is.plan.names.most in
    record {
      slot = is.below 0 (omega (arith, is.some));
      least = omega (arith, is.len);
      most = subst (λ (n : ℕ). n ≤ reach_of (geometry.slot_size - 64)) is.len most;
      below = λ at h.
          let parts = is.parts in
          let same : parts_of (geometry.slot_size - 64) (length body) ≡ parts_of (geometry.slot_size - 64) draft.len = ap (parts_of (geometry.slot_size - 64)) is.len in
          named at (is.below (at + 1) (omega arith)) (let few = is.few in omega arith);
    }
  where
    named : (at : ℕ) → get_or draft.slots (at + 1) 0 < geometry.slots → at < 3 → get_or (get_or draft.slots 1 0 ∷ get_or draft.slots 2 0 ∷ get_or draft.slots 3 0 ∷ []) at 0 < geometry.slots
    named zero low h = low
    named (suc zero) low h = low
    named (suc (suc zero)) low h = low
    named (suc (suc (suc n))) low h = absurd (omega arith)

-- The kills

-- a record has as many slots as parts
pub its_parts : (geometry : Geometry) (image : List ℕ) (k : ℕ) (e : Entry) → length image ≡ geometry.slot_size * geometry.slots → entry_at geometry.slot_size geometry.slots image k ≡ Some e
    → HasItsParts (geometry.slot_size - 64) e
its_parts geometry image k e sized here = (entry_len geometry.slot_size geometry.slots k image e (large_slot geometry) sized here).1

pub up_here : (size slots k : ℕ) (image : List ℕ) (e : Entry) → entry_at size slots image k ≡ Some e → (k < slots) × (is_up (size - 64) slots (slot_at size image k) ≡ true)
unfolding entry_at
up_here size slots k image e here = up_entry (size - 64) slots (slot_at size image) k e here

-- so it can be killed
pub can_be_killed : (geometry : Geometry) (slot : ℕ) (image : List ℕ) (e : Entry) → length image ≡ geometry.slot_size * geometry.slots → entry_at geometry.slot_size geometry.slots image slot ≡ Some e
    → IsErased image (slot * geometry.slot_size + 1) 1
can_be_killed geometry slot image e sized here =
    let large = large_slot geometry in
    let up = up_here geometry.slot_size geometry.slots slot image e here in
    kill_can geometry.slot_size geometry.slots slot image (omega arith) up.0 sized up.1

-- a slot was killed
pub kill_lost : (geometry : Geometry) (slot : ℕ) (old new : List ℕ) (e : Entry) → entry_at geometry.slot_size geometry.slots old slot ≡ Some e → SameOutside (slot * geometry.slot_size + 1) 1 old new
    → number_at new (slot * geometry.slot_size + 1) 1 ≡ kill_mark → HasLost (entry_at geometry.slot_size geometry.slots old) (entry_at geometry.slot_size geometry.slots new) geometry.slots slot e
unfolding entry_at
kill_lost geometry slot old new e here same mark =
    let size = geometry.slot_size in
    let slots = geometry.slots in
    let large = large_slot geometry in
    let up = up_entry (size - 64) slots (slot_at size old) slot e here in
    let killed = kill_byte size slots slot old new (omega arith) up.1 same in
    let down = down_by_kill size slots slot new (killed_is_not_erased mark) in
    record {
      same = killed_others (size - 64) slots (slot_at size old) (slot_at size new) slot killed;
      was = here;
      gone = down_entry (size - 64) slots (slot_at size new) slot down;
      freed = λ i. freed (size - 64) slots (slot_at size old) (slot_at size new) slot i killed down
          ∙ ap (λ (o : Option Entry). is_taken (entry_of (size - 64) slots (slot_at size old)) slots i && not (holds o slot i)) here;
    }

-- whatever is torn in the kill of a slot, every other upright slot is a first one where it was
pub killed_nearly : (geometry : Geometry) (slot : ℕ) (old new : Told) → is_up (geometry.slot_size - 64) geometry.slots (slot_at geometry.slot_size old.image slot) ≡ true
    → ((k : ℕ) → k < geometry.slots → k ≢ slot → is_up (geometry.slot_size - 64) geometry.slots (slot_at geometry.slot_size old.image k) ≡ true
    → (e : Entry) × IsChosen (entry_at geometry.slot_size geometry.slots old.image) geometry.slots k e)
    → MayChange (slot * geometry.slot_size + 1) 1 old new → NearlyOnlyFirstUp geometry.slot_size geometry.slots new.image
unfolding entry_at
killed_nearly geometry slot old new up each change =
    let size = geometry.slot_size in
    let slots = geometry.slots in
    let large = large_slot geometry in
    let killed = kill_byte size slots slot old.image new.image (omega arith) up (MayChange-same (slot * size + 1) 1 old new change) in
    record {
      spare = slot;
      each = λ k h apart its_up.
          let was = each k h apart (ap (is_up (size - 64) slots) (sym (killed.same k apart)) ∙ its_up) in (
            was.0,
            elim (killed_leaves (size - 64) slots (slot_at size old.image) (slot_at size new.image) slot killed) [
              | inl same ↦ subst (λ (entry : ℕ → Option Entry). IsChosen entry slots k was.0) (sym same) was.1
              | inr gone ↦
                  IsChosen-without (entry_of (size - 64) slots (slot_at size old.image)) (entry_of (size - 64) slots (slot_at size new.image)) slots slot k was.0
                  (killed_others (size - 64) slots (slot_at size old.image) (slot_at size new.image) slot killed) gone apart was.1
            ],
          );
    }

-- the older record is not that of its identifier
older_of : (geometry : Geometry) (found : Found) (image : List ℕ) (draft : Draft) (place : SlotOf) → (known : KnowsOldCopy geometry found image draft place)
    → IsOlderCopy (entry_at geometry.slot_size geometry.slots image) geometry.slots place.slot known.lost
older_of geometry found image draft place known =
    (get_or draft.slots 0 0, known.newer.entry, known.newer.chosen, known.newer.of_id ∙ sym known.is.of_id, known.apart)

pub older_not_first : (geometry : Geometry) (found : Found) (image : List ℕ) (draft : Draft) (place : SlotOf) → KnowsOldCopy geometry found image draft place
    → (e : Entry) → IsChosen (entry_at geometry.slot_size geometry.slots image) geometry.slots place.slot e → ⊥
older_not_first geometry found image draft place known e chosen =
    let mine : e ≡ known.lost = same_Some e known.lost (sym chosen.here ∙ known.here) in
    known.apart (IsChosen-unique (entry_at geometry.slot_size geometry.slots image) geometry.slots (get_or draft.slots 0 0) place.slot known.newer.entry e known.newer.chosen chosen
    (known.newer.of_id ∙ sym known.is.of_id ∙ ap (λ (x : Entry). x.id) (sym mine)))

-- the change after the gate makes no map
after_gate : (layout : Layout) (id : ℕ) (bytes slots : List ℕ) (stored : Stored) → map_after layout (Writing id bytes slots true (changes_before_gate layout bytes + 1)) stored ≡ stored
after_gate layout id bytes slots stored =
    cond-false {A = Stored} (nat_eq (changes_before_gate layout bytes + 1) (changes_before_gate layout bytes)) (made_by (write id bytes) stored) stored
    (ne_eqb (changes_before_gate layout bytes + 1) (changes_before_gate layout bytes) (λ e. absurd (omega arith)))

old_copy_ends : (layout : Layout) (id : ℕ) (bytes slots : List ℕ) → Idle ≡ pending_after layout (Writing id bytes slots true (changes_before_gate layout bytes + 1))
old_copy_ends layout id bytes slots =
    let made = changes_before_gate layout bytes + 1 in
    sym (cond-true {A = Pending} (nat_eq (made + 1) (changes_in_all layout bytes true)) Idle (Writing id bytes slots true (made + 1))
    (eq-eqb (made + 1) (changes_in_all layout bytes true) (omega arith)))

pub old_copy_may : (geometry : Geometry) (found : Found) (buffer : List ℕ) (draft : Draft) (place : SlotOf) (old new : Told) → KnowsOldCopy geometry found old.image draft place
    → MayChange (place.slot * geometry.slot_size + 1) 1 old new → MayMake geometry (pending_of (layout_of geometry) buffer (OldCopy draft place)) old new
old_copy_may geometry found buffer draft place old new known change =
    let layout = layout_of geometry in
    let large = large_slot geometry in
    let up = up_here geometry.slot_size geometry.slots place.slot old.image known.lost known.here in
    Leaves-weaker old new (λ image. records_of layout image ≡ records_of layout old.image)
    (λ image. (records_of layout image ≡ records_of layout old.image)
    ⊎ (records_of layout image ≡ map_after layout (pending_of layout buffer (OldCopy draft place)) (records_of layout old.image)))
    (old_copy_leaves geometry.slot_size geometry.slots place.slot old new (omega arith) up.0 up.1 (older_not_first geometry found old.image draft place known) change)
    (λ image kept. inl kept)

pub old_copy_spare : (geometry : Geometry) (found : Found) (draft : Draft) (place : SlotOf) (old new : Told) → KnowsOldCopy geometry found old.image draft place
    → MayChange (place.slot * geometry.slot_size + 1) 1 old new → NearlyOnlyFirstUp geometry.slot_size geometry.slots new.image
old_copy_spare geometry found draft place old new known change =
    killed_nearly geometry place.slot old new (up_here geometry.slot_size geometry.slots place.slot old.image known.lost known.here).1 known.others change

-- the lists without an older record
abbrev pub EndsOlder : Geometry → Found → Found → SlotOf → Type 0
EndsOlder geometry found after place = (entry other : ℕ → Option Entry) (id : ℕ) (lost : Entry) → HasLost entry other geometry.slots place.slot lost → IsEntryOf id place lost
    → HasItsParts (geometry.slot_size - 64) lost → IsOlderCopy entry geometry.slots place.slot lost → IsListOf entry geometry.slots found → IsListOf other geometry.slots after

old_copy_list : (geometry : Geometry) (found after : Found) (draft : Draft) (place : SlotOf) (old new : List ℕ) → length old ≡ geometry.slot_size * geometry.slots
    → KnowsOldCopy geometry found old draft place → SameOutside (place.slot * geometry.slot_size + 1) 1 old new → number_at new (place.slot * geometry.slot_size + 1) 1 ≡ kill_mark
    → EndsOlder geometry found after place → IsListOf (entry_at geometry.slot_size geometry.slots new) geometry.slots after
old_copy_list geometry found after draft place old new sized known same mark lists =
    lists (entry_at geometry.slot_size geometry.slots old) (entry_at geometry.slot_size geometry.slots new) draft.id known.lost
    (kill_lost geometry place.slot old new known.lost known.here same mark) known.is (its_parts geometry old place.slot known.lost sized known.here)
    (older_of geometry found old draft place known) known.list

pub old_copy_made : (tells : Type 0) (geometry : Geometry) (before found : Found) (buffer : List ℕ) (draft : Draft) (place : SlotOf) (old new : Told) →
    (tells → length old.image ≡ geometry.slot_size * geometry.slots)
    → (tells → KnowsOldCopy geometry before old.image draft place) → (tells → MayChange (place.slot * geometry.slot_size + 1) 1 old new) →
    (tells → number_at new.image (place.slot * geometry.slot_size + 1) 1 ≡ kill_mark)
    → EndsOlder geometry before found place → HasMade tells (kept_of geometry found buffer) old.image new.image (OldCopy draft place) Nothing
old_copy_made tells geometry before found buffer draft place old new sized knows may mark lists = record {
  form = tt;
  pending = old_copy_ends (layout_of geometry) draft.id (take draft.len buffer) (slots_in draft);
  knows = λ told.
      let known = knows told in
      record {
        list = old_copy_list geometry before found draft place old.image new.image (sized told) known (same told) (mark told) lists;
        only = spare_killed geometry.slot_size geometry.slots place.slot old.image new.image large (up told) known.others (same told) (killed_is_not_erased (mark told));
      };
  made = λ told.
      scan_kill geometry.slot_size geometry.slots place.slot old.image new.image large (low told) (up told) (older_not_first geometry before old.image draft place (knows told)) (same told)
      ∙ sym (after_gate (layout_of geometry) draft.id (take draft.len buffer) (slots_in draft) (records_of (layout_of geometry) old.image));
  placed = λ told late.
      let known = knows told in
      let lost = kill_lost geometry place.slot old.image new.image known.lost known.here (same told) (mark told) in
      record {
        entry = known.newer.entry;
        of_id = known.newer.of_id;
        in_further = known.newer.in_further;
        chosen = IsChosen-without (entry_at geometry.slot_size geometry.slots old.image) (entry_at geometry.slot_size geometry.slots new.image) geometry.slots
            place.slot (get_or draft.slots 0 0) known.newer.entry
            lost.same lost.gone known.apart known.newer.chosen;
      };
}
  where
    same : tells → SameOutside (place.slot * geometry.slot_size + 1) 1 old.image new.image
    same told = MayChange-same (place.slot * geometry.slot_size + 1) 1 old new (may told)

    large : 64 ≤ geometry.slot_size
    large = omega (arith, geometry.least_slot)

    low : tells → place.slot < geometry.slots
    low told = (up_here geometry.slot_size geometry.slots place.slot old.image (knows told).lost (knows told).here).0

    up : tells → is_up (geometry.slot_size - 64) geometry.slots (slot_at geometry.slot_size old.image place.slot) ≡ true
    up told = (up_here geometry.slot_size geometry.slots place.slot old.image (knows told).lost (knows told).here).1

-- the clearing
made_by-clear : (id : ℕ) (stored : Stored) → made_by (clear id) stored ≡ remove stored id
unfolding made_by
made_by-clear id stored = refl

cleared_is : (id : ℕ) (stored made : Stored) (e : Entry) → e.id ≡ id → made ≡ remove stored e.id → made ≡ made_by (clear id) stored
cleared_is id stored made e is removed = removed ∙ ap (remove stored) is ∙ sym (made_by-clear id stored)

pub cleared_may : (geometry : Geometry) (found : Found) (buffer : List ℕ) (id : ℕ) (place : SlotOf) (old new : Told) → KnowsCleared geometry found old.image id place
    → MayChange (place.slot * geometry.slot_size + 1) 1 old new → MayMake geometry (pending_of (layout_of geometry) buffer (Clear id place)) old new
cleared_may geometry found buffer id place old new known change =
    let layout = layout_of geometry in
    let large = large_slot geometry in
    let held = known.held in
    Leaves-weaker old new
    (λ image. (records_of layout image ≡ records_of layout old.image) ⊎ (records_of layout image ≡ remove (records_of layout old.image) (held.chosen).id))
    (λ image. (records_of layout image ≡ records_of layout old.image)
    ⊎ (records_of layout image ≡ map_after layout (pending_of layout buffer (Clear id place)) (records_of layout old.image)))
    (clear_leaves geometry.slot_size geometry.slots place.slot held.chosen old new (omega arith) known.slots.only (held.is).here change)
    (λ image either. elim either [
      | inl kept ↦ inl kept
      | inr gone ↦ inr (cleared_is id (records_of layout old.image) (records_of layout image) held.chosen held.of_id gone)
    ])

pub cleared_spare : (geometry : Geometry) (found : Found) (id : ℕ) (place : SlotOf) (old new : Told) → KnowsCleared geometry found old.image id place
    → MayChange (place.slot * geometry.slot_size + 1) 1 old new → NearlyOnlyFirstUp geometry.slot_size geometry.slots new.image
cleared_spare geometry found id place old new known change =
    killed_nearly geometry place.slot old new (up_here geometry.slot_size geometry.slots place.slot old.image known.held.chosen (known.held.is).here).1
    (λ k h apart up. only_each geometry.slot_size geometry.slots old.image known.slots.only k h up) change

only_copy : (geometry : Geometry) (found : Found) (id : ℕ) (place : SlotOf) (image : List ℕ) → KnowsCleared geometry found image id place
    → IsOnlyCopy (entry_at geometry.slot_size geometry.slots image) geometry.slots place.slot id
unfolding entry_at
only_copy geometry found id place image known k e h at_k is =
    only_single (geometry.slot_size - 64) geometry.slots (slot_at geometry.slot_size image) known.slots.only k place.slot e known.held.chosen h
    (known.held.is).within at_k (known.held.is).here (is ∙ sym known.held.of_id)

-- the lists without a record
abbrev pub EndsRecord : Geometry → Found → Found → ℕ → Type 0
EndsRecord geometry found after id = (entry other : ℕ → Option Entry) (j : ℕ) (lost : Entry) → j < geometry.slots → HasLost entry other geometry.slots j lost → lost.id ≡ id
    → HasItsParts (geometry.slot_size - 64) lost → IsOnlyCopy entry geometry.slots j id → IsListOf entry geometry.slots found → IsListOf other geometry.slots after

cleared_list : (geometry : Geometry) (found after : Found) (id : ℕ) (place : SlotOf) (old new : List ℕ) → length old ≡ geometry.slot_size * geometry.slots
    → KnowsCleared geometry found old id place → SameOutside (place.slot * geometry.slot_size + 1) 1 old new → number_at new (place.slot * geometry.slot_size + 1) 1 ≡ kill_mark
    → EndsRecord geometry found after id → IsListOf (entry_at geometry.slot_size geometry.slots new) geometry.slots after
cleared_list geometry found after id place old new sized known same mark lists =
    let held = known.held in
    lists (entry_at geometry.slot_size geometry.slots old) (entry_at geometry.slot_size geometry.slots new) place.slot held.chosen (held.is).within
    (kill_lost geometry place.slot old new held.chosen (held.is).here same mark) held.of_id (its_parts geometry old place.slot held.chosen sized (held.is).here)
    (only_copy geometry found id place old known) known.slots.list

pub cleared_made : (tells : Type 0) (geometry : Geometry) (before found : Found) (buffer : List ℕ) (id : ℕ) (place : SlotOf) (old new : Told) →
    (tells → length old.image ≡ geometry.slot_size * geometry.slots)
    → (tells → KnowsCleared geometry before old.image id place) → (tells → MayChange (place.slot * geometry.slot_size + 1) 1 old new) →
    (tells → number_at new.image (place.slot * geometry.slot_size + 1) 1 ≡ kill_mark)
    → EndsRecord geometry before found id → HasMade tells (kept_of geometry found buffer) old.image new.image (Clear id place) Nothing
cleared_made tells geometry before found buffer id place old new sized knows may mark lists = record {
  form = tt;
  pending = refl;
  knows = λ told.
      let known = knows told in
      record {
        list = cleared_list geometry before found id place old.image new.image (sized told) known (same told) (mark told) lists;
        only = spare_killed geometry.slot_size geometry.slots place.slot old.image new.image large
            (up_here geometry.slot_size geometry.slots place.slot old.image known.held.chosen (known.held.is).here).1
            (λ k h apart up. only_each geometry.slot_size geometry.slots old.image known.slots.only k h up) (same told) (killed_is_not_erased (mark told));
      };
  made = λ told.
      let known = knows told in
      cleared_is id (records_of (layout_of geometry) old.image) (records_of (layout_of geometry) new.image) known.held.chosen known.held.of_id
      (cleared geometry.slot_size geometry.slots place.slot old.image new.image known.held.chosen large known.slots.only (known.held.is).here (same told) (mark told));
  placed = λ told. tt;
}
  where
    same : tells → SameOutside (place.slot * geometry.slot_size + 1) 1 old.image new.image
    same told = MayChange-same (place.slot * geometry.slot_size + 1) 1 old new (may told)

    large : 64 ≤ geometry.slot_size
    large = omega (arith, geometry.least_slot)
