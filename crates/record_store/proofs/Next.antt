-- The stage after a change, as the program finds it.
use Rattle.std.proofs.Common.{◌≡◌, ℕ, zero, suc, ◌+◌, ◌-◌, ◌*◌, ◌/◌, ◌%◌, ◌<◌, ◌≤◌, Bool, true, false, cond, List, [], ◌∷◌, length, take, drop, get_or, refl, sym, ap, subst, ◌∙◌, arith, inl, inr}
use Rattle.std.specs.Prelude.{nat_lt, ◌==◌}
use Rattle.std.specs.List.{list_any}
use Rattle.std.proofs.lemmas.Bool.{cases_lt, lt-ltb, le-ltb, eq-eqb, ne_eqb, ltb-true, cond-true, cond-false, or_parts}
use Rattle.std.proofs.lemmas.Nat.{div-add-mod'}
use Rattle.std.proofs.lemmas.List.{length-take, get_or-take, take-take}
use Rattle.std.proofs.Math.Nat.{mul-le-mul_right, add-mul}
use Rattle.flash_model.specs.declared.geometry.Geometry.{Geometry}
use Rattle.record_model.specs.Records.{part_len, parts_of, AreDistinct}
use Rattle.record_model.specs.Filling.{Step, EraseFromHead, EraseFromTail, PutHead, Piece, TailMark, IsStep}
use Rattle.record_model.specs.Plan.{Stage, Fill, Gate, target_of, stage_after, after_part, first_step}
use Rattle.record_model.proofs.PlanLemmas.{not_before}
use Rattle.record_store.specs.declared.draft.Draft.{Draft}
use Rattle.flash_model.specs.Layouts.{layout_of}
use Rattle.record_store.specs.Drafts.{IsDraft, HasForm, plan_of, marked_in}
use Rattle.record_store.proofs.Here.{target_len, behind}

-- each part has a byte
part_some : (room len number : ℕ) → 1 ≤ room → 1 ≤ len → number < parts_of room len → 1 ≤ part_len room len number
unfolding parts_of part_len
part_some room len number some least h =
    let whole : (len + (room - 1)) / room * room + (len + (room - 1)) % room ≡ len + (room - 1) = div-add-mod' (len + (room - 1)) room in
    let below : (number + 1) * room ≤ (len + (room - 1)) / room * room = mul-le-mul_right room (omega arith) in
    let next : (number + 1) * room ≡ number * room + 1 * room = add-mul number 1 room in
    omega arith

pub bytes_some : (geometry : Geometry) (draft : Draft) (body : List ℕ) (number : ℕ) → IsDraft geometry draft body → number < draft.parts →
    256 * 0 < length (target_of (layout_of geometry) (plan_of draft body) number).bytes
bytes_some geometry draft body number is h =
    let large : 512 ≤ geometry.slot_size = geometry.least_slot in
    let least : 128 ≤ length body = is.plan.names.least in
    let parts : draft.parts ≡ parts_of (geometry.slot_size - 64) (length body) = is.parts in
    let long = target_len geometry draft body number in
    let some = part_some (geometry.slot_size - 64) (length body) number (omega arith) (omega arith) (omega arith) in
    omega arith

further_len : (geometry : Geometry) (draft : Draft) (body : List ℕ) → IsDraft geometry draft body → 1 + length (take (draft.parts - 1) (drop 1 draft.slots)) ≡ draft.parts
further_len geometry draft body is = is.plan.names.counted ∙ sym is.parts

-- the form of the stage after a change
form_first : (geometry : Geometry) (draft : Draft) (body : List ℕ) (number : ℕ) (marked : Bool) → number < draft.parts → HasForm geometry draft body (Fill number (first_step marked))
form_first geometry draft body number true h = (h, let few : 2 ≤ geometry.per_slot = geometry.few_sectors in omega arith)
form_first geometry draft body number false h = (h, let few : 2 ≤ geometry.per_slot = geometry.few_sectors in omega arith)

by_choice : (P : Stage → Type 0) (b : Bool) (one other : Stage) → (b ≡ true → P one) → (b ≡ false → P other) → P (cond b one other)
by_choice P true one other first second = first refl
by_choice P false one other first second = second refl

form_last : (geometry : Geometry) (draft : Draft) (body : List ℕ) (number : ℕ) → IsDraft geometry draft body → number < draft.parts →
    HasForm geometry draft body (after_part (plan_of draft body) number)
form_last geometry draft body zero is h = tt
form_last geometry draft body (suc n) is h =
    let long : 1 + length (take (draft.parts - 1) (drop 1 draft.slots)) ≡ draft.parts = further_len geometry draft body is in
    by_choice (HasForm geometry draft body) (nat_lt (suc n) (length (take (draft.parts - 1) (drop 1 draft.slots)))) _ _
    (λ more. let low : suc n < length (take (draft.parts - 1) (drop 1 draft.slots)) = ltb-true (suc n) _ more in form_first geometry draft body (suc (suc n)) _ (omega arith))
    (λ all. form_first geometry draft body 0 _ (omega arith))

pub next_form : (geometry : Geometry) (draft : Draft) (body : List ℕ) (number : ℕ) (step : Step) → IsDraft geometry draft body → number < draft.parts
    → IsStep (layout_of geometry) (length (target_of (layout_of geometry) (plan_of draft body) number).bytes) step →
    HasForm geometry draft body (stage_after (layout_of geometry) (plan_of draft body) number step)
next_form geometry draft body number (EraseFromHead done) is h form =
    by_choice (HasForm geometry draft body) (nat_lt (done + 1) geometry.per_slot) (Fill number (EraseFromHead (done + 1))) (Fill number PutHead)
    (λ more. (h, ltb-true (done + 1) geometry.per_slot more)) (λ all. (h, tt))
next_form geometry draft body number (EraseFromTail done) is h form =
    by_choice (HasForm geometry draft body) (nat_lt (done + 1) geometry.per_slot) (Fill number (EraseFromTail (done + 1))) (Fill number PutHead)
    (λ more. (h, ltb-true (done + 1) geometry.per_slot more)) (λ all. (h, tt))
next_form geometry draft body number PutHead is h form = (h, bytes_some geometry draft body number is h)
next_form geometry draft body number (Piece piece) is h form =
    by_choice (HasForm geometry draft body) (nat_lt (256 * (piece + 1)) (length (target_of (layout_of geometry) (plan_of draft body) number).bytes))
    (Fill number (Piece (piece + 1))) (Fill number TailMark)
    (λ more. (h, ltb-true (256 * (piece + 1)) _ more)) (λ all. (h, tt))
next_form geometry draft body number TailMark is h form = form_last geometry draft body number is h

-- the mark of a slot of the draft
marked_at : (slots : List ℕ) (marks : List Bool) (i : ℕ) → i < length slots → length marks ≡ length slots → list_any (λ m. get_or slots i 0 == m) (take i slots) ≡ false
    → marked_in slots marks (get_or slots i 0) ≡ get_or marks i false
marked_at [] marks i h same none = absurd (omega arith)
marked_at (x ∷ slots) [] i h same none = absurd (omega arith)
marked_at (x ∷ slots) (b ∷ marks) zero h same none = cond-true {A = Bool} (x == x) b (marked_in slots marks x) (eq-eqb x x refl)
marked_at (x ∷ slots) (b ∷ marks) (suc i) h same none =
    let both = or_parts (get_or slots i 0 == x) (list_any (λ m. get_or slots i 0 == m) (take i slots)) none in
    cond-false {A = Bool} (get_or slots i 0 == x) b (marked_in slots marks (get_or slots i 0)) both.0 ∙ marked_at slots marks i (omega arith) (omega arith) both.1

-- the slots of the plan are the first of the draft
pub plan_slots : (slots : List ℕ) (parts : ℕ) → 1 ≤ length slots → 1 ≤ parts → get_or slots 0 0 ∷ take (parts - 1) (drop 1 slots) ≡ take parts slots
plan_slots [] parts long some = absurd (omega arith)
plan_slots (x ∷ slots) zero long some = absurd (omega arith)
plan_slots (x ∷ slots) (suc n) long some = ap (λ (m : ℕ). x ∷ take m slots) (omega arith)

pub mark_is : (geometry : Geometry) (draft : Draft) (body : List ℕ) (i : ℕ) → IsDraft geometry draft body → length draft.slots ≡ 4 → length draft.marked ≡ 4 → i < draft.parts
    → get_or draft.marked i false ≡ marked_in draft.slots draft.marked (get_or draft.slots i 0)
mark_is geometry draft body i is slots marks h =
    let some : 1 ≤ draft.parts = is.some in
    let few : draft.parts ≤ 4 = is.few in
    let whole = plan_slots draft.slots draft.parts (omega arith) some in
    let apart : AreDistinct (take draft.parts draft.slots) = subst (λ (xs : List ℕ). AreDistinct xs) whole is.plan.distinct in
    let long = length-take draft.parts draft.slots in
    let none = not_before (take draft.parts draft.slots) i apart (omega arith) in
    sym (marked_at draft.slots draft.marked i (omega arith) (omega arith)
    (ap (λ (k : ℕ). list_any (λ m. k == m) (take i draft.slots)) (sym (get_or-take draft.parts draft.slots i 0 h))
    ∙ ap (λ (xs : List ℕ). list_any (λ m. get_or (take draft.parts draft.slots) i 0 == m) xs) (sym (take-take i draft.parts draft.slots (omega arith))) ∙ none))

-- the stage after the last change of a slot
pub last_is : (geometry : Geometry) (draft : Draft) (body : List ℕ) (number : ℕ) → IsDraft geometry draft body → length draft.slots ≡ 4 → length draft.marked ≡ 4 → number < draft.parts
    → cond {A = Stage} (number == 0) Gate (cond (nat_lt (number + 1) draft.parts) (Fill (number + 1) (first_step (get_or draft.marked (number + 1) false)))
    (Fill 0 (first_step (get_or draft.marked 0 false))))
    ≡ after_part (plan_of draft body) number
last_is geometry draft body zero is slots marks h = refl
last_is geometry draft body (suc n) is slots marks h =
    let further = take (draft.parts - 1) (drop 1 draft.slots) in
    let long : 1 + length further ≡ draft.parts = further_len geometry draft body is in
    let two : suc n + 1 ≡ suc (suc n) = omega arith in
    cond-false {A = Stage} (suc n == 0) Gate (cond (nat_lt (suc n + 1) draft.parts) (Fill (suc n + 1) (first_step (get_or draft.marked (suc n + 1) false)))
    (Fill 0 (first_step (get_or draft.marked 0 false)))) (ne_eqb (suc n) 0 (λ e. absurd (omega arith)))
    ∙ elim (cases_lt (suc n + 1) draft.parts) [
      | inl more ↦
          let low : suc n < length further = omega arith in
          let here : get_or further (suc n) 0 ≡ get_or draft.slots (suc n + 1) 0 =
          get_or-take (draft.parts - 1) (drop 1 draft.slots) (suc n) 0 (omega arith) ∙ behind draft.slots (suc n) ∙ ap (λ (k : ℕ). get_or draft.slots k 0) (sym two) in
          let mark : get_or draft.marked (suc n + 1) false ≡ marked_in draft.slots draft.marked (get_or further (suc n) 0) =
          mark_is geometry draft body (suc n + 1) is slots marks more ∙ ap (marked_in draft.slots draft.marked) (sym here) in
          cond-true {A = Stage} (nat_lt (suc n + 1) draft.parts) (Fill (suc n + 1) (first_step (get_or draft.marked (suc n + 1) false)))
          (Fill 0 (first_step (get_or draft.marked 0 false))) (lt-ltb (suc n + 1) draft.parts more)
          ∙ (λ i. Fill (two i) (first_step (mark i)))
          ∙ sym (cond-true {A = Stage} (nat_lt (suc n) (length further))
          (Fill (suc (suc n)) (first_step (marked_in draft.slots draft.marked (get_or further (suc n) 0))))
          (Fill 0 (first_step (marked_in draft.slots draft.marked (get_or draft.slots 0 0)))) (lt-ltb (suc n) (length further) low))
      | inr all ↦
          let past : length further ≤ suc n = omega arith in
          let mark : get_or draft.marked 0 false ≡ marked_in draft.slots draft.marked (get_or draft.slots 0 0) = mark_is geometry draft body 0 is slots marks (omega arith) in
          cond-false {A = Stage} (nat_lt (suc n + 1) draft.parts) (Fill (suc n + 1) (first_step (get_or draft.marked (suc n + 1) false)))
          (Fill 0 (first_step (get_or draft.marked 0 false))) (le-ltb (suc n + 1) draft.parts all)
          ∙ (λ i. Fill 0 (first_step (mark i)))
          ∙ sym (cond-false {A = Stage} (nat_lt (suc n) (length further))
          (Fill (suc (suc n)) (first_step (marked_in draft.slots draft.marked (get_or further (suc n) 0))))
          (Fill 0 (first_step (marked_in draft.slots draft.marked (get_or draft.slots 0 0)))) (le-ltb (suc n) (length further) past))
    ]

-- the stage after a piece, by the length of the part
pub piece_next : (number piece len other : ℕ) → len ≡ other
    → cond {A = Stage} (nat_lt (256 * (piece + 1)) len) (Fill number (Piece (piece + 1))) (Fill number TailMark) ≡ cond (nat_lt (256 * (piece + 1)) other)
    (Fill number (Piece (piece + 1))) (Fill number TailMark)
piece_next number piece len other same = ap (λ (n : ℕ). cond {A = Stage} (nat_lt (256 * (piece + 1)) n) (Fill number (Piece (piece + 1))) (Fill number TailMark)) same

pub part_is : (geometry : Geometry) (draft : Draft) (body : List ℕ) (number len : ℕ) → IsDraft geometry draft body → len ≡ part_len (geometry.slot_size - 64) draft.len number
    → len ≡ length (target_of (layout_of geometry) (plan_of draft body) number).bytes
part_is geometry draft body number len is at = at ∙ ap (λ (n : ℕ). part_len (geometry.slot_size - 64) n number) (sym is.len) ∙ sym (target_len geometry draft body number)

pub number_low : (geometry : Geometry) (draft : Draft) (body : List ℕ) (number : ℕ) → IsDraft geometry draft body → number < draft.parts → number ≤ length (plan_of draft body).further
number_low geometry draft body number is h = let long : 1 + length (take (draft.parts - 1) (drop 1 draft.slots)) ≡ draft.parts = further_len geometry draft body is in omega arith
