-- The records of first slots alone.
use Rattle.std.proofs.Common.{◌≡◌, ℕ, zero, suc, ◌-◌, ◌<◌, Bool, true, not, List, Option, Some, None, refl, sym, ap, subst, ◌∙◌, arith, inl, inr}
use Rattle.std.specs.Prelude.{◌||◌}
use Rattle.std.proofs.lemmas.Bool.{cases_Bool, cond-true, cond-false}
use Rattle.std.proofs.lemmas.Option.{none-some, same_Some}
use Rattle.record_model.specs.Records.{Entry, entry_of, entry_at, slot_at, IsChosen, is_first, holds, is_taken, OnlyFirstUp}
use Rattle.record_model.proofs.FirstLemmas.{chosen-is_first, is_first-chosen}
use Rattle.record_model.proofs.LiveLemmas.{up_entry}
use Rattle.record_slots.specs.declared.found.SlotOf.{SlotOf}
use Rattle.record_slots.specs.Listed.{AreListed, first_records, free_slots}
use Rattle.record_slots.proofs.FreeLemmas.{list_below-same}

pub first_is : (entry : ℕ → Option Entry) (n k : ℕ) (e : Entry) → first_records entry n k ≡ Some e → (is_first entry n k ≡ true) × (entry k ≡ Some e)
unfolding first_records
first_is entry n k e is = elim (cases_Bool (is_first entry n k)) [
  | inl first ↦ (first, sym (cond-true {A = Option Entry} (is_first entry n k) (entry k) None first) ∙ is)
  | inr later ↦ absurd (none-some e (sym (cond-false {A = Option Entry} (is_first entry n k) (entry k) None later) ∙ is))
]

is_kept : (entry : ℕ → Option Entry) (n k : ℕ) (e : Entry) → IsChosen entry n k e → first_records entry n k ≡ Some e
unfolding first_records
is_kept entry n k e chosen = cond-true {A = Option Entry} (is_first entry n k) (entry k) None (chosen-is_first entry n k e chosen) ∙ chosen.here

-- they are those of their identifiers, as before
chosen_kept : (entry : ℕ → Option Entry) (n k : ℕ) (e : Entry) → IsChosen entry n k e → IsChosen (first_records entry n) n k e
chosen_kept entry n k e chosen = record {
  within = chosen.within;
  here = is_kept entry n k e chosen;
  greatest = λ j other h at key. chosen.greatest j other h (first_is entry n j other at).1 key;
  lowest = λ j other h at key. chosen.lowest j other h (first_is entry n j other at).1 key;
}

pub first_single : (entry : ℕ → Option Entry) (n j : ℕ) (e : Entry) → j < n → first_records entry n j ≡ Some e → IsChosen (first_records entry n) n j e
first_single entry n j e h is =
    let had = first_is entry n j e is in
    let chosen = is_first-chosen entry n j h had.0 in
    chosen_kept entry n j e (subst (λ (x : Entry). IsChosen entry n j x) (same_Some chosen.0 e (sym (chosen.1).here ∙ had.1)) chosen.1)

pub first_listed : (entry : ℕ → Option Entry) (n : ℕ) (ids : List ℕ) (places : List SlotOf) → AreListed entry n ids places → AreListed (first_records entry n) n ids places
first_listed entry n ids places listed = record {
  each = λ i d h.
      let place = listed.each i d h in
      record { chosen = place.chosen; is = chosen_kept entry n _ place.chosen place.is; of_id = place.of_id; generation = place.generation; len = place.len; further = place.further };
  all = λ k e h at. listed.all k e h (first_is entry n k e at).1;
}

-- where only first slots are upright they are all records
pub only_chosen : (size slots : ℕ) (image : List ℕ) → OnlyFirstUp size slots image → (j : ℕ) (e : Entry) → j < slots → entry_at size slots image j ≡ Some e
    → IsChosen (entry_at size slots image) slots j e
unfolding entry_at
only_chosen size slots image only j e h is =
    let up = up_entry (size - 64) slots (slot_at size image) j e is in
    let chosen = only j h up.1 in
    subst (λ (x : Entry). IsChosen (entry_of (size - 64) slots (slot_at size image)) slots j x) (same_Some chosen.0 e (sym (chosen.1).here ∙ is)) chosen.1

taken_alike : (entry other : ℕ → Option Entry) (n i : ℕ) → ((k : ℕ) → k < n → other k ≡ entry k) → is_taken other n i ≡ is_taken entry n i
unfolding is_taken
taken_alike entry other zero i same = refl
taken_alike entry other (suc n) i same =
    ap (λ (b : Bool). b || holds (other n) n i) (taken_alike entry other n i (λ k h. same k (omega arith)))
    ∙ ap (λ (o : Option Entry). is_taken entry n i || holds o n i) (same n (omega arith))

pub free_slots-only : (size slots : ℕ) (image : List ℕ) → OnlyFirstUp size slots image
    → free_slots (first_records (entry_at size slots image) slots) slots ≡ free_slots (entry_at size slots image) slots
unfolding free_slots
free_slots-only size slots image only =
    list_below-same (λ k. not (is_taken (entry_at size slots image) slots k)) (λ k. not (is_taken (first_records (entry_at size slots image) slots) slots k)) slots
    (λ k h. ap not (taken_alike (entry_at size slots image) (first_records (entry_at size slots image) slots) slots k
    (λ j low. by_record j low (entry_at size slots image j) refl (first_records (entry_at size slots image) slots j) refl)))
  where
    by_record : (j : ℕ) → j < slots → (o : Option Entry) → entry_at size slots image j ≡ o → (p : Option Entry) → first_records (entry_at size slots image) slots j ≡ p
        → first_records (entry_at size slots image) slots j ≡ entry_at size slots image j
    by_record j h None none None first = first ∙ sym none
    by_record j h None none (Some x) first = absurd (none-some x (sym none ∙ (first_is (entry_at size slots image) slots j x first).1))
    by_record j h (Some e) is p first = is_kept (entry_at size slots image) slots j e (only_chosen size slots image only j e h is) ∙ sym is
