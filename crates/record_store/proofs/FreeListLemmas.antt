-- The list of free slots, as slots join it or leave it.
use Rattle.std.proofs.Common.{◌≡◌, ◌⊎◌, ℕ, zero, suc, ◌+◌, ◌<◌, ◌≤◌, Bool, true, false, not, List, [], ◌∷◌, ◌++◌, length, take, get_or, Option, Result, Ok, Err}
use Rattle.std.proofs.Common.{refl, sym, ap, subst, ◌∙◌, arith, inl, inr}
use Rattle.std.specs.Prelude.{insert, OnOk, OnErr, ◌==◌, ◌||◌, ◌&&◌}
use Rattle.std.specs.List.{list_any}
use Rattle.std.specs.Ordering.{nat_cmp}
use Rattle.std.proofs.lemmas.Bool.{cases_Bool, eqb-true, eq-eqb, or_cases, both_ways, not-true}
use Rattle.std.proofs.lemmas.List.Edits.{length-insert}
use Rattle.std.proofs.lemmas.List.Sorted.{searched}
use Rattle.std.specs.List.Sorted.{IsBinarySearchResult}
use Rattle.record_slots.proofs.RisingLemmas.{rising_le}
use Rattle.record_model.specs.Records.{Entry, is_taken}
use Rattle.record_slots.specs.declared.found.Found.{Found}
use Rattle.record_slots.specs.declared.found.SlotOf.{SlotOf}
use Rattle.record_slots.specs.Listed.{IsListed, AreSlots, free_slots}
use Rattle.record_slots.proofs.ListedLemmas.{rising-insert, IsListed-insert, IsListed-inserted}
use Rattle.record_slots.proofs.FreeLemmas.{insert_listed, length-rising, list_below-are, list_below-all, are_below}
use Rattle.record_store.specs.Index.{Frees, Gains}

-- one number is among one
one_is : (k n : ℕ) → list_any (λ m. k == m) (n ∷ []) ≡ true → k ≡ n
one_is k n any = elim (or_cases (k == n) false any) [ inl here ↦ eqb-true k n here | inr never ↦ absurd (both_ways false refl never) ]

is_one : (k n : ℕ) → k ≡ n → list_any (λ m. k == m) (n ∷ []) ≡ true
is_one k n is = ap (λ (b : Bool). b || false) (eq-eqb k n is)

any_front : (k : ℕ) (xs ys : List ℕ) → list_any (λ m. k == m) xs ≡ true → list_any (λ m. k == m) (xs ++ ys) ≡ true
any_front k [] ys any = absurd (both_ways false refl any)
any_front k (x ∷ xs) ys any = elim (or_cases (k == x) (list_any (λ m. k == m) xs) any) [
  | inl here ↦ ap (λ (b : Bool). b || list_any (λ m. k == m) (xs ++ ys)) here
  | inr later ↦ right (k == x) (any_front k xs ys later)
]
  where
    right : (b : Bool) → list_any (λ m. k == m) (xs ++ ys) ≡ true → (b || list_any (λ m. k == m) (xs ++ ys)) ≡ true
    right true is = refl
    right false is = is

any_end : (k : ℕ) (xs ys : List ℕ) → list_any (λ m. k == m) ys ≡ true → list_any (λ m. k == m) (xs ++ ys) ≡ true
any_end k [] ys any = any
any_end k (x ∷ xs) ys any = right (k == x) (any_end k xs ys any)
  where
    right : (b : Bool) → list_any (λ m. k == m) (xs ++ ys) ≡ true → (b || list_any (λ m. k == m) (xs ++ ys)) ≡ true
    right true is = refl
    right false is = is

any_cases : (k : ℕ) (xs ys : List ℕ) → list_any (λ m. k == m) (xs ++ ys) ≡ true → (list_any (λ m. k == m) xs ≡ true) ⊎ (list_any (λ m. k == m) ys ≡ true)
any_cases k [] ys any = inr any
any_cases k (x ∷ xs) ys any = elim (or_cases (k == x) (list_any (λ m. k == m) (xs ++ ys)) any) [
  | inl here ↦ inl (ap (λ (b : Bool). b || list_any (λ m. k == m) xs) here)
  | inr later ↦ elim (any_cases k xs ys later) [ inl first ↦ inl (right (k == x) first) | inr second ↦ inr second ]
]
  where
    right : (b : Bool) → list_any (λ m. k == m) xs ≡ true → (b || list_any (λ m. k == m) xs) ≡ true
    right true is = refl
    right false is = is

-- numbers join a list
pub gains_insert : (free : List ℕ) (at slot : ℕ) → at ≤ length free → Gains free (insert free at slot) (slot ∷ [])
gains_insert free at slot within = record {
  each = λ k listed. elim (insert_listed free at slot k within listed) [ inl was ↦ inl was | inr mine ↦ inr (is_one k slot mine) ];
  kept = λ k listed. IsListed-insert free at slot k within listed;
  all = λ k any. subst (λ (n : ℕ). IsListed (insert free at slot) n) (sym (one_is k slot any)) (IsListed-inserted free at slot within);
}

pub gains_then : (first mid last xs : List ℕ) (x : ℕ) → Gains first mid xs → Gains mid last (x ∷ []) → Gains first last (xs ++ x ∷ [])
gains_then first mid last xs x one other = record {
  each = λ k listed. elim (other.each k listed) [
    | inl was ↦ elim (one.each k was) [ inl before ↦ inl before | inr more ↦ inr (any_front k xs (x ∷ []) more) ]
    | inr mine ↦ inr (any_end k xs (x ∷ []) mine)
  ];
  kept = λ k listed. other.kept k (one.kept k listed);
  all = λ k any. elim (any_cases k xs (x ∷ []) any) [ inl before ↦ other.kept k (one.all k before) | inr mine ↦ other.all k mine ];
}

-- a number put where it belongs
pub AreSlots-inserted : (slots at slot : ℕ) (free : List ℕ) → AreSlots slots free → slot < slots → at ≤ length free
    → ((k : ℕ) → k < at → get_or free k 0 < slot) → ((k : ℕ) → at ≤ k → k < length free → slot < get_or free k 0) → AreSlots slots (insert free at slot)
AreSlots-inserted slots at slot free had low within below above = record {
  rising = rising-insert free at slot had.rising within below above;
  within = λ i h. elim (insert_listed free at slot (get_or (insert free at slot) i 0) within (i, h, refl)) [
    | inl was ↦
        let is : get_or free was.0 0 ≡ get_or (insert free at slot) i 0 = was.2 in
        let less : get_or free was.0 0 < slots = had.within was.0 was.1 in
        omega arith
    | inr mine ↦ let is : get_or (insert free at slot) i 0 ≡ slot = mine in omega arith
  ];
}

-- where there is room it is put
was_put : {E P : Type 0} {room long : ℕ} (put : Result (Unit {0}) E) → long < room → OnErr put (room ≤ long) → OnOk put P → P
was_put (Ok done) fits full is = is
was_put (Err refused) fits full is = absurd (omega arith)

-- where a search ends there is room for one more slot, and it joins
pub record IsJoined (slots slot : ℕ) (old after : List ℕ) : Type 0 where
  pub gains : Gains old after (slot ∷ [])
  pub free : AreSlots slots after

pub joined_at : {E : Type 0} (slots room at slot : ℕ) (old after : List ℕ) (put : Result (Unit {0}) E) → AreSlots slots old → slot < slots → slots ≤ room →
    IsBinarySearchResult (λ y. nat_cmp y slot) old (Err at)
    → OnErr put (room ≤ length old) → OnOk put (after ≡ insert old at slot) → IsJoined slots slot old after
joined_at slots room at slot old after put had low large position full is =
    let place = searched old slot (Err at) position (λ i j h l. rising_le old had.rising i j h l) in
    let more = AreSlots-inserted slots at slot old had low place.0 place.1 place.2 in
    let few : length (insert old at slot) ≤ slots = length-rising (insert old at slot) slots more.rising more.within in
    let long : length (insert old at slot) ≡ length old + 1 = length-insert old at slot place.0 in
    let same : after ≡ insert old at slot = was_put put (omega arith) full is in
    record {
      gains = subst (λ (xs : List ℕ). Gains old xs (slot ∷ [])) (sym same) (gains_insert old at slot place.0);
      free = subst (λ (xs : List ℕ). AreSlots slots xs) (sym same) more;
    }

-- after a kill: the free slots are those from before it and those of the record
pub free_gained : (entry other : ℕ → Option Entry) (slots : ℕ) (free after more : List ℕ) → free ≡ free_slots entry slots → AreSlots slots after → Gains free after more
    → ((i : ℕ) → is_taken other slots i ≡ (is_taken entry slots i && not (list_any (λ n. i == n) more))) → after ≡ free_slots other slots
unfolding free_slots
free_gained entry other slots free after more is had gains taken =
    are_below (λ k. not (is_taken other slots k)) slots after had.rising
    (λ k listed. (
      below k listed,
      elim (gains.each k listed) [
        | inl was ↦
            let before = list_below-are (λ i. not (is_taken entry slots i)) slots k (subst (λ (xs : List ℕ). IsListed xs k) is was) in
            ap not (taken k ∙ ap (λ (b : Bool). b && not (list_any (λ n. k == n) more)) (not-true (is_taken entry slots k) before.1))
        | inr one ↦ ap not (taken k ∙ ap (λ (b : Bool). is_taken entry slots k && not b) one ∙ none (is_taken entry slots k))
      ],
    ))
    (λ k h pass. elim (cases_Bool (list_any (λ n. k == n) more)) [
      | inl one ↦ gains.all k one
      | inr apart ↦
          let free_now : is_taken other slots k ≡ false = not-true (is_taken other slots k) pass in
          let free_then : is_taken entry slots k ≡ false = same (is_taken entry slots k) ∙ sym (ap (λ (b : Bool). is_taken entry slots k && not b) apart) ∙ sym (taken k) ∙ free_now in
          gains.kept k (subst (λ (xs : List ℕ). IsListed xs k) (sym is) (list_below-all (λ i. not (is_taken entry slots i)) slots k h (ap not free_then)))
    ])
  where
    below : (k : ℕ) → IsListed after k → k < slots
    below k listed = let low : get_or after listed.0 0 < slots = had.within listed.0 listed.1 in let here : get_or after listed.0 0 ≡ k = listed.2 in omega arith

    none : (b : Bool) → (b && not true) ≡ false
    none true = refl
    none false = refl

    same : (b : Bool) → b ≡ (b && not false)
    same true = refl
    same false = refl

-- the first slots of a record joined the free ones
abbrev pub HasFreed : (slots : ℕ) → (place : SlotOf) → (at : ℕ) → (old now : Found) → Type 0
HasFreed slots place at old now = Frees slots (place.slot ∷ take at place.next) old now

pub gains_next : (first mid last xs : List ℕ) (slot at : ℕ) → at < length xs → Gains first mid (slot ∷ take at xs) → Gains mid last (get_or xs at 0 ∷ []) → Gains first last (slot ∷ take (at + 1) xs)
gains_next first mid last xs slot at h one other =
    let next : at + 1 ≡ suc at = omega arith in
    subst (λ (ys : List ℕ). Gains first last (slot ∷ ys)) (sym (ap (λ (m : ℕ). take m xs) next ∙ push xs at h)) (gains_then first mid last (slot ∷ take at xs) (get_or xs at 0) one other)
  where
    push : (ys : List ℕ) (m : ℕ) → m < length ys → take (suc m) ys ≡ take m ys ++ get_or ys m 0 ∷ []
    push [] m l = absurd (omega arith)
    push (y ∷ ys) zero l = refl
    push (y ∷ ys) (suc m) l = ap (λ (zs : List ℕ). y ∷ zs) (push ys m (omega arith))
