-- The first slots of records: the test says which slot is chosen, and so many slots pass it as there are records.
use Rattle.std.proofs.Common.{◌≡◌, ◌≢◌, ℕ, zero, suc, ◌+◌, ◌<◌, ◌≤◌, Bool, true, false, cond, not, List, Option, Some, None, refl, sym, ap, subst, ◌∙◌, arith, add-one, inl, inr}
use Rattle.std.specs.Prelude.{◌==◌, ◌&&◌, ◌||◌, nat_lt, is_some}
use Rattle.std.specs.Ordering.{nat_cmp}
use Rattle.std.specs.FinMap.{get, insert, len, len-empty, len-insert}
use Rattle.std.specs.Cmp.{nat_cmp_total}
use Rattle.std.proofs.lemmas.Bool.{cases_eq, cases_lt, cases_Bool, eq-eqb, ne_eqb, eqb-true, lt-ltb, ltb-true, le-ltb, and_parts, and_from, or_cases, both_ways, false_from_ne_true, not-true}
use Rattle.std.proofs.lemmas.Option.{none-some, same_Some}
use Rattle.record_model.specs.Records.{Entry, Stored, with_entry, selected, IsChosen, goes_before, is_behind, is_first, one_if, count_below}
use Rattle.record_model.proofs.ChosenLemmas.{IsChosen-free, IsChosen-stays, IsChosen-newest, IsChosen-unique, IsChosen-below, IsChosen-without, chosen_or_none, get-chosen, get-no_slot}
use Rattle.record_model.proofs.CountLemmas.{count_below-same, count_below-or, count_below-one}
use Rattle.record_model.proofs.Words.{is_newer, leads}

-- all that pass but one
pub count_below-less : (test other : ℕ → Bool) (n j : ℕ) → j < n → test j ≡ true → other j ≡ false → ((k : ℕ) → k < n → k ≢ j → other k ≡ test k)
    → count_below other n + 1 ≡ count_below test n
count_below-less test other n j within pass fails same =
    let all : count_below test n ≡ count_below (λ k. other k || (k == j)) n = count_below-same (λ k. other k || (k == j)) test n each in
    let both = count_below-or other (λ k. k == j) n (λ k h one here. both_ways (other j) fails (ap other (sym (eqb-true k j here)) ∙ one)) in
    let one : count_below (λ k. k == j) n ≡ 1 = count_below-one j n within in
    omega arith
  where
    each : (k : ℕ) → k < n → test k ≡ (other k || (k == j))
    each k h = elim (cases_eq k j) [
      | inl here ↦ ap test here ∙ pass ∙ sym (ap (λ (b : Bool). other k || b) (eq-eqb k j here) ∙ ap (λ (b : Bool). b || true) (ap other here ∙ fails))
      | inr apart ↦ sym (same k h apart) ∙ sym (ap (λ (b : Bool). other k || b) (ne_eqb k j apart) ∙ or_false (other k))
    ]
      where
        or_false : (b : Bool) → (b || false) ≡ b
        or_false true = refl
        or_false false = refl

pub count_below-none : (test : ℕ → Bool) (n : ℕ) → ((k : ℕ) → k < n → test k ≡ false) → count_below test n ≡ 0
unfolding count_below
count_below-none test zero fails = refl
count_below-none test (suc n) fails =
    let below : count_below test n ≡ 0 = count_below-none test n (λ k h. fails k (omega arith)) in
    let here : one_if (test n) ≡ 0 = ap one_if (fails n (omega arith)) in
    omega arith

pub count_below-some : (test : ℕ → Bool) (n j : ℕ) → j < n → test j ≡ true → 1 ≤ count_below test n
unfolding count_below
count_below-some test zero j h pass = absurd (omega arith)
count_below-some test (suc n) j h pass = elim (cases_eq j n) [
  | inl last ↦ let here : one_if (test n) ≡ 1 = ap one_if (ap test (sym last) ∙ pass) in omega arith
  | inr before ↦ let below : 1 ≤ count_below test n = count_below-some test n j (omega arith) pass in omega arith
]

-- one that goes before another
behind_by : (entry : ℕ → Option Entry) (n : ℕ) (this : Entry) (k : ℕ) → is_behind entry n this k ≡ true
    → (j : ℕ) × (other : Entry) × (j < n) × (entry j ≡ Some other) × (goes_before (Some other) j this k ≡ true)
unfolding is_behind
behind_by entry zero this k is = absurd (both_ways false refl is)
behind_by entry (suc n) this k is = elim (or_cases (goes_before (entry n) n this k) (is_behind entry n this k) is) [
  | inl here ↦ by_record (entry n) refl here
  | inr before ↦ let had = behind_by entry n this k before in let low : had.0 < n = had.2 in (had.0, had.1, omega arith, had.3, had.4)
]
  where
    by_record : (o : Option Entry) → entry n ≡ o → goes_before o n this k ≡ true
        → (j : ℕ) × (other : Entry) × (j < suc n) × (entry j ≡ Some other) × (goes_before (Some other) j this k ≡ true)
    by_record None at pass = absurd (both_ways false refl pass)
    by_record (Some other) at pass = (n, other, omega arith, at, pass)

by_behind : (entry : ℕ → Option Entry) (n : ℕ) (this : Entry) (k j : ℕ) (other : Entry) → j < n → entry j ≡ Some other → goes_before (Some other) j this k ≡ true → is_behind entry n this k ≡ true
unfolding is_behind
by_behind entry zero this k j other h at pass = absurd (omega arith)
by_behind entry (suc n) this k j other h at pass = elim (cases_eq j n) [
  | inl last ↦
      let here : goes_before (entry n) n this k ≡ true = ap (λ (i : ℕ). goes_before (entry i) i this k) (sym last) ∙ ap (λ (o : Option Entry). goes_before o j this k) at ∙ pass in
      ap (λ (b : Bool). b || is_behind entry n this k) here
  | inr before ↦ right (goes_before (entry n) n this k) (by_behind entry n this k j other (omega arith) at pass)
]
  where
    right : (b : Bool) → is_behind entry n this k ≡ true → (b || is_behind entry n this k) ≡ true
    right true later = refl
    right false later = later

newer_before : (j k : ℕ) (other this : Entry) → other.id ≡ this.id → this.generation < other.generation → goes_before (Some other) j this k ≡ true
newer_before j k other this key newer =
    and_from (other.id == this.id) _ (eq-eqb other.id this.id key)
    (ap (λ (b : Bool). b || (this.generation == other.generation && nat_lt j k)) (lt-ltb this.generation other.generation newer))

lower_before : (j k : ℕ) (other this : Entry) → other.id ≡ this.id → this.generation ≡ other.generation → j < k → goes_before (Some other) j this k ≡ true
lower_before j k other this key as_new low =
    and_from (other.id == this.id) _ (eq-eqb other.id this.id key)
    (right (nat_lt this.generation other.generation) (and_from (this.generation == other.generation) (nat_lt j k) (eq-eqb this.generation other.generation as_new) (lt-ltb j k low)))
  where
    right : (b : Bool) → (this.generation == other.generation && nat_lt j k) ≡ true → (b || (this.generation == other.generation && nat_lt j k)) ≡ true
    right true both = refl
    right false both = both

-- the slot that is chosen passes the test
pub chosen-is_first : (entry : ℕ → Option Entry) (n k : ℕ) (e : Entry) → IsChosen entry n k e → is_first entry n k ≡ true
unfolding is_first
chosen-is_first entry n k e chosen =
    ap (λ (o : Option Entry). leads entry n o k) chosen.here ∙ ap not (false_from_ne_true (is_behind entry n e k) (λ behind. refute (behind_by entry n e k behind)))
  where
    refute : ((j : ℕ) × (other : Entry) × (j < n) × (entry j ≡ Some other) × (goes_before (Some other) j e k ≡ true)) → ⊥
    refute by =
        let parts = and_parts ((by.1).id == e.id) (nat_lt e.generation (by.1).generation || (e.generation == (by.1).generation && nat_lt by.0 k)) by.4 in
        let key : (by.1).id ≡ e.id = eqb-true (by.1).id e.id parts.0 in
        let most : (by.1).generation ≤ e.generation = chosen.greatest by.0 by.1 by.2 by.3 key in
        elim (or_cases (nat_lt e.generation (by.1).generation) (e.generation == (by.1).generation && nat_lt by.0 k) parts.1) [
          | inl newer ↦ let less : e.generation < (by.1).generation = ltb-true e.generation (by.1).generation newer in omega arith
          | inr same ↦
              let both = and_parts (e.generation == (by.1).generation) (nat_lt by.0 k) same in
              let as_new : e.generation ≡ (by.1).generation = eqb-true e.generation (by.1).generation both.0 in
              let low : by.0 < k = ltb-true by.0 k both.1 in
              let less : (by.1).generation < e.generation = chosen.lowest by.0 by.1 low by.3 key in
              omega arith
        ]

-- and the slot that passes it is chosen
pub is_first-chosen : (entry : ℕ → Option Entry) (n k : ℕ) → k < n → is_first entry n k ≡ true → (e : Entry) × IsChosen entry n k e
unfolding is_first
is_first-chosen entry n k h first = by_record (entry k) refl first
  where
    by_record : (o : Option Entry) → entry k ≡ o → leads entry n o k ≡ true → (e : Entry) × IsChosen entry n k e
    by_record None at pass = absurd (both_ways false refl pass)
    by_record (Some e) at pass =
        let front : is_behind entry n e k ≡ false = not-true (is_behind entry n e k) pass in (
          e,
          record {
            within = h;
            here = at;
            greatest = λ j other l at_j key. elim (cases_lt e.generation other.generation) [
              | inl newer ↦ absurd (both_ways (is_behind entry n e k) front (by_behind entry n e k j other l at_j (newer_before j k other e key newer)))
              | inr older ↦ older
            ];
            lowest = λ j other l at_j key. elim (cases_lt other.generation e.generation) [
              | inl older ↦ older
              | inr from ↦ elim (cases_eq e.generation other.generation) [
                | inl as_new ↦ absurd (both_ways (is_behind entry n e k) front (by_behind entry n e k j other (omega arith) at_j (lower_before j k other e key as_new l)))
                | inr apart ↦ absurd (both_ways (is_behind entry n e k) front (by_behind entry n e k j other (omega arith) at_j (newer_before j k other e key (omega arith))))
              ]
            ];
          },
        )

-- tests that choose the same slot
is_first-same : (entry other : ℕ → Option Entry) (n m k : ℕ) → k < n → k < m → ((e : Entry) → IsChosen entry n k e → IsChosen other m k e) → ((e : Entry) → IsChosen other m k e → IsChosen entry n k e)
    → is_first other m k ≡ is_first entry n k
is_first-same entry other n m k h l there back = elim (cases_Bool (is_first entry n k)) [
  | inl first ↦ let had = is_first-chosen entry n k h first in chosen-is_first other m k had.0 (there had.0 had.1) ∙ sym first
  | inr later ↦
      false_from_ne_true (is_first other m k) (λ first. let had = is_first-chosen other m k l first in both_ways (is_first entry n k) later (chosen-is_first entry n k had.0 (back had.0 had.1)))
      ∙ sym later
]

-- without a slot that is not chosen the same slots are first ones
pub is_first-without : (entry other : ℕ → Option Entry) (n j k : ℕ) → ((i : ℕ) → i ≢ j → other i ≡ entry i) → other j ≡ None → ((e : Entry) → IsChosen entry n j e → ⊥)
    → k < n → k ≢ j → is_first other n k ≡ is_first entry n k
is_first-without entry other n j k same gone not_chosen h apart =
    is_first-same entry other n n k h h (λ e chosen. IsChosen-without entry other n j k e same gone apart chosen) back
  where
    back : (e : Entry) → IsChosen other n k e → IsChosen entry n k e
    back e chosen = elim (chosen_or_none entry e.id n) [
      | inr none ↦ absurd (none k e h (sym (same k apart) ∙ chosen.here) refl)
      | inl some ↦ elim (cases_eq some.0 j) [
        | inl lost ↦ absurd (not_chosen some.1 (subst (λ (i : ℕ). IsChosen entry n i some.1) lost some.2))
        | inr kept ↦
            let after = IsChosen-without entry other n j some.0 some.1 same gone kept some.2 in
            let at : some.0 ≡ k = IsChosen-unique other n some.0 k some.1 e after chosen some.3 in
            let is : some.1 ≡ e = same_Some some.1 e (sym (some.2).here ∙ ap entry at ∙ sym (same k apart) ∙ chosen.here) in
            subst (λ (x : Entry). IsChosen entry n k x) is (subst (λ (i : ℕ). IsChosen entry n i some.1) at some.2)
      ]
    ]

-- there are as many first slots as records
pub first_count : (entry : ℕ → Option Entry) (n : ℕ) → count_below (is_first entry n) n ≡ len (selected entry n)
unfolding count_below selected is_first
first_count entry zero = sym (len-empty nat_cmp (List ℕ × ℕ))
first_count entry (suc n) = by_record (entry n) refl (first_count entry n)
  where
    more : (k : ℕ) (c : Entry) → IsChosen entry (n + 1) k c → IsChosen entry (suc n) k c
    more k c chosen = subst (λ (m : ℕ). IsChosen entry m k c) (add-one n) chosen

    last_false : ((e : Entry) → IsChosen entry (suc n) n e → ⊥) → is_first entry (suc n) n ≡ false
    last_false not_chosen = false_from_ne_true (is_first entry (suc n) n) (λ first. let had = is_first-chosen entry (suc n) n (omega arith) first in not_chosen had.0 had.1)

    by_record : (o : Option Entry) → entry n ≡ o → count_below (is_first entry n) n ≡ len (selected entry n)
        → one_if (is_first entry (suc n) n) + count_below (is_first entry (suc n)) n ≡ len (with_entry o (selected entry n))
    by_record None at so_far =
        let none : one_if (is_first entry (suc n) n) ≡ 0 = ap one_if (last_false (λ e chosen. none-some e (sym at ∙ chosen.here))) in
        let others : count_below (is_first entry (suc n)) n ≡ count_below (is_first entry n) n =
        count_below-same (is_first entry n) (is_first entry (suc n)) n (λ k h.
        is_first-same entry entry n (suc n) k h (omega arith) (λ e chosen. more k e (IsChosen-free entry n k e at chosen)) (λ e chosen. IsChosen-below entry n k e h chosen)) in
        omega arith
    by_record (Some e) at so_far = elim (chosen_or_none entry e.id n) [
      | inr none ↦
          let first : is_first entry (suc n) n ≡ true = chosen-is_first entry (suc n) n e (more n e (IsChosen-newest entry n e at (λ j other h at_j key. absurd (none j other h at_j key)))) in
          let one : one_if (is_first entry (suc n) n) ≡ 1 = ap one_if first in
          let others : count_below (is_first entry (suc n)) n ≡ count_below (is_first entry n) n =
          count_below-same (is_first entry n) (is_first entry (suc n)) n (λ k h.
          is_first-same entry entry n (suc n) k h (omega arith)
          (λ c chosen. more k c (IsChosen-stays entry n k c e at (λ key. absurd (none k c h chosen.here (sym key))) chosen))
          (λ c chosen. IsChosen-below entry n k c h chosen)) in
          let absent : get (selected entry n) e.id ≡ None = get-no_slot entry n e.id none in
          let grown : len (with_entry (Some e) (selected entry n)) ≡ len (selected entry n) + 1 =
          ap (λ (o : Option (List ℕ × ℕ)). len (cond (is_newer e o) (insert (selected entry n) e.id (e.body, e.generation)) (selected entry n))) absent
          ∙ len-insert nat_cmp_total (selected entry n) e.id (e.body, e.generation)
          ∙ ap (λ (o : Option (List ℕ × ℕ)). cond (is_some o) (len (selected entry n)) (len (selected entry n) + 1)) absent in
          omega arith
      | inl some ↦ with_chosen e at so_far some.0 some.1 some.2 some.3
    ]
      where
        with_chosen : (e : Entry) → entry n ≡ Some e → count_below (is_first entry n) n ≡ len (selected entry n) → (j : ℕ) (c : Entry) → IsChosen entry n j c → c.id ≡ e.id
            → one_if (is_first entry (suc n) n) + count_below (is_first entry (suc n)) n ≡ len (with_entry (Some e) (selected entry n))
        with_chosen e at so_far j c chosen key =
            let kept : get (selected entry n) e.id ≡ Some (c.body, c.generation) =
            ap (get (selected entry n)) (sym key) ∙ get-chosen entry n j c chosen in
            let same_len : len (insert (selected entry n) e.id (e.body, e.generation)) ≡ len (selected entry n) =
            len-insert nat_cmp_total (selected entry n) e.id (e.body, e.generation)
            ∙ ap (λ (o : Option (List ℕ × ℕ)). cond (is_some o) (len (selected entry n)) (len (selected entry n) + 1)) kept in
            let is : with_entry (Some e) (selected entry n) ≡ cond (nat_lt c.generation e.generation) (insert (selected entry n) e.id (e.body, e.generation)) (selected entry n) =
            ap (λ (o : Option (List ℕ × ℕ)). cond (is_newer e o) (insert (selected entry n) e.id (e.body, e.generation)) (selected entry n)) kept in
            elim (cases_lt c.generation e.generation) [
              | inl newer ↦
                  let newest = more n e (IsChosen-newest entry n e at (λ i other h at_i same.
                  let most : other.generation ≤ c.generation = chosen.greatest i other h at_i (same ∙ sym key) in omega arith)) in
                  let one : one_if (is_first entry (suc n) n) ≡ 1 = ap one_if (chosen-is_first entry (suc n) n e newest) in
                  let low : j < n = chosen.within in
                  let lost : is_first entry (suc n) j ≡ false = false_from_ne_true (is_first entry (suc n) j) (λ first.
                  let had = is_first-chosen entry (suc n) j (omega arith) first in
                  let mine : had.0 ≡ c = same_Some had.0 c (sym (had.1).here ∙ chosen.here) in
                  let last : j ≡ n = IsChosen-unique entry (suc n) j n had.0 e had.1 newest (ap (λ (x : Entry). x.id) mine ∙ key) in
                  omega arith) in
                  let less : count_below (is_first entry (suc n)) n + 1 ≡ count_below (is_first entry n) n =
                  count_below-less (is_first entry n) (is_first entry (suc n)) n j low (chosen-is_first entry n j c chosen) lost (λ k h apart.
                  is_first-same entry entry n (suc n) k h (omega arith)
                  (λ b its. more k b (IsChosen-stays entry n k b e at (λ same. absurd (apart (IsChosen-unique entry n k j b c its chosen (sym same ∙ sym key)))) its))
                  (λ b its. IsChosen-below entry n k b h its)) in
                  let stays : len (with_entry (Some e) (selected entry n)) ≡ len (selected entry n) =
                  ap (λ (m : Stored). len m) is ∙ ap (λ (b : Bool). len (cond b (insert (selected entry n) e.id (e.body, e.generation)) (selected entry n)))
                  (lt-ltb c.generation e.generation newer) ∙ same_len in
                  omega arith
              | inr older ↦
                  let none : one_if (is_first entry (suc n) n) ≡ 0 = ap one_if (last_false (λ x its.
                  let mine : x ≡ e = same_Some x e (sym its.here ∙ at) in
                  let less : c.generation < x.generation = its.lowest j c chosen.within chosen.here (key ∙ ap (λ (y : Entry). y.id) (sym mine)) in
                  let equal : x.generation ≡ e.generation = ap (λ (y : Entry). y.generation) mine in
                  omega arith)) in
                  let others : count_below (is_first entry (suc n)) n ≡ count_below (is_first entry n) n =
                  count_below-same (is_first entry n) (is_first entry (suc n)) n (λ k h.
                  is_first-same entry entry n (suc n) k h (omega arith)
                  (λ b its. more k b (IsChosen-stays entry n k b e at (λ same.
                  let here : k ≡ j = IsChosen-unique entry n k j b c its chosen (sym same ∙ sym key) in
                  let mine : b ≡ c = same_Some b c (sym its.here ∙ ap entry here ∙ chosen.here) in
                  let equal : b.generation ≡ c.generation = ap (λ (y : Entry). y.generation) mine in
                  omega arith) its))
                  (λ b its. IsChosen-below entry n k b h its)) in
                  let stays : len (with_entry (Some e) (selected entry n)) ≡ len (selected entry n) =
                  ap (λ (m : Stored). len m) is ∙ ap (λ (b : Bool). len (cond b (insert (selected entry n) e.id (e.body, e.generation)) (selected entry n))) (le-ltb c.generation e.generation older) in
                  omega arith
            ]
