-- The slots that a write takes, those of least number of the free ones, and the free ones after its gate.
use Rattle.std.proofs.Common.{◌≡◌, ◌≢◌, ℕ, zero, suc, ◌<◌, ◌≤◌, Bool, true, false, not, List, [], ◌∷◌, take, drop, Option, Some, None, refl, sym, ap, subst, ◌∙◌, arith, inl, inr}
use Rattle.std.specs.Prelude.{◌==◌, ◌||◌}
use Rattle.std.specs.List.{list_any}
use Rattle.std.proofs.lemmas.Bool.{cases_eq, eq-eqb, eqb-true, or_cases, or_parts, or_from, both_ways, false_from_ne_true, not-true}
use Rattle.std.specs.List.Sorted.{IsStrictlyIncreasing}
use Rattle.record_model.specs.Records.{Entry, holds, is_taken, AreDistinct, AreBelow}
use Rattle.record_slots.specs.Listed.{IsListed, free_slots}
use Rattle.record_slots.proofs.FreeLemmas.{rising-tail, listed-cons, listed_above, list_below-are, list_below-all, list_below-rising, are_below}

-- what is among the first of a list, or behind them
any_listed : (xs : List ℕ) (k : ℕ) → list_any (λ n. k == n) xs ≡ true → IsListed xs k
any_listed [] k any = absurd (both_ways false refl any)
any_listed (x ∷ xs) k any = elim (or_cases (k == x) (list_any (λ n. k == n) xs) any) [
  | inl here ↦ (0, omega arith, sym (eqb-true k x here))
  | inr later ↦ listed-cons x xs k (any_listed xs k later)
]

-- numbers in rising order are distinct
pub rising_distinct : (xs : List ℕ) → IsStrictlyIncreasing xs → AreDistinct xs
rising_distinct [] up = tt
rising_distinct (x ∷ xs) up =
    (false_from_ne_true (list_any (λ n. x == n) xs) (λ any. let above : x < x = listed_above x xs x up (any_listed xs x any) in omega arith), rising_distinct xs (rising-tail x xs up))

pub distinct_take : (n : ℕ) (xs : List ℕ) → AreDistinct xs → AreDistinct (take n xs)
distinct_take zero xs apart = tt
distinct_take (suc n) [] apart = tt
distinct_take (suc n) (x ∷ xs) apart = (not_in_front n x xs apart.0, distinct_take n xs apart.1)
  where
    not_in_front : (m y : ℕ) (ys : List ℕ) → list_any (λ k. y == k) ys ≡ false → list_any (λ k. y == k) (take m ys) ≡ false
    not_in_front zero y ys none = refl
    not_in_front (suc m) y [] none = refl
    not_in_front (suc m) y (z ∷ ys) none = let both = or_parts (y == z) (list_any (λ k. y == k) ys) none in or_from (y == z) _ both.0 (not_in_front m y ys both.1)

listed_front : (n : ℕ) (xs : List ℕ) (k : ℕ) → IsListed (take n xs) k → IsListed xs k
listed_front zero xs k listed = let low : listed.0 < 0 = listed.1 in absurd (omega arith)
listed_front (suc n) [] k listed = listed
listed_front (suc n) (x ∷ xs) k (zero, h, is) = (0, omega arith, is)
listed_front (suc n) (x ∷ xs) k (suc i, h, is) = listed-cons x xs k (listed_front n xs k (i, omega arith, is))

below_each : (slots : ℕ) (xs : List ℕ) → ((k : ℕ) → IsListed xs k → k < slots) → AreBelow slots xs
below_each slots [] each = tt
below_each slots (x ∷ xs) each = (each x (0, omega arith, refl), below_each slots xs (λ k listed. each k (listed-cons x xs k listed)))

-- the free slots of least number: distinct slots of the store, none of them one of a record
pub record AreFree (entry : ℕ → Option Entry) (slots : ℕ) (taken : List ℕ) : Type 0 where
  pub distinct : AreDistinct taken
  pub below : AreBelow slots taken
  pub free : (k : ℕ) → list_any (λ n. k == n) taken ≡ true → (k < slots) × (is_taken entry slots k ≡ false)

pub least_free : (entry : ℕ → Option Entry) (slots count : ℕ) (free : List ℕ) → free ≡ free_slots entry slots → AreFree entry slots (take count free)
unfolding free_slots
least_free entry slots count free is =
    let test = λ (k : ℕ). not (is_taken entry slots k) in
    let each = λ (k : ℕ) (listed : IsListed (take count free) k). list_below-are test slots k (subst (λ (xs : List ℕ). IsListed xs k) is (listed_front count free k listed)) in
    record {
      distinct = distinct_take count free (rising_distinct free (subst (λ (xs : List ℕ). IsStrictlyIncreasing xs) (sym is) (list_below-rising test slots)));
      below = below_each slots (take count free) (λ k listed. (each k listed).0);
      free = λ k any. let had = each k (any_listed (take count free) k any) in (had.0, not-true (is_taken entry slots k) had.1);
    }

-- behind the first of a list in rising order
rising_drop : (n : ℕ) (xs : List ℕ) → IsStrictlyIncreasing xs → IsStrictlyIncreasing (drop n xs)
rising_drop zero xs up = up
rising_drop (suc n) [] up = up
rising_drop (suc n) (x ∷ xs) up = rising_drop n xs (rising-tail x xs up)

behind_listed : (n : ℕ) (xs : List ℕ) (k : ℕ) → IsListed (drop n xs) k → IsListed xs k
behind_listed zero xs k listed = listed
behind_listed (suc n) [] k listed = listed
behind_listed (suc n) (x ∷ xs) k listed = listed-cons x xs k (behind_listed n xs k listed)

behind_apart : (n : ℕ) (xs : List ℕ) (k : ℕ) → IsStrictlyIncreasing xs → IsListed (drop n xs) k → list_any (λ m. k == m) (take n xs) ≡ false
behind_apart zero xs k up listed = refl
behind_apart (suc n) [] k up listed = refl
behind_apart (suc n) (x ∷ xs) k up listed =
    let above : x < k = listed_above x xs k up (behind_listed n xs k listed) in
    or_from (k == x) _ (false_from_ne_true (k == x) (λ is. let e : k ≡ x = eqb-true k x is in omega arith)) (behind_apart n xs k (rising-tail x xs up) listed)

front_or_behind : (n : ℕ) (xs : List ℕ) (k : ℕ) → IsListed xs k → list_any (λ m. k == m) (take n xs) ≡ false → IsListed (drop n xs) k
front_or_behind zero xs k listed none = listed
front_or_behind (suc n) [] k listed none = listed
front_or_behind (suc n) (x ∷ xs) k (zero, h, is) none =
    let both = or_parts (k == x) (list_any (λ m. k == m) (take n xs)) none in absurd (both_ways (k == x) both.0 (eq-eqb k x (sym is)))
front_or_behind (suc n) (x ∷ xs) k (suc i, h, is) none =
    let both = or_parts (k == x) (list_any (λ m. k == m) (take n xs)) none in front_or_behind n xs k (i, omega arith, is) both.1

-- after the gate: where the record has taken the free slots of least number, those behind them are free
pub free_slots-gate : (entry other : ℕ → Option Entry) (slots count : ℕ) (free : List ℕ) → free ≡ free_slots entry slots
    → ((k : ℕ) → k < slots → is_taken other slots k ≡ (is_taken entry slots k || list_any (λ n. k == n) (take count free))) → drop count free ≡ free_slots other slots
unfolding free_slots
free_slots-gate entry other slots count free is taken =
    are_below (λ k. not (is_taken other slots k)) slots (drop count free) (rising_drop count free up)
    (λ k listed.
    let had = list_below-are test slots k (subst (λ (xs : List ℕ). IsListed xs k) is (behind_listed count free k listed)) in
    (had.0, ap not (taken k had.0 ∙ or_from (is_taken entry slots k) _ (not-true (is_taken entry slots k) had.1) (behind_apart count free k up listed))))
    (λ k h pass.
    let both = or_parts (is_taken entry slots k) (list_any (λ n. k == n) (take count free)) (sym (taken k h) ∙ not-true (is_taken other slots k) pass) in
    front_or_behind count free k (subst (λ (xs : List ℕ). IsListed xs k) (sym is) (list_below-all test slots k h (ap not both.0))) both.1)
  where
    test : ℕ → Bool
    test k = not (is_taken entry slots k)

    up : IsStrictlyIncreasing free
    up = subst (λ (xs : List ℕ). IsStrictlyIncreasing xs) (sym is) (list_below-rising (λ k. not (is_taken entry slots k)) slots)

-- a slot that had no record got one: its slots are taken, and every other slot as it was
pub taken_gains : (entry other : ℕ → Option Entry) (n j : ℕ) (e : Entry) → j < n → ((k : ℕ) → k ≢ j → other k ≡ entry k) → entry j ≡ None → other j ≡ Some e
    → (i : ℕ) → is_taken other n i ≡ (is_taken entry n i || holds (Some e) j i)
unfolding is_taken
taken_gains entry other n j e within same none here i = gains n within
  where
    same_taken : (m : ℕ) → m ≤ j → is_taken other m i ≡ is_taken entry m i
    same_taken zero h = refl
    same_taken (suc m) h =
        ap (λ (b : Bool). b || holds (other m) m i) (same_taken m (omega arith))
        ∙ ap (λ (o : Option Entry). is_taken entry m i || holds o m i) (same m (λ equal. omega arith))

    at_gate : (t h : Bool) → (t || h) ≡ ((t || false) || h)
    at_gate true h = refl
    at_gate false h = refl

    swapped : (t h x : Bool) → ((t || h) || x) ≡ ((t || x) || h)
    swapped true h x = refl
    swapped false true true = refl
    swapped false true false = refl
    swapped false false true = refl
    swapped false false false = refl

    gains : (m : ℕ) → j < m → is_taken other m i ≡ (is_taken entry m i || holds (Some e) j i)
    gains zero h = absurd (omega arith)
    gains (suc m) h = elim (cases_eq m j) [
      | inl last ↦
          let is_some : other m ≡ Some e = ap other last ∙ here in
          let was_none : entry m ≡ None = ap entry last ∙ none in
          ap (λ (b : Bool). b || holds (other m) m i) (same_taken m (omega arith))
          ∙ ap (λ (o : Option Entry). is_taken entry m i || holds o m i) is_some
          ∙ ap (λ (k : ℕ). is_taken entry m i || holds (Some e) k i) last
          ∙ at_gate (is_taken entry m i) (holds (Some e) j i)
          ∙ ap (λ (o : Option Entry). (is_taken entry m i || holds o m i) || holds (Some e) j i) (sym was_none)
      | inr apart ↦
          ap (λ (b : Bool). b || holds (other m) m i) (gains m (omega arith))
          ∙ ap (λ (o : Option Entry). (is_taken entry m i || holds (Some e) j i) || holds o m i) (same m apart)
          ∙ swapped (is_taken entry m i) (holds (Some e) j i) (holds (entry m) m i)
    ]
