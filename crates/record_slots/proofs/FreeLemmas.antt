-- The free slots as a list: the one list in rising order that has them and no others.
use Rattle.std.proofs.Common.{◌≡◌, ◌⊎◌, ℕ, zero, suc, ◌+◌, ◌-◌, ◌<◌, ◌≤◌, Bool, true, false, List, [], ◌∷◌, ◌++◌, length, get_or, refl, sym, ap, subst, ◌∙◌, arith, inl, inr}
use Rattle.std.proofs.lemmas.Bool.{cases_lt, cases_eq, both_ways}
use Rattle.std.specs.Prelude.{insert}
use Rattle.std.proofs.lemmas.List.Edits.{insert_end, length-insert, get_or-insert_below, get_or-insert_at, get_or-insert_above}
use Rattle.std.specs.List.Sorted.{IsStrictlyIncreasing}
use Rattle.record_slots.proofs.RisingLemmas.{rising, rising_le}
use Rattle.record_slots.specs.Listed.{IsListed, with_number, list_below}
use Rattle.record_slots.proofs.ListedLemmas.{rising-insert}

pub rising-tail : (x : ℕ) (xs : List ℕ) → IsStrictlyIncreasing (x ∷ xs) → IsStrictlyIncreasing xs
rising-tail x xs up k h =
    let e : k + 1 ≡ suc k = omega arith in
    let e' : (k + 1) + 1 ≡ suc (k + 1) = omega arith in
    let step : get_or (x ∷ xs) (k + 1) 0 < get_or (x ∷ xs) (k + 1 + 1) 0 = up (k + 1) (omega arith) in
    let left : get_or (x ∷ xs) (k + 1) 0 ≡ get_or xs k 0 = ap (λ (i : ℕ). get_or (x ∷ xs) i 0) e in
    let right : get_or (x ∷ xs) (k + 1 + 1) 0 ≡ get_or xs (k + 1) 0 = ap (λ (i : ℕ). get_or (x ∷ xs) i 0) e' in
    omega arith

-- the head is the least
head_least : (x : ℕ) (xs : List ℕ) (k : ℕ) → IsStrictlyIncreasing (x ∷ xs) → IsListed (x ∷ xs) k → x ≤ k
head_least x xs k up listed =
    let le : get_or (x ∷ xs) 0 0 ≤ get_or (x ∷ xs) listed.0 0 = rising_le (x ∷ xs) up 0 listed.0 (omega arith) listed.1 in
    let is : get_or (x ∷ xs) listed.0 0 ≡ k = listed.2 in
    omega arith

pub listed-cons : (x : ℕ) (xs : List ℕ) (k : ℕ) → IsListed xs k → IsListed (x ∷ xs) k
listed-cons x xs k listed = let low : listed.0 < length xs = listed.1 in (suc listed.0, omega arith, listed.2)

-- what is listed is the head or behind it, and then greater
pub listed_behind : (x : ℕ) (xs : List ℕ) (k : ℕ) → x < k → IsListed (x ∷ xs) k → IsListed xs k
listed_behind x xs k above (zero, h, is) = absurd (let e : x ≡ k = is in omega arith)
listed_behind x xs k above (suc i, h, is) = (i, omega arith, is)

pub listed_above : (x : ℕ) (xs : List ℕ) (k : ℕ) → IsStrictlyIncreasing (x ∷ xs) → IsListed xs k → x < k
listed_above x xs k up listed =
    let low : listed.0 < length xs = listed.1 in
    let less : get_or (x ∷ xs) 0 0 < get_or (x ∷ xs) (suc listed.0) 0 = rising (x ∷ xs) up 0 (suc listed.0) (omega arith) (omega arith) in
    let is : get_or xs listed.0 0 ≡ k = listed.2 in
    omega arith

-- two lists in rising order that have the same numbers are one
pub rising_same : (xs ys : List ℕ) → IsStrictlyIncreasing xs → IsStrictlyIncreasing ys → ((k : ℕ) → IsListed xs k → IsListed ys k) → ((k : ℕ) → IsListed ys k → IsListed xs k) → xs ≡ ys
rising_same [] [] up up' there back = refl
rising_same [] (y ∷ ys) up up' there back = let none = back y (0, omega arith, refl) in let low : none.0 < 0 = none.1 in absurd (omega arith)
rising_same (x ∷ xs) [] up up' there back = let none = there x (0, omega arith, refl) in let low : none.0 < 0 = none.1 in absurd (omega arith)
rising_same (x ∷ xs) (y ∷ ys) up up' there back =
    let one : y ≤ x = head_least y ys x up' (there x (0, omega arith, refl)) in
    let other : x ≤ y = head_least x xs y up (back y (0, omega arith, refl)) in
    let heads : x ≡ y = omega arith in
    let tails : xs ≡ ys = rising_same xs ys (rising-tail x xs up) (rising-tail y ys up')
    (λ k listed. let above : x < k = listed_above x xs k up listed in listed_behind y ys k (omega arith) (there k (listed-cons x xs k listed)))
    (λ k listed. let above : y < k = listed_above y ys k up' listed in listed_behind x xs k (omega arith) (back k (listed-cons y ys k listed))) in
    cc

-- one more number at the end
pub listed-push : (xs : List ℕ) (n k : ℕ) → IsListed xs k → IsListed (xs ++ n ∷ []) k
listed-push [] n k listed = let low : listed.0 < 0 = listed.1 in absurd (omega arith)
listed-push (x ∷ xs) n k (zero, h, is) = (0, omega arith, is)
listed-push (x ∷ xs) n k (suc i, h, is) = listed-cons x (xs ++ n ∷ []) k (listed-push xs n k (i, omega arith, is))

pub listed-pushed : (xs : List ℕ) (n : ℕ) → IsListed (xs ++ n ∷ []) n
listed-pushed [] n = (0, omega arith, refl)
listed-pushed (x ∷ xs) n = listed-cons x (xs ++ n ∷ []) n (listed-pushed xs n)

pub listed_push-cases : (xs : List ℕ) (n k : ℕ) → IsListed (xs ++ n ∷ []) k → (IsListed xs k) ⊎ (k ≡ n)
listed_push-cases [] n k (zero, h, is) = inr (sym is)
listed_push-cases [] n k (suc i, h, is) = absurd (omega arith)
listed_push-cases (x ∷ xs) n k (zero, h, is) = inl (0, omega arith, is)
listed_push-cases (x ∷ xs) n k (suc i, h, is) = elim (listed_push-cases xs n k (i, omega arith, is)) [
  | inl before ↦ inl (listed-cons x xs k before)
  | inr here ↦ inr here
]

-- what is listed below passes the test, and what passes it is listed
pub list_below-are : (test : ℕ → Bool) (n k : ℕ) → IsListed (list_below test n) k → (k < n) × (test k ≡ true)
unfolding list_below
list_below-are test zero k listed = let low : listed.0 < 0 = listed.1 in absurd (omega arith)
list_below-are test (suc n) k listed = with_last (λ l. let had = list_below-are test n k l in let low : k < n = had.0 in (omega arith, had.1)) (test n) refl listed
  where
    with_last : (IsListed (list_below test n) k → (k < suc n) × (test k ≡ true)) → (b : Bool) → test n ≡ b → IsListed (with_number b n (list_below test n)) k → (k < suc n) × (test k ≡ true)
    with_last earlier true is l = elim (listed_push-cases (list_below test n) n k l) [
      | inl before ↦ earlier before
      | inr here ↦ (omega arith, ap test here ∙ is)
    ]
    with_last earlier false is l = earlier l

pub list_below-all : (test : ℕ → Bool) (n k : ℕ) → k < n → test k ≡ true → IsListed (list_below test n) k
unfolding list_below
list_below-all test zero k h pass = absurd (omega arith)
list_below-all test (suc n) k h pass = with_last (λ l. list_below-all test n k l pass) (test n) refl
  where
    with_last : (k < n → IsListed (list_below test n) k) → (b : Bool) → test n ≡ b → IsListed (with_number b n (list_below test n)) k
    with_last earlier true is = elim (cases_eq k n) [
      | inl here ↦ subst (λ (x : ℕ). IsListed (list_below test n ++ n ∷ []) x) (sym here) (listed-pushed (list_below test n) n)
      | inr before ↦ listed-push (list_below test n) n k (earlier (omega arith))
    ]
    with_last earlier false is = elim (cases_eq k n) [
      | inl here ↦ absurd (both_ways (test n) is (ap test (sym here) ∙ pass))
      | inr before ↦ earlier (omega arith)
    ]

-- a greater number at the end keeps the order
pub rising-push : (xs : List ℕ) (n : ℕ) → IsStrictlyIncreasing xs → ((k : ℕ) → k < length xs → get_or xs k 0 < n) → IsStrictlyIncreasing (xs ++ n ∷ [])
rising-push xs n up below =
    subst (λ (ys : List ℕ). IsStrictlyIncreasing ys) (insert_end xs n) (rising-insert xs (length xs) n up (omega arith) below (λ k from h. absurd (omega arith)))

pub list_below-rising : (test : ℕ → Bool) (n : ℕ) → IsStrictlyIncreasing (list_below test n)
unfolding list_below
list_below-rising test zero = λ k h. absurd (omega arith)
list_below-rising test (suc n) = with_last (test n) (list_below-rising test n)
  where
    with_last : (b : Bool) → IsStrictlyIncreasing (list_below test n) → IsStrictlyIncreasing (with_number b n (list_below test n))
    with_last true up = rising-push (list_below test n) n up (λ k h. (list_below-are test n (get_or (list_below test n) k 0) (k, h, refl)).0)
    with_last false up = up

-- a list in rising order that has the numbers which pass and no others
pub are_below : (test : ℕ → Bool) (n : ℕ) (xs : List ℕ) → IsStrictlyIncreasing xs
    → ((k : ℕ) → IsListed xs k → (k < n) × (test k ≡ true)) → ((k : ℕ) → k < n → test k ≡ true → IsListed xs k) → xs ≡ list_below test n
are_below test n xs up are all =
    rising_same xs (list_below test n) up (list_below-rising test n)
    (λ k listed. let is = are k listed in list_below-all test n k is.0 is.1)
    (λ k listed. let is = list_below-are test n k listed in all k is.0 is.1)

-- tests that agree below n
pub list_below-same : (test other : ℕ → Bool) (n : ℕ) → ((k : ℕ) → k < n → other k ≡ test k) → list_below other n ≡ list_below test n
unfolding list_below
list_below-same test other zero same = refl
list_below-same test other (suc n) same =
    ap (λ (b : Bool). with_number b n (list_below other n)) (same n (omega arith)) ∙ ap (with_number (test n) n) (list_below-same test other n (λ k h. same k (omega arith)))

pub insert_listed : (ids : List ℕ) (at id x : ℕ) → at ≤ length ids → IsListed (insert ids at id) x → (IsListed ids x) ⊎ (x ≡ id)
insert_listed ids at id x within listed =
    let long : length (insert ids at id) ≡ length ids + 1 = length-insert ids at id within in
    let low : listed.0 < length (insert ids at id) = listed.1 in
    elim (cases_lt listed.0 at) [
      | inl before ↦ inl (listed.0, omega arith, sym (get_or-insert_below ids at id 0 listed.0 before within) ∙ listed.2)
      | inr from ↦ elim (cases_eq listed.0 at) [
        | inl here ↦ inr (sym listed.2 ∙ ap (λ (i : ℕ). get_or (insert ids at id) i 0) here ∙ get_or-insert_at ids at id 0 within)
        | inr apart ↦
            let behind : at ≤ listed.0 - 1 = omega arith in
            let back : (listed.0 - 1) + 1 ≡ listed.0 = omega arith in
            inl (listed.0 - 1, omega arith, sym (get_or-insert_above ids at id 0 (listed.0 - 1) behind within) ∙ ap (λ (i : ℕ). get_or (insert ids at id) i 0) back ∙ listed.2)
      ]
    ]

-- so many slots at most are listed
pub length-rising : (xs : List ℕ) (n : ℕ) → IsStrictlyIncreasing xs → ((i : ℕ) → i < length xs → get_or xs i 0 < n) → length xs ≤ n
length-rising xs n up below = elim (cases_eq (length xs) 0) [
  | inl none ↦ omega arith
  | inr some ↦
      let last : get_or xs (length xs - 1) 0 < n = below (length xs - 1) (omega arith) in
      let high : length xs - 1 ≤ get_or xs (length xs - 1) 0 = at_least (length xs - 1) (omega arith) in
      omega arith
]
  where
    at_least : (i : ℕ) → i < length xs → i ≤ get_or xs i 0
    at_least zero h = omega arith
    at_least (suc i) h =
        let ih : i ≤ get_or xs i 0 = at_least i (omega arith) in
        let less : get_or xs i 0 < get_or xs (suc i) 0 = rising xs up i (suc i) (omega arith) h in
        omega arith
