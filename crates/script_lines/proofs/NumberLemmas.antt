-- Beginnings of numbers.
use Rattle.std.proofs.Common.{◌≡◌, ℕ, ◌+◌, ◌*◌, ◌/◌, ◌%◌, ◌^◌, ◌<◌, ◌≤◌, ◌⊎◌, inl, inr, List, [], ◌∷◌, ◌++◌, length, take, drop, get_or, refl, sym, ap, ◌∙◌, arith}
use Rattle.std.specs.Prelude.{decimal, All}
use Rattle.std.proofs.lemmas.Bool.{cases_lt, cases_eq}
use Rattle.std.proofs.lemmas.Fmt.{decimal_digit, decimal_step, decimal_by_steps, decimal_injective, decimal_nonempty}
use Rattle.std.proofs.lemmas.List.{take_all, take_more, take-take, take-append-drop, length-take-le, length-append, append-nil}
use Rattle.std.proofs.lemmas.List.Elements.{All-push, All-cons, All-nil}
use Rattle.script_lines.specs.Columns.{Begins, Breaks}
use Rattle.script_lines.specs.Parts.{IsNumber, IsLongestNumber}

nil_right : (p rest : List ℕ) → p ++ rest ≡ [] → rest ≡ []
nil_right [] rest e = e
nil_right (x ∷ p) rest e = absurd (cc e)

nil_left : (p rest : List ℕ) → p ++ rest ≡ [] → p ≡ []
nil_left [] rest e = refl
nil_left (x ∷ p) rest e = absurd (cc e)

-- a beginning of a list with one element more is the whole, or a beginning of the list
snoc_front : (p rest ds : List ℕ) (d : ℕ) → p ++ rest ≡ ds ++ d ∷ [] → (rest ≡ []) ⊎ ((r : List ℕ) × (p ++ r ≡ ds))
snoc_front [] [] ds d e = inl refl
snoc_front [] (x ∷ rest) ds d e = inr (ds, refl)
snoc_front (x ∷ p) rest [] d e = inl (nil_right p rest (tails e))
  where
    tails : x ∷ p ++ rest ≡ d ∷ [] → p ++ rest ≡ []
    tails e = cc e
snoc_front (x ∷ p) rest (y ∷ ds) d e = more (snoc_front p rest ds d (tails e))
  where
    tails : x ∷ p ++ rest ≡ y ∷ ds ++ d ∷ [] → p ++ rest ≡ ds ++ d ∷ []
    tails e = cc e

    heads : x ∷ p ++ rest ≡ y ∷ ds ++ d ∷ [] → x ≡ y
    heads e = cc e

    more : (rest ≡ []) ⊎ ((r : List ℕ) × (p ++ r ≡ ds)) → (rest ≡ []) ⊎ ((r : List ℕ) × (x ∷ p ++ r ≡ y ∷ ds))
    more (inl none) = inl none
    more (inr (r, is)) = inr (r, let h : x ≡ y = heads e in cc (h, is))

snoc_same : (xs ys : List ℕ) (x y : ℕ) → xs ++ x ∷ [] ≡ ys ++ y ∷ [] → (xs ≡ ys) × (x ≡ y)
snoc_same [] [] x y e = (refl, cc e)
snoc_same [] (b ∷ ys) x y e = absurd (short (length ys) (ap length e ∙ length-append (b ∷ ys) (y ∷ [])))
  where
    short : (n : ℕ) → 1 ≡ length (b ∷ ys) + 1 → ⊥
    short n e = omega arith
snoc_same (a ∷ xs) [] x y e = absurd (short (sym (length-append (a ∷ xs) (x ∷ [])) ∙ ap length e))
  where
    short : length (a ∷ xs) + 1 ≡ 1 → ⊥
    short e = omega arith
snoc_same (a ∷ xs) (b ∷ ys) x y e = both (snoc_same xs ys x y (tails e))
  where
    tails : a ∷ xs ++ x ∷ [] ≡ b ∷ ys ++ y ∷ [] → xs ++ x ∷ [] ≡ ys ++ y ∷ []
    tails e = cc e

    heads : a ∷ xs ++ x ∷ [] ≡ b ∷ ys ++ y ∷ [] → a ≡ b
    heads e = cc e

    both : (xs ≡ ys) × (x ≡ y) → (a ∷ xs ≡ b ∷ ys) × (x ≡ y)
    both (same, last) = (let h : a ≡ b = heads e in cc (h, same), last)

-- a beginning of a number's digits is empty, or the digits of a number that isn't greater
abbrev pub IsFront : ℕ → List ℕ → Type 0
IsFront n p = (p ≡ []) ⊎ ((m : ℕ) × (m ≤ n) × (p ≡ decimal m) × (1 ≤ n → 1 ≤ m))

abbrev HasFronts : ℕ → List ℕ → Type 0
HasFronts n ds = n < 2 ^ 64 → (ds ≡ decimal n) × ((p rest : List ℕ) → p ++ rest ≡ ds → IsFront n p)

fronts_one : (n : ℕ) → n < 10 → HasFronts n ((48 + n) ∷ [])
fronts_one n small fits = (sym (decimal_digit n small), front)
  where
    front : (p rest : List ℕ) → p ++ rest ≡ (48 + n) ∷ [] → IsFront n p
    front [] rest e = inl refl
    front (x ∷ p) rest e = inr (
      n,
      omega arith,
      let none : p ≡ [] = nil_left p rest (tails e) in let h : x ≡ 48 + n = heads e in
          let same : x ∷ p ≡ (48 + n) ∷ [] = cc (none, h) in same ∙ sym (decimal_digit n small),
      λ h. h,
    )
      where
        tails : x ∷ p ++ rest ≡ (48 + n) ∷ [] → p ++ rest ≡ []
        tails e = cc e

        heads : x ∷ p ++ rest ≡ (48 + n) ∷ [] → x ≡ 48 + n
        heads e = cc e

fronts_more : (n : ℕ) (ds : List ℕ) → 10 ≤ n → HasFronts (n / 10) ds → HasFronts n (ds ++ (48 + n % 10) ∷ [])
fronts_more n ds long before fits = (whole, λ p rest e. choose p rest e (snoc_front p rest ds (48 + n % 10) e))
  where
    below : n / 10 < 2 ^ 64
    below = omega arith

    whole : ds ++ (48 + n % 10) ∷ [] ≡ decimal n
    whole = ap (λ (xs : List ℕ). xs ++ (48 + n % 10) ∷ []) (before below).0 ∙ sym (decimal_step n long fits)

    wider : (p : List ℕ) → IsFront (n / 10) p → IsFront n p
    wider p (inl none) = inl none
    wider p (inr (m, most, is, least)) = inr (m, omega arith, is, λ h. least (omega arith))

    choose : (p rest : List ℕ) → p ++ rest ≡ ds ++ (48 + n % 10) ∷ [] → (rest ≡ []) ⊎ ((r : List ℕ) × (p ++ r ≡ ds)) → IsFront n p
    choose p rest e (inl none) = inr (n, omega arith, sym (append-nil p) ∙ ap (λ (r : List ℕ). p ++ r) (sym none) ∙ e ∙ whole, λ h. h)
    choose p rest e (inr (r, is)) = wider p ((before below).1 p r is)

pub front_number : (n : ℕ) (p rest : List ℕ) → n < 2 ^ 64 → p ++ rest ≡ decimal n → IsFront n p
front_number n p rest fits e = (decimal_by_steps HasFronts fronts_one fronts_more n fits fits).1 p rest e

-- digits are no space
digits_one : (n : ℕ) → n < 10 → All (λ c. 48 ≤ c) ((48 + n) ∷ [])
digits_one n small = All-cons (λ c. 48 ≤ c) (48 + n) [] (omega arith) (All-nil (λ c. 48 ≤ c))

digits_more : (n : ℕ) (ds : List ℕ) → 10 ≤ n → All (λ c. 48 ≤ c) ds → All (λ c. 48 ≤ c) (ds ++ (48 + n % 10) ∷ [])
digits_more n ds long all = All-push (λ c. 48 ≤ c) ds (48 + n % 10) all (omega arith)

pub all_digits : (n : ℕ) → n < 2 ^ 64 → All (λ c. 48 ≤ c) (decimal n)
all_digits n fits = decimal_by_steps (λ n ds. All (λ c. 48 ≤ c) ds) digits_one digits_more n fits

-- the last digit of a number
last_digit : (v m b : ℕ) → v < 2 ^ 64 → m < 2 ^ 64 → decimal m ≡ decimal v ++ b ∷ [] → (d : ℕ) × (d < 10) × (b ≡ 48 + d) × (m ≡ v * 10 + d) × (0 < v)
last_digit v m b v_fits m_fits e = choose (cases_lt m 10)
  where
    longer : (parts : (decimal (m / 10) ≡ decimal v) × (48 + m % 10 ≡ b)) → 10 ≤ m → (d : ℕ) × (d < 10) × (b ≡ 48 + d) × (m ≡ v * 10 + d) × (0 < v)
    longer (same, last) long =
        let q : m / 10 ≡ v = decimal_injective (m / 10) v (omega arith) v_fits same in
        (m % 10, omega arith, sym last, omega arith, omega arith)

    choose : (m < 10) ⊎ (10 ≤ m) → (d : ℕ) × (d < 10) × (b ≡ 48 + d) × (m ≡ v * 10 + d) × (0 < v)
    choose (inl small) =
        let one : length (decimal m) ≡ 1 = ap length (decimal_digit m small) in
        let some : 0 < length (decimal v) = decimal_nonempty v v_fits in
        let l : length (decimal m) ≡ length (decimal v) + 1 = ap length e ∙ length-append (decimal v) (b ∷ []) in
        absurd (omega arith)
    choose (inr long) = longer (snoc_same (decimal (m / 10)) (decimal v) (48 + m % 10) b (sym (decimal_step m long m_fits) ∙ e)) long

-- the only digit of a number
first_digit : (m b : ℕ) → m < 2 ^ 64 → decimal m ≡ b ∷ [] → (m < 10) × (b ≡ 48 + m)
first_digit m b fits e = choose (cases_lt m 10)
  where
    heads : b ∷ [] ≡ (48 + m) ∷ [] → b ≡ 48 + m
    heads e = cc e

    choose : (m < 10) ⊎ (10 ≤ m) → (m < 10) × (b ≡ 48 + m)
    choose (inl small) = (small, heads (sym e ∙ decimal_digit m small))
    choose (inr long) =
        let some : 0 < length (decimal (m / 10)) = decimal_nonempty (m / 10) (omega arith) in
        let l : length (decimal (m / 10) ++ (48 + m % 10) ∷ []) ≡ length (decimal (m / 10)) + 1 = length-append (decimal (m / 10)) ((48 + m % 10) ∷ []) in
        let l' : length (decimal (m / 10) ++ (48 + m % 10) ∷ []) ≡ 1 = ap length (sym (decimal_step m long fits) ∙ e) in
        absurd (omega arith)

-- a number with one digit more
next_digit : (v d n : ℕ) → 0 < v → d < 10 → n ≡ v * 10 + d → n < 2 ^ 64 → decimal n ≡ decimal v ++ (48 + d) ∷ []
next_digit v d n some small is fits =
    let q : n / 10 ≡ v = omega arith in
    let r : n % 10 ≡ d = omega arith in
    decimal_step n (omega arith) fits ∙ ap (λ (x : ℕ). decimal x ++ (48 + n % 10) ∷ []) q ∙ ap (λ (x : ℕ). decimal v ++ (48 + x) ∷ []) r

-- what a loop over the digits keeps
pub record IsRead (least most : ℕ) (text : List ℕ) (value i : ℕ) : Type 0 where
  pub start : i ≡ 0 → value ≡ 0
  pub number : 0 < i → (take i text ≡ decimal value) × (least ≤ value) × (value ≤ most)

-- one digit more
pub read_more : (least most value next i d b : ℕ) (text : List ℕ) → most < 2 ^ 64 → i < length text → b ≡ get_or text i 0 → IsRead least most text value i → (0 < i → 0 < value)
    → d < 10 → b ≡ 48 + d → next ≡ value * 10 + d → least ≤ next → next ≤ most → IsRead least most text next (i + 1)
read_more least most value next i d b text fits within at before no_zero small is is_next least_next most_next = record {
  start = λ e. absurd (omega arith);
  number = λ h. (take_more text i 0 within ∙ ap (λ (x : ℕ). take i text ++ x ∷ []) (sym at ∙ is) ∙ choose (cases_eq i 0), least_next, most_next);
}
  where
    choose : (i ≡ 0) ⊎ (i ≡ 0 → ⊥) → take i text ++ (48 + d) ∷ [] ≡ decimal next
    choose (inl none) =
        let zero_value : value ≡ 0 = before.start none in
        let same : next ≡ d = omega arith in
        ap (λ (k : ℕ). take k text ++ (48 + d) ∷ []) none ∙ sym (decimal_digit d small) ∙ ap decimal (sym same)
    choose (inr some) =
        let some_value : 0 < value = no_zero (omega arith) in
        ap (λ (xs : List ℕ). xs ++ (48 + d) ∷ []) (before.number (omega arith)).0 ∙ sym (next_digit value d next some_value small is_next (omega arith))

-- the next byte doesn't go on
pub read_stops : (least most value i b : ℕ) (text : List ℕ) → least ≤ 1 → most < 2 ^ 64 → i < length text → b ≡ get_or text i 0 → IsRead least most text value i
    → ((d : ℕ) → d < 10 → b ≡ 48 + d → (0 < i → 0 < value) → least ≤ value * 10 + d → value * 10 + d ≤ most → ⊥) → IsLongestNumber least most text value i
read_stops least most value i b text least_small fits within at before none = record {
  within = omega arith;
  number = before.number;
  longest = λ k m far most_k least_m most_m e.
      fronts m (omega arith) least_m most_m
      (front_number m (take (i + 1) text) (drop (i + 1) (take k text)) (omega arith) (ap (λ (xs : List ℕ). xs ++ drop (i + 1) (take k text))
      (sym (take-take (i + 1) k text (omega arith))) ∙ take-append-drop (i + 1) (take k text) ∙ e));
}
  where
    is_more : take (i + 1) text ≡ take i text ++ b ∷ []
    is_more = take_more text i 0 within ∙ ap (λ (x : ℕ). take i text ++ x ∷ []) (sym at)

    choose : (m : ℕ) → m ≤ most → least ≤ m → take i text ++ b ∷ [] ≡ decimal m → (i ≡ 0) ⊎ (i ≡ 0 → ⊥) → ⊥
    choose m most_m least_m e (inl zero_i) =
        let first = first_digit m b (omega arith) (sym e ∙ ap (λ (k : ℕ). take k text ++ b ∷ []) zero_i) in
        let zero_value : value ≡ 0 = before.start zero_i in
        none m first.0 first.1 (λ h. absurd (omega arith)) (omega arith) (omega arith)
    choose m most_m least_m e (inr some) =
        let number = before.number (omega arith) in
        let value_fits : value ≤ most = number.2 in
        let last = last_digit value m b (omega arith) (omega arith) (sym e ∙ ap (λ (xs : List ℕ). xs ++ b ∷ []) number.0) in
        let m_is : m ≡ value * 10 + last.0 = last.3 in
        none last.0 last.1 last.2 (λ h. last.4) (omega arith) (omega arith)

    fronts : (m : ℕ) → m < 2 ^ 64 → least ≤ m → m ≤ most → IsFront m (take (i + 1) text) → ⊥
    fronts m m_fits least_m most_m (inl empty) =
        let l : length (take (i + 1) text) ≡ i + 1 = length-take-le (i + 1) text (omega arith) in
        let l' : length (take (i + 1) text) ≡ 0 = ap length empty in
        omega arith
    fronts m m_fits least_m most_m (inr (n, most_n, is, positive)) = choose n (omega arith) (least_n (cases_eq least 0)) (sym is_more ∙ is) (cases_eq i 0)
      where
        least_n : (least ≡ 0) ⊎ (least ≡ 0 → ⊥) → least ≤ n
        least_n (inl zero_least) = omega arith
        least_n (inr one) = let h : 1 ≤ n = positive (omega arith) in omega arith

-- a text that isn't a number whole
pub number_breaks : (least most value len : ℕ) (text : List ℕ) → least ≤ 1 → 1 ≤ most → most < 2 ^ 64 → IsLongestNumber least most text value len →
    (len ≡ 0) ⊎ (len < length text) → Breaks (IsNumber least most) text len
number_breaks least most value len text least_small most_some fits reads stops = record {
  outside = λ (n, least_n, most_n, e).
      let some : 0 < length (decimal n) = decimal_nonempty n (omega arith) in
      let l : length text ≡ length (decimal n) = ap length e in
      reads.longest (length text) n (short stops (omega arith)) (omega arith) least_n most_n (take_all (length text) text (omega arith) ∙ e);
  within = reads.within;
  begins = begins (cases_eq len 0);
  longest = λ k far within begins. later k far within begins.0 begins.1.0 begins.1.1 begins.1.2 (front_number begins.1.0 (take k text) begins.0 (let h = begins.1.2 in omega arith) begins.1.3);
}
  where
    short : (len ≡ 0) ⊎ (len < length text) → 0 < length text → len < length text
    short (inl none) some = omega arith
    short (inr below) some = below

    begins : (len ≡ 0) ⊎ (len ≡ 0 → ⊥) → Begins (IsNumber least most) (take len text)
    begins (inl none) = (decimal most, (most, omega arith, omega arith, ap (λ (k : ℕ). take k text ++ decimal most) none))
    begins (inr some) = let number = reads.number (omega arith) in ([], (value, number.1, number.2, append-nil (take len text) ∙ number.0))

    later : (k : ℕ) → len < k → k ≤ length text → (rest : List ℕ) (n : ℕ) → least ≤ n → n ≤ most → IsFront n (take k text) → ⊥
    later k far within rest n least_n most_n (inl empty) =
        let l : length (take k text) ≡ k = length-take-le k text within in
        let l' : length (take k text) ≡ 0 = ap length empty in
        omega arith
    later k far within rest n least_n most_n (inr (m, most_m, is, positive)) = reads.longest k m far within (least_m (cases_eq least 0)) (omega arith) is
      where
        least_m : (least ≡ 0) ⊎ (least ≡ 0 → ⊥) → least ≤ m
        least_m (inl zero_least) = omega arith
        least_m (inr one) = let h : 1 ≤ m = positive (omega arith) in omega arith
