-- Beginnings of a number, a space, and a text of a language.
use Rattle.std.proofs.Common.{◌≡◌, ℕ, ◌+◌, ◌-◌, ◌^◌, ◌<◌, ◌≤◌, ◌⊎◌, inl, inr, List, [], ◌∷◌, ◌++◌, length, take, drop, get_or, refl, sym, ap, subst, ◌∙◌, arith}
use Rattle.std.specs.Prelude.{decimal, All}
use Rattle.std.proofs.lemmas.Bool.{cases_lt, cases_eq}
use Rattle.std.proofs.lemmas.Fmt.{decimal_nonempty}
use Rattle.std.proofs.lemmas.List.{take_all, take-take, take_at, take-append-le, take-append-drop, drop_at, drop_more, drop-append-le, drop-take}
use Rattle.std.proofs.lemmas.List.{length-take-le, length-append, length-drop, append-nil, append_assoc, get_or_append_left, get_or-take, get_or_at}
use Rattle.std.proofs.lemmas.List.Elements.{All-get_or}
use Rattle.script_lines.specs.Columns.{Begins, Breaks}
use Rattle.script_lines.specs.Parts.{IsNumberThen, IsLongestNumber}
use Rattle.script_lines.proofs.NumberLemmas.{front_number, all_digits, IsFront}

take_add : (a b : ℕ) (xs : List ℕ) → take (a + b) xs ≡ take a xs ++ take b (drop a xs)
take_add a b xs =
    sym (take-append-drop a (take (a + b) xs)) ∙ ap (λ (ys : List ℕ). ys ++ drop a (take (a + b) xs)) (take-take a (a + b) xs (omega arith))
    ∙ ap (λ (ys : List ℕ). take a xs ++ ys) (drop-take a b xs)

-- within the first number
then_short : (first k m len value : ℕ) (text rest tail : List ℕ) → first < 2 ^ 64 → m ≤ first → k ≤ length text → IsLongestNumber 0 first text value len →
    k ≤ length (decimal m) → take k text ++ rest ≡ decimal m ++ tail → k ≤ len
then_short first k m len value text rest tail fits most within reads short e =
    choose (front_number m (take k text) (drop k (decimal m)) (omega arith) (ap (λ (xs : List ℕ). xs ++ drop k (decimal m)) front ∙ take-append-drop k (decimal m))) (cases_lt len k)
  where
    front : take k text ≡ take k (decimal m)
    front = sym (take_at (take k text) rest k (length-take-le k text within)) ∙ ap (take k) e ∙ take-append-le k (decimal m) tail short

    choose : IsFront m (take k text) → (len < k) ⊎ (k ≤ len) → k ≤ len
    choose front (inr near) = near
    choose (inl empty) (inl far) =
        let l : length (take k text) ≡ k = length-take-le k text within in
        let l' : length (take k text) ≡ 0 = ap length empty in
        absurd (omega arith)
    choose (inr (n, most_n, is, positive)) (inl far) = absurd (reads.longest k n far within (omega arith) (omega arith) is)

-- what two numbers say of a text that goes past the first
record IsPast (n : List ℕ) (len k : ℕ) (text rest : List ℕ) : Type 0 where
  some : 0 < len
  within : len < length text
  space : get_or text len 0 ≡ 32
  second : take (k - (len + 1)) (drop (len + 1) text) ++ rest ≡ n

then_long : (first k m : ℕ) (n : List ℕ) (len value : ℕ) (text rest : List ℕ) → first < 2 ^ 64 → m ≤ first → k ≤ length text →
    IsLongestNumber 0 first text value len → length (decimal m) < k → take k text ++ rest ≡ decimal m ++ 32 ∷ n → IsPast n len k text rest
then_long first k m n len value text rest fits most within reads long e = at_len (same_len upper (cases_lt (length (decimal m)) len))
  where
    long_text : length (take k text) ≡ k
    long_text = length-take-le k text within

    first_is : take (length (decimal m)) text ≡ decimal m
    first_is =
        sym (take-take (length (decimal m)) k text (omega arith)) ∙ sym (take-append-le (length (decimal m)) (take k text) rest (omega (arith, long_text)))
        ∙ ap (take (length (decimal m))) e ∙ take_at (decimal m) (32 ∷ n) (length (decimal m)) refl

    upper : length (decimal m) ≤ len
    upper = choose (cases_lt len (length (decimal m)))
      where
        choose : (len < length (decimal m)) ⊎ (length (decimal m) ≤ len) → length (decimal m) ≤ len
        choose (inl far) = absurd (reads.longest (length (decimal m)) m far (omega arith) (omega arith) most first_is)
        choose (inr near) = near

    space_at : get_or text (length (decimal m)) 0 ≡ 32
    space_at =
        sym (get_or-take k text (length (decimal m)) 0 long) ∙ sym (get_or_append_left (take k text) rest 0 (length (decimal m)) (omega (arith, long_text)))
        ∙ ap (λ (xs : List ℕ). get_or xs (length (decimal m)) 0) e ∙ get_or_at (decimal m) 32 n 0 (length (decimal m)) refl

    same_len : length (decimal m) ≤ len → (length (decimal m) < len) ⊎ (len ≤ length (decimal m)) → length (decimal m) ≡ len
    same_len near (inr other) = omega arith
    same_len near (inl below) =
        let number = reads.number (omega arith) in
        let l : length (take len text) ≡ len = length-take-le len text reads.within in
        let digit : 48 ≤ get_or (take len text) (length (decimal m)) 0 =
        All-get_or (λ c. 48 ≤ c) (take len text) (length (decimal m)) 0 (omega arith) (subst (λ (xs : List ℕ). All (λ c. 48 ≤ c) xs) (sym number.0)
        (all_digits value (let h = number.2 in omega arith))) in
        let same : get_or (take len text) (length (decimal m)) 0 ≡ get_or text (length (decimal m)) 0 = get_or-take len text (length (decimal m)) 0 below in
        absurd (omega (arith, space_at))

    behind : drop (length (decimal m) + 1) (take k text) ≡ take (k - (length (decimal m) + 1)) (drop (length (decimal m) + 1) text)
    behind =
        let is : k ≡ length (decimal m) + 1 + (k - (length (decimal m) + 1)) = omega arith in
        ap (λ (j : ℕ). drop (length (decimal m) + 1) (take j text)) is ∙ drop-take (length (decimal m) + 1) (k - (length (decimal m) + 1)) text

    second_is : take (k - (length (decimal m) + 1)) (drop (length (decimal m) + 1) text) ++ rest ≡ n
    second_is =
        let l : length (decimal m ++ 32 ∷ []) ≡ length (decimal m) + 1 = length-append (decimal m) (32 ∷ []) in
        ap (λ (xs : List ℕ). xs ++ rest) (sym behind)
        ∙ sym (drop-append-le (length (decimal m) + 1) (take k text) rest (omega (arith, long_text)))
        ∙ ap (drop (length (decimal m) + 1)) (e ∙ sym (append_assoc (decimal m) (32 ∷ []) n))
        ∙ drop_at (decimal m ++ 32 ∷ []) n (length (decimal m) + 1) l

    at_len : length (decimal m) ≡ len → IsPast n len k text rest
    at_len is = record {
      some = let h : 0 < length (decimal m) = decimal_nonempty m (omega arith) in omega arith;
      within = omega arith;
      space = subst (λ (j : ℕ). get_or text j 0 ≡ 32) is space_at;
      second = subst (λ (j : ℕ). take (k - (j + 1)) (drop (j + 1) text) ++ rest ≡ n) is second_is;
    }

-- a whole text of two numbers goes past the first
then_whole : (first m : ℕ) (n : List ℕ) (len value : ℕ) (text : List ℕ) → first < 2 ^ 64 → m ≤ first → IsLongestNumber 0 first text value len →
    text ≡ decimal m ++ 32 ∷ n → IsPast n len (length text) text []
then_whole first m n len value text fits most reads e =
    let l : length text ≡ length (decimal m) + length (32 ∷ n) = ap length e ∙ length-append (decimal m) (32 ∷ n) in
    then_long first (length text) m n len value text [] fits most (omega arith) reads (omega arith)
    (append-nil (take (length text) text) ∙ take_all (length text) text (omega arith) ∙ e)

-- where no space follows the first number
pub then_stops : (first : ℕ) (Is : List ℕ → Type 0) (value len : ℕ) (text : List ℕ) → first < 2 ^ 64 → Begins Is [] → IsLongestNumber 0 first text value len
    → (len ≡ 0) ⊎ ((len ≡ length text) ⊎ (get_or text len 0 ≡ 32 → ⊥)) → Breaks (IsNumberThen first Is) text len
then_stops first Is value len text fits some_is reads stops = record {
  outside = λ (m, n, most_m, is, e). no n (length text) [] stops (then_whole first m n len value text fits most_m reads e);
  within = reads.within;
  begins = begins (cases_eq len 0);
  longest = λ k far within (rest, (m, n, most_m, is, e)). later k rest m n far within most_m e (cases_lt (length (decimal m)) k);
}
  where
    no : (n : List ℕ) (k : ℕ) (rest : List ℕ) → (len ≡ 0) ⊎ ((len ≡ length text) ⊎ (get_or text len 0 ≡ 32 → ⊥)) → IsPast n len k text rest → ⊥
    no n k rest (inl none) past = let h = past.some in omega arith
    no n k rest (inr (inl all)) past = let h = past.within in omega arith
    no n k rest (inr (inr other)) past = other past.space

    begins : (len ≡ 0) ⊎ (len ≡ 0 → ⊥) → Begins (IsNumberThen first Is) (take len text)
    begins (inl none) = (decimal 0 ++ 32 ∷ some_is.0, (0, some_is.0, omega arith, some_is.1, ap (λ (k : ℕ). take k text ++ (decimal 0 ++ 32 ∷ some_is.0)) none))
    begins (inr some) = let number = reads.number (omega arith) in (32 ∷ some_is.0, (value, some_is.0, number.2, some_is.1, ap (λ (xs : List ℕ). xs ++ 32 ∷ some_is.0) number.0))

    later : (k : ℕ) (rest : List ℕ) (m : ℕ) (n : List ℕ) → len < k → k ≤ length text → m ≤ first → take k text ++ rest ≡ decimal m ++ 32 ∷ n → (length (decimal m) < k) ⊎ (k ≤ length (decimal m)) → ⊥
    later k rest m n far within most_m e (inl long) = no n k rest stops (then_long first k m n len value text rest fits most_m within reads long e)
    later k rest m n far within most_m e (inr short) = let h : k ≤ len = then_short first k m len value text rest (32 ∷ n) fits most_m within reads short e in omega arith

-- where a space follows, the second number decides
pub then_goes : (first : ℕ) (Is : List ℕ → Type 0) (value len reach : ℕ) (text : List ℕ) → first < 2 ^ 64 → IsLongestNumber 0 first text value len →
    (len ≡ 0 → ⊥) → len < length text → get_or text len 0 ≡ 32
    → Breaks Is (drop (len + 1) text) reach → Breaks (IsNumberThen first Is) text (len + 1 + reach)
then_goes first Is value len reach text fits reads some below space breaks = record {
  outside = λ (m, n, most_m, is, e).
      let past = then_whole first m n len value text fits most_m reads e in
      let whole : drop (len + 1) text ≡ n =
      sym (take_all (length text - (len + 1)) (drop (len + 1) text) (omega (arith, length-drop (len + 1) text)))
      ∙ sym (append-nil (take (length text - (len + 1)) (drop (len + 1) text))) ∙ past.second in
      breaks.outside (subst Is (sym whole) is);
  within = let h = breaks.within in omega (arith, length-drop (len + 1) text);
  begins =
      let number = reads.number (omega arith) in
      let second = breaks.begins.1 in (
        breaks.begins.0,
        (
          value,
          take reach (drop (len + 1) text) ++ breaks.begins.0,
          number.2,
          second,
          ap (λ (xs : List ℕ). xs ++ breaks.begins.0)
              (ap (λ (j : ℕ). take j text) (plus len reach) ∙ take_add len (1 + reach) text ∙ ap (λ (xs : List ℕ). take len text ++ take (1 + reach) xs) (drop_more text len 0 below)
              ∙ ap (λ (x : ℕ). take len text ++ take (1 + reach) (x ∷ drop (len + 1) text)) space
              ∙ ap (λ (xs : List ℕ). take len text ++ xs) (one_more (drop (len + 1) text)))
              ∙ append_assoc (take len text) (32 ∷ take reach (drop (len + 1) text)) breaks.begins.0
              ∙ ap (λ (xs : List ℕ). xs ++ 32 ∷ (take reach (drop (len + 1) text) ++ breaks.begins.0)) number.0,
        ),
      );
  longest = λ k far within (rest, (m, n, most_m, is, e)). later k rest m n far within most_m is e (cases_lt (length (decimal m)) k);
}
  where
    plus : (a b : ℕ) → a + 1 + b ≡ a + (1 + b)
    plus a b = omega arith

    one_more : (xs : List ℕ) → take (1 + reach) (32 ∷ xs) ≡ 32 ∷ take reach xs
    one_more xs = take_add 1 reach (32 ∷ xs)

    later : (k : ℕ) (rest : List ℕ) (m : ℕ) (n : List ℕ) → len + 1 + reach < k → k ≤ length text → m ≤ first → Is n → take k text ++ rest ≡ decimal m ++ 32 ∷ n
        → (length (decimal m) < k) ⊎ (k ≤ length (decimal m)) → ⊥
    later k rest m n far within most_m is e (inl long) =
        let past = then_long first k m n len value text rest fits most_m within reads long e in
        breaks.longest (k - (len + 1)) (omega arith) (omega (arith, length-drop (len + 1) text)) (rest, subst Is (sym past.second) is)
    later k rest m n far within most_m is e (inr short) = let h : k ≤ len = then_short first k m len value text rest (32 ∷ n) fits most_m within reads short e in omega arith
