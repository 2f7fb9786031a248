-- Lines with one text are one line, where each but the blank one is a keyword and what is behind it.
use Rattle.std.proofs.Common.{◌≡◌, ℕ, ◌+◌, ◌^◌, ◌<◌, ◌≤◌, ◌⊎◌, inl, inr, List, [], ◌∷◌, ◌++◌, length, refl, sym, ap, subst, ◌∙◌, arith}
use Rattle.std.specs.Prelude.{All, decimal}
use Rattle.std.proofs.lemmas.Fmt.{decimal_injective}
use Rattle.std.proofs.lemmas.List.{length-append}
use Rattle.std.proofs.lemmas.List.Elements.{All-head, All-tail}
use Rattle.script_lines.proofs.BehindLemmas.{others, IsAlone}
use Rattle.script_lines.proofs.NumberLemmas.{all_digits}
use Rattle.script_lines.proofs.OneKeyword.{one_keyword}

-- two lists of digits with a space behind them
cut : (xs ys a b : List ℕ) → All (λ c. 48 ≤ c) xs → All (λ c. 48 ≤ c) ys → xs ++ 32 ∷ a ≡ ys ++ 32 ∷ b → (xs ≡ ys) × (a ≡ b)
cut [] [] a b in_xs in_ys e = (refl, cc e)
cut [] (y ∷ ys) a b in_xs in_ys e = let h : 48 ≤ y = All-head (λ c. 48 ≤ c) y ys in_ys in let same : 32 ≡ y = cc e in absurd (omega arith)
cut (x ∷ xs) [] a b in_xs in_ys e = let h : 48 ≤ x = All-head (λ c. 48 ≤ c) x xs in_xs in let same : x ≡ 32 = cc e in absurd (omega arith)
cut (x ∷ xs) (y ∷ ys) a b in_xs in_ys e = more (cut xs ys a b (All-tail (λ c. 48 ≤ c) x xs in_xs) (All-tail (λ c. 48 ≤ c) y ys in_ys) (tails e))
  where
    tails : x ∷ xs ++ 32 ∷ a ≡ y ∷ ys ++ 32 ∷ b → xs ++ 32 ∷ a ≡ ys ++ 32 ∷ b
    tails e = cc e

    more : (xs ≡ ys) × (a ≡ b) → (x ∷ xs ≡ y ∷ ys) × (a ≡ b)
    more (same, rest) = (let h : x ≡ y = cc e in cc (h, same), rest)

-- two numbers with a space and a text behind them
pub same_then : (m m' : ℕ) (a b : List ℕ) → m < 2 ^ 64 → m' < 2 ^ 64 → decimal m ++ 32 ∷ a ≡ decimal m' ++ 32 ∷ b → (m ≡ m') × (a ≡ b)
same_then m m' a b h h' e = let parts = cut (decimal m) (decimal m') a b (all_digits m h) (all_digits m' h') e in (decimal_injective m m' h h' parts.0, parts.1)

others_nil : {K : Type 0} (codes_of : K → List ℕ) (keywords : List K) → others codes_of [] keywords ≡ keywords
others_nil codes_of [] = refl
others_nil {K} codes_of (keyword ∷ keywords) = ap (λ (some : List K). keyword ∷ some) (others_nil codes_of keywords)

-- how a line begins
pub record IsReading {K L : Type 0} (codes_of : K → List ℕ) (text_of : L → List ℕ) (IsReadAs : K → List ℕ → L → Type 0) (line : L) : Type 0 where
  pub word : K
  pub rest : List ℕ
  pub is : text_of line ≡ codes_of word ++ rest
  pub reads : IsReadAs word rest line

module _ {K L : Type 0} (codes_of : K → List ℕ) (keywords : List K) (alone : (keyword : K) → IsAlone codes_of keywords keyword) (many : 1 < length keywords)
    (text_of : L → List ℕ) (blank : L) (empty : text_of blank ≡ []) (IsReadAs : K → List ℕ → L → Type 0)
    (same_read : (keyword : K) (rest : List ℕ) (a b : L) → IsReadAs keyword rest a → IsReadAs keyword rest b → a ≡ b) where
  -- a keyword that is empty would begin all
  some_codes : (keyword : K) (text : List ℕ) → codes_of keyword ≡ text → 0 < length text
  some_codes keyword (c ∷ text) is = omega arith
  some_codes keyword [] is =
      let one : length keywords ≡ 1 = ap length (sym (others_nil codes_of keywords) ∙ ap (λ (text : List ℕ). others codes_of text keywords) (sym is) ∙ alone keyword) in
      absurd (omega (arith, one, many))

  not_blank : (line : L) → IsReading codes_of text_of IsReadAs line → text_of line ≡ [] → ⊥
  not_blank line reads e =
      let some : 0 < length (codes_of reads.word) = some_codes reads.word (codes_of reads.word) refl in
      let l : length (codes_of reads.word ++ reads.rest) ≡ length (codes_of reads.word) + length reads.rest = length-append (codes_of reads.word) reads.rest in
      let l' : length (codes_of reads.word ++ reads.rest) ≡ 0 = ap length (sym reads.is ∙ e) in
      omega arith

  pub one_line : (a b : L) → (a ≡ blank) ⊎ IsReading codes_of text_of IsReadAs a → (b ≡ blank) ⊎ IsReading codes_of text_of IsReadAs b → text_of a ≡ text_of b → a ≡ b
  one_line a b (inl x) (inl y) e = x ∙ sym y
  one_line a b (inl x) (inr y) e = absurd (not_blank b y (sym e ∙ ap text_of x ∙ empty))
  one_line a b (inr x) (inl y) e = absurd (not_blank a x (e ∙ ap text_of y ∙ empty))
  one_line a b (inr x) (inr y) e =
      let same = one_keyword codes_of keywords alone x.word y.word x.rest y.rest (sym x.is ∙ e ∙ y.is) in
      same_read x.word x.rest a b x.reads (subst (λ (word : K). IsReadAs word x.rest b) same.0 (subst (λ (rest : List ℕ). IsReadAs y.word rest b) (sym same.1) y.reads))
