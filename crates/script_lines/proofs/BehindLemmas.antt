-- How far a text goes along with languages that words begin.
use Rattle.std.proofs.Common.{◌≡◌, ℕ, zero, suc, ◌+◌, ◌-◌, ◌<◌, ◌≤◌, ◌⊎◌, inl, inr, List, [], ◌∷◌, ◌++◌, length, take, Bool, true, false, cond, refl, sym, ap, subst, ◌∙◌, zero-add, arith}
use Rattle.std.specs.Prelude.{◌==◌, if◌then◌else◌}
use Rattle.std.proofs.lemmas.Bool.{eq-eqb}
use Rattle.std.proofs.lemmas.List.{take_all, length-append, append-nil, append_assoc}
use Rattle.script_lines.specs.Columns.{Breaks}

-- two texts differ before the end of either
abbrev pub clash : List ℕ → List ℕ → Bool
clash [] other = false
clash (a ∷ word) [] = false
clash (a ∷ word) (b ∷ other) = if a == b then clash word other else true

-- a clash is within the first of the two
pub clash_within : (w v u x rest : List ℕ) (k : ℕ) → clash w v ≡ true → take k (w ++ u) ++ rest ≡ v ++ x → k < length w
clash_within [] v u x rest k c e = let h : false ≡ true = c in absurd (cc h)
clash_within (a ∷ w) [] u x rest k c e = let h : false ≡ true = c in absurd (cc h)
clash_within (a ∷ w) (b ∷ v) u x rest zero c e = omega arith
clash_within (a ∷ w) (b ∷ v) u x rest (suc k) c e = more (a == b) refl (λ c'. clash_within w v u x rest k c' (tails e))
  where
    heads : a ∷ take k (w ++ u) ++ rest ≡ b ∷ v ++ x → a ≡ b
    heads e = cc e

    tails : a ∷ take k (w ++ u) ++ rest ≡ b ∷ v ++ x → take k (w ++ u) ++ rest ≡ v ++ x
    tails e = cc e

    more : (t : Bool) → (a == b) ≡ t → (clash w v ≡ true → k < length w) → suc k < length (a ∷ w)
    more true is again =
        let c' : clash w v ≡ true = ap (λ (t : Bool). cond t (clash w v) true) (sym is) ∙ c in
        let h : k < length w = again c' in
        omega arith
    more false is again = let h : true ≡ false = sym (eq-eqb a b (heads e)) ∙ is in absurd (cc h)

-- a text is a word and what may follow it
pub record IsBehind {W : Type 0} (codes_of : W → List ℕ) (Follows : W → List ℕ → Type 0) (word : W) (text : List ℕ) : Type 0 where
  pub rest : List ℕ
  pub is : text ≡ codes_of word ++ rest
  pub follows : Follows word rest

-- it begins with one of these words
abbrev pub IsOne : {W : Type 0} (codes_of : W → List ℕ) (Follows : W → List ℕ → Type 0) → List W → List ℕ → Type 0
IsOne codes_of Follows [] text = ⊥
IsOne codes_of Follows (word ∷ words) text = IsBehind codes_of Follows word text ⊎ IsOne codes_of Follows words text

-- those that don't clash with a text
abbrev pub others : {W : Type 0} (codes_of : W → List ℕ) → List ℕ → List W → List W
others codes_of text [] = []
others codes_of text (word ∷ words) = if clash text (codes_of word) then others codes_of text words else word ∷ others codes_of text words

-- what begins with a text is among the words that don't clash with it
pub keeps : {W : Type 0} (codes_of : W → List ℕ) (Follows : W → List ℕ → Type 0) (w u rest : List ℕ) (k : ℕ) (words : List W) → length w ≤ k →
    IsOne codes_of Follows words (take k (w ++ u) ++ rest) → IsOne codes_of Follows (others codes_of w words) (take k (w ++ u) ++ rest)
keeps codes_of Follows w u rest k [] long one = one
keeps codes_of Follows w u rest k (word ∷ words) long one = more (keeps codes_of Follows w u rest k words long) (clash w (codes_of word)) refl one
  where
    more : (IsOne codes_of Follows words (take k (w ++ u) ++ rest) → IsOne codes_of Follows (others codes_of w words) (take k (w ++ u) ++ rest))
        → (t : Bool) → clash w (codes_of word) ≡ t → IsBehind codes_of Follows word (take k (w ++ u) ++ rest) ⊎ IsOne codes_of Follows words
        (take k (w ++ u) ++ rest) → IsOne codes_of Follows (others codes_of w (word ∷ words)) (take k (w ++ u) ++ rest)
    more again true is (inl behind) = absurd (let h : k < length w = clash_within w (codes_of word) u behind.rest rest k is behind.is in omega arith)
    more again true is (inr one) = subst (λ (t : Bool). IsOne codes_of Follows (cond t (others codes_of w words) (word ∷ others codes_of w words)) (take k (w ++ u) ++ rest)) (sym is) (again one)
    more again false is (inl behind) = subst (λ (t : Bool). IsOne codes_of Follows (cond t (others codes_of w words) (word ∷ others codes_of w words)) (take k (w ++ u) ++ rest)) (sym is) (inl behind)
    more again false is (inr one) = subst (λ (t : Bool). IsOne codes_of Follows (cond t (others codes_of w words) (word ∷ others codes_of w words))
        (take k (w ++ u) ++ rest)) (sym is) (inr (again one))

-- they are among codes_of Follows all
pub among : {W : Type 0} (codes_of : W → List ℕ) (Follows : W → List ℕ → Type 0) (w text : List ℕ) (words : List W) →
    IsOne codes_of Follows (others codes_of w words) text → IsOne codes_of Follows words text
among codes_of Follows w text [] one = one
among codes_of Follows w text (word ∷ words) one = more (among codes_of Follows w text words) (clash w (codes_of word)) refl
  where
    split : (IsOne codes_of Follows (others codes_of w words) text → IsOne codes_of Follows words text) → IsBehind codes_of Follows word text ⊎ IsOne codes_of
        Follows (others codes_of w words) text → IsOne codes_of Follows (word ∷ words) text
    split again (inl behind) = inl behind
    split again (inr one) = inr (again one)

    more : (IsOne codes_of Follows (others codes_of w words) text → IsOne codes_of Follows words text) → (t : Bool) → clash w (codes_of word) ≡ t → IsOne codes_of Follows (word ∷ words) text
    more again true is = inr (again (subst (λ (t : Bool). IsOne codes_of Follows (cond t (others codes_of w words) (word ∷ others codes_of w words)) text) is one))
    more again false is = split again (subst (λ (t : Bool). IsOne codes_of Follows (cond t (others codes_of w words) (word ∷ others codes_of w words)) text) is one)

-- what stands behind a word
past : (w u x rest : List ℕ) (j : ℕ) → take (length w + j) (w ++ u) ++ rest ≡ w ++ x → take j u ++ rest ≡ x
past [] u x rest j e = subst (λ (k : ℕ). take k u ++ rest ≡ x) (zero-add j) e
past (a ∷ w) u x rest j e = past w u x rest j (tails (subst (λ (k : ℕ). take k (a ∷ w ++ u) ++ rest ≡ a ∷ w ++ x) (suc_add (length w) j) e))
  where
    suc_add : (m n : ℕ) → suc m + n ≡ suc (m + n)
    suc_add m n = omega arith

    tails : a ∷ take (length w + j) (w ++ u) ++ rest ≡ a ∷ w ++ x → take (length w + j) (w ++ u) ++ rest ≡ w ++ x
    tails e = cc e

take_past : (w u : List ℕ) (j : ℕ) → take (length w + j) (w ++ u) ≡ w ++ take j u
take_past [] u j = ap (λ (k : ℕ). take k u) (zero-add j)
take_past (a ∷ w) u j = ap (λ (k : ℕ). take k (a ∷ w ++ u)) (suc_add (length w) j) ∙ ap (λ (xs : List ℕ). a ∷ xs) (take_past w u j)
  where
    suc_add : (m n : ℕ) → suc m + n ≡ suc (m + n)
    suc_add m n = omega arith

-- only one word doesn't clash with a word
abbrev pub IsAlone : {W : Type 0} (codes_of : W → List ℕ) → List W → W → Type 0
IsAlone codes_of words word = others codes_of (codes_of word) words ≡ word ∷ []

-- a text that begins with a word goes along with the lines as far as what is behind the word goes along with what may follow
pub reach_behind : {W : Type 0} (codes_of : W → List ℕ) (Follows : W → List ℕ → Type 0) (words : List W) (word : W) (u : List ℕ) (reach : ℕ) →
    IsAlone codes_of words word → Breaks (Follows word) u reach → Breaks (IsOne codes_of Follows words) (codes_of word ++ u) (length (codes_of word) + reach)
reach_behind {W = W} codes_of Follows words word u reach alone breaks = record {
  outside = λ one. breaks.outside (whole one);
  within = let h = breaks.within in let l : length (codes_of word ++ u) ≡ length (codes_of word) + length u = length-append (codes_of word) u in omega arith;
  begins = (
    breaks.begins.0,
    among codes_of Follows (codes_of word) (take (length (codes_of word) + reach) (codes_of word ++ u) ++ breaks.begins.0) words
        (subst (λ (some : List W). IsOne codes_of Follows some (take (length (codes_of word) + reach) (codes_of word ++ u) ++ breaks.begins.0)) (sym alone)
        (inl (record {
          rest = take reach u ++ breaks.begins.0;
          is = ap (λ (front : List ℕ). front ++ breaks.begins.0) (take_past (codes_of word) u reach) ∙ append_assoc (codes_of word) (take reach u) breaks.begins.0;
          follows = breaks.begins.1;
        }))),
  );
  longest = λ k far within begins. breaks.longest (k - length (codes_of word)) (omega arith)
      (let l : length (codes_of word ++ u) ≡ length (codes_of word) + length u = length-append (codes_of word) u in omega arith)
      (begins.0, front k begins.0 (omega arith) begins.1);
}
  where
    only : (text : List ℕ) → IsOne codes_of Follows (word ∷ []) text → IsBehind codes_of Follows word text
    only text (inl behind) = behind
    only text (inr none) = absurd none

    single : (rest : List ℕ) (k : ℕ) → length (codes_of word) ≤ k → IsOne codes_of Follows words (take k (codes_of word ++ u) ++ rest) →
        IsBehind codes_of Follows word (take k (codes_of word ++ u) ++ rest)
    single rest k long one =
        only (take k (codes_of word ++ u) ++ rest)
        (subst (λ (some : List W). IsOne codes_of Follows some (take k (codes_of word ++ u) ++ rest)) alone (keeps codes_of Follows (codes_of word) u rest k words long one))

    front : (k : ℕ) (rest : List ℕ) → length (codes_of word) ≤ k → IsOne codes_of Follows words (take k (codes_of word ++ u) ++ rest) → Follows word (take (k - length (codes_of word)) u ++ rest)
    front k rest long one =
        let behind = single rest k long one in
        let long_is : k ≡ length (codes_of word) + (k - length (codes_of word)) = omega arith in
        subst (λ (text : List ℕ). Follows word text)
        (sym (past (codes_of word) u behind.rest rest (k - length (codes_of word)) (subst (λ (j : ℕ). take j (codes_of word ++ u) ++ rest ≡ codes_of word ++ behind.rest) long_is behind.is)))
        behind.follows

    whole : IsOne codes_of Follows words (codes_of word ++ u) → Follows word u
    whole one =
        let l : length (codes_of word ++ u) ≡ length (codes_of word) + length u = length-append (codes_of word) u in
        let all : take (length (codes_of word) + length u) (codes_of word ++ u) ≡ codes_of word ++ u = take_all (length (codes_of word) + length u) (codes_of word ++ u) (omega arith) in
        let text : take (length (codes_of word) + length u) (codes_of word ++ u) ++ [] ≡ codes_of word ++ u = append-nil (take (length (codes_of word) + length u) (codes_of word ++ u)) ∙ all in
        let got : Follows word (take (length (codes_of word) + length u - length (codes_of word)) u ++ []) = front (length (codes_of word) + length u) []
        (omega arith) (subst (λ (t : List ℕ). IsOne codes_of Follows words t) (sym text) one) in
        let n : length (codes_of word) + length u - length (codes_of word) ≡ length u = omega arith in
        subst (λ (t : List ℕ). Follows word t) (append-nil (take (length (codes_of word) + length u - length (codes_of word)) u) ∙ ap (λ (k : ℕ). take k u) n ∙ take_all (length u) u (omega arith)) got
