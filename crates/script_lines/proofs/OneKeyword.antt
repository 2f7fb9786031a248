-- A text begins with one keyword of a language in which no keyword begins another.
use Rattle.std.proofs.Common.{◌≡◌, ℕ, ◌+◌, ◌<◌, ◌⊎◌, inl, inr, Bool, true, false, cond, List, [], ◌∷◌, ◌++◌, length, take, refl, sym, ap, subst, ◌∙◌, arith}
use Rattle.std.proofs.lemmas.Bool.{cases_Bool}
use Rattle.std.proofs.lemmas.List.{append-nil, length-append, append_cancel_left, take_all}
use Rattle.script_lines.proofs.BehindLemmas.{clash, clash_within, others, IsAlone}

abbrev IsMember : {K : Type 0} → K → List K → Type 0
IsMember keyword [] = ⊥
IsMember keyword (other ∷ keywords) = (keyword ≡ other) ⊎ IsMember keyword keywords

-- one of those that don't clash with a text is one of all
member_of_all : {K : Type 0} (codes_of : K → List ℕ) (text : List ℕ) (keyword : K) (keywords : List K) → IsMember keyword (others codes_of text keywords) → IsMember keyword keywords
member_of_all codes_of text keyword [] one = one
member_of_all {K = K} codes_of text keyword (other ∷ keywords) one = choose (cases_Bool (clash text (codes_of other))) (member_of_all codes_of text keyword keywords)
  where
    again : (IsMember keyword (others codes_of text keywords) → IsMember keyword keywords) → (keyword ≡ other) ⊎ IsMember keyword
        (others codes_of text keywords) → (keyword ≡ other) ⊎ IsMember keyword keywords
    again more (inl same) = inl same
    again more (inr one) = inr (more one)

    choose : (clash text (codes_of other) ≡ true) ⊎ (clash text (codes_of other) ≡ false) → (IsMember keyword (others codes_of text keywords) →
        IsMember keyword keywords) → IsMember keyword (other ∷ keywords)
    choose (inl clashes) more = inr (more (subst (λ (t : Bool). IsMember keyword (cond t (others codes_of text keywords) (other ∷ others codes_of text keywords))) clashes one))
    choose (inr none) more = again more (subst (λ (t : Bool). IsMember keyword (cond t (others codes_of text keywords) (other ∷ others codes_of text keywords))) none one)

-- a keyword that doesn't clash with a text stays among the others
stays : {K : Type 0} (codes_of : K → List ℕ) (text : List ℕ) (keyword : K) (keywords : List K) → clash text (codes_of keyword) ≡ false →
    IsMember keyword keywords → IsMember keyword (others codes_of text keywords)
stays codes_of text keyword [] none one = one
stays {K = K} codes_of text keyword (other ∷ keywords) none one = more (stays codes_of text keyword keywords none) (cases_Bool (clash text (codes_of other))) one
  where
    more : (IsMember keyword keywords → IsMember keyword (others codes_of text keywords)) → (clash text (codes_of other) ≡ true) ⊎
        (clash text (codes_of other) ≡ false) → (keyword ≡ other) ⊎ IsMember keyword keywords → IsMember keyword (others codes_of text (other ∷ keywords))
    more again (inl clashes) (inl same) = let h : true ≡ false = sym clashes ∙ ap (λ (k : K). clash text (codes_of k)) (sym same) ∙ none in absurd (cc h)
    more again (inl clashes) (inr one) = subst (λ (t : Bool). IsMember keyword (cond t (others codes_of text keywords) (other ∷ others codes_of text keywords))) (sym clashes) (again one)
    more again (inr none) (inl same) = subst (λ (t : Bool). IsMember keyword (cond t (others codes_of text keywords) (other ∷ others codes_of text keywords))) (sym none) (inl same)
    more again (inr none) (inr one) = subst (λ (t : Bool). IsMember keyword (cond t (others codes_of text keywords) (other ∷ others codes_of text keywords))) (sym none) (inr (again one))

-- texts that begin one text don't clash
no_clash : (v w x y : List ℕ) → v ++ x ≡ w ++ y → clash v w ≡ false
no_clash v w x y e = choose (cases_Bool (clash v w))
  where
    choose : (clash v w ≡ true) ⊎ (clash v w ≡ false) → clash v w ≡ false
    choose (inr none) = none
    choose (inl clashes) =
        let all : take (length (v ++ x)) (v ++ x) ++ [] ≡ w ++ y = append-nil (take (length (v ++ x)) (v ++ x)) ∙ take_all (length (v ++ x)) (v ++ x) (omega arith) ∙ e in
        let h : length (v ++ x) < length v = clash_within v w x y [] (length (v ++ x)) clashes all in
        let l : length (v ++ x) ≡ length v + length x = length-append v x in
        absurd (omega arith)

pub one_keyword : {K : Type 0} (codes_of : K → List ℕ) (keywords : List K) → ((keyword : K) → IsAlone codes_of keywords keyword) → (v w : K) (x y : List ℕ) →
    codes_of v ++ x ≡ codes_of w ++ y → (w ≡ v) × (x ≡ y)
one_keyword {K = K} codes_of keywords alone v w x y e = (same, append_cancel_left (codes_of v) x y (e ∙ ap (λ (k : K). codes_of k ++ y) same))
  where
    only : (w ≡ v) ⊎ ⊥ → w ≡ v
    only (inl same) = same
    only (inr none) = absurd none

    member : IsMember w keywords
    member = member_of_all codes_of (codes_of w) w keywords (subst (λ (some : List K). IsMember w some) (sym (alone w)) (inl refl))

    same : w ≡ v
    same = only (subst (λ (some : List K). IsMember w some) (alone v) (stays codes_of (codes_of v) w keywords (no_clash (codes_of v) (codes_of w) x y e) member))
