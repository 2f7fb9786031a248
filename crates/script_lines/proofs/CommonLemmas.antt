-- How far a text goes along with some texts.
use Rattle.std.proofs.Common.{◌≡◌, ℕ, zero, suc, ◌+◌, ◌<◌, ◌≤◌, ◌⊎◌, inl, inr, List, [], ◌∷◌, ◌++◌, length, take, drop, get_or, Bool, true, false, cond, refl, sym, ap, subst, ◌∙◌, arith}
use Rattle.std.specs.Prelude.{◌==◌, max}
use Rattle.std.proofs.lemmas.Bool.{eqb-true, eq-eqb, ne_eqb, cases_Bool, cases_lt}
use Rattle.std.proofs.lemmas.List.{append-nil, length-append, length-take-le, drop_all, drop_more}
use Rattle.script_lines.specs.Columns.{Begins, Breaks}
use Rattle.script_lines.specs.Keywords.{common_length}

same_head : (a b : ℕ) (word text : List ℕ) → a ≡ b → common_length (a ∷ word) (b ∷ text) ≡ suc (common_length word text)
same_head a b word text same = ap (λ (t : Bool). cond t (suc (common_length word text)) 0) (eq-eqb a b same)

other_head : (a b : ℕ) (word text : List ℕ) → (a == b) ≡ false → common_length (a ∷ word) (b ∷ text) ≡ 0
other_head a b word text other = ap (λ (t : Bool). cond t (suc (common_length word text)) 0) other

pub common_length-within : (word text : List ℕ) → common_length word text ≤ length text
common_length-within [] text = omega arith
common_length-within (a ∷ word) [] = omega arith
common_length-within (a ∷ word) (b ∷ text) = more (cases_Bool (a == b)) (common_length-within word text)
  where
    more : ((a == b) ≡ true) ⊎ ((a == b) ≡ false) → common_length word text ≤ length text → common_length (a ∷ word) (b ∷ text) ≤ length (b ∷ text)
    more (inl same) h = let e : common_length (a ∷ word) (b ∷ text) ≡ suc (common_length word text) = same_head a b word text (eqb-true a b same) in omega arith
    more (inr other) h = let e : common_length (a ∷ word) (b ∷ text) ≡ 0 = other_head a b word text other in omega arith

-- what they have in common, and the rest of the word
pub common_length-front : (word text : List ℕ) → take (common_length word text) text ++ drop (common_length word text) word ≡ word
common_length-front [] text = refl
common_length-front (a ∷ word) [] = refl
common_length-front (a ∷ word) (b ∷ text) = more (cases_Bool (a == b)) (common_length-front word text)
  where
    more : ((a == b) ≡ true) ⊎ ((a == b) ≡ false) → take (common_length word text) text ++ drop (common_length word text) word ≡ word →
        take (common_length (a ∷ word) (b ∷ text)) (b ∷ text) ++ drop (common_length (a ∷ word) (b ∷ text)) (a ∷ word) ≡ a ∷ word
    more (inl same) h =
        ap (λ (k : ℕ). take k (b ∷ text) ++ drop k (a ∷ word)) (same_head a b word text (eqb-true a b same))
        ∙ ap (λ (xs : List ℕ). b ∷ xs) h ∙ ap (λ (x : ℕ). x ∷ word) (sym (eqb-true a b same))
    more (inr other) h = ap (λ (k : ℕ). take k (b ∷ text) ++ drop k (a ∷ word)) (other_head a b word text other)

-- a beginning with which the word goes on lies in what they have in common, where that isn't the whole word
pub common_length-most : (word text rest x : List ℕ) (k : ℕ) → k ≤ length text → take k text ++ rest ≡ word ++ x → (k ≤ common_length word text) ⊎ (common_length word text ≡ length word)
common_length-most [] text rest x k within e = inr refl
common_length-most (a ∷ word) [] rest x k within e = inl within
common_length-most (a ∷ word) (b ∷ text) rest x zero within e = inl (omega arith)
common_length-most (a ∷ word) (b ∷ text) rest x (suc k) within e = more (common_length-most word text rest x k (omega arith) (tails e))
  where
    tails : b ∷ take k text ++ rest ≡ a ∷ word ++ x → take k text ++ rest ≡ word ++ x
    tails e = cc e

    heads : b ∷ take k text ++ rest ≡ a ∷ word ++ x → a ≡ b
    heads e = cc e

    more : (k ≤ common_length word text) ⊎ (common_length word text ≡ length word) → (suc k ≤ common_length (a ∷ word) (b ∷ text)) ⊎ (common_length (a ∷ word) (b ∷ text) ≡ length (a ∷ word))
    more (inl h) = inl (let is : common_length (a ∷ word) (b ∷ text) ≡ suc (common_length word text) = same_head a b word text (heads e) in omega arith)
    more (inr h) = inr (let is : common_length (a ∷ word) (b ∷ text) ≡ suc (common_length word text) = same_head a b word text (heads e) in omega arith)

-- a word that a text begins with
pub common_length-whole : (word x : List ℕ) → common_length word (word ++ x) ≡ length word
common_length-whole [] x = refl
common_length-whole (a ∷ word) x = same_head a a word (word ++ x) refl ∙ ap suc (common_length-whole word x)

pub whole_front : (word text : List ℕ) → common_length word text ≡ length word → text ≡ word ++ drop (length word) text
whole_front [] text e = refl
whole_front (a ∷ word) [] e = absurd (let h : 0 ≡ suc (length word) = e in omega arith)
whole_front (a ∷ word) (b ∷ text) e = more (cases_Bool (a == b)) (whole_front word text)
  where
    more : ((a == b) ≡ true) ⊎ ((a == b) ≡ false) → (common_length word text ≡ length word → text ≡ word ++ drop (length word) text) → b ∷ text ≡ a ∷ word ++ drop (length (a ∷ word)) (b ∷ text)
    more (inl same) again =
        let h : common_length (a ∷ word) (b ∷ text) ≡ suc (common_length word text) = same_head a b word text (eqb-true a b same) in
        let shorter : common_length word text ≡ length word = omega arith in
        ap (λ (x : ℕ). x ∷ text) (sym (eqb-true a b same)) ∙ ap (λ (xs : List ℕ). a ∷ xs) (again shorter)
    more (inr other) again = let h : common_length (a ∷ word) (b ∷ text) ≡ 0 = other_head a b word text other in absurd (omega arith)

-- a text that isn't a word
pub word_breaks : (word text : List ℕ) → (text ≡ word → ⊥) → Breaks (λ t. t ≡ word) text (common_length word text)
word_breaks word text other = record {
  outside = other;
  within = common_length-within word text;
  begins = (drop (common_length word text) word, common_length-front word text);
  longest = λ k far within (rest, e). no k rest far within e (common_length-most word text rest [] k within (e ∙ sym (append-nil word)));
}
  where
    no : (k : ℕ) (rest : List ℕ) → common_length word text < k → k ≤ length text → take k text ++ rest ≡ word → (k ≤ common_length word text) ⊎ (common_length word text ≡ length word) → ⊥
    no k rest far within e (inl near) = omega arith
    no k rest far within e (inr all) =
        let l : length (take k text ++ rest) ≡ length (take k text) + length rest = length-append (take k text) rest in
        let l' : length (take k text) ≡ k = length-take-le k text within in
        let l'' : length (take k text ++ rest) ≡ length word = ap length e in
        omega arith

-- a text that is in neither of two languages
pub either_breaks : (A B : List ℕ → Type 0) (text : List ℕ) (a b : ℕ) → Breaks A text a → Breaks B text b → Breaks (λ t. A t ⊎ B t) text (max a b)
either_breaks A B text a b in_a in_b = record {
  outside = λ is. neither is;
  within = let h = in_a.within in let h' = in_b.within in omega arith;
  begins = begins (cases_lt a b);
  longest = λ k far within (rest, is). later k far within rest is;
}
  where
    neither : A text ⊎ B text → ⊥
    neither (inl is) = in_a.outside is
    neither (inr is) = in_b.outside is

    begins : (a < b) ⊎ (b ≤ a) → Begins (λ t. A t ⊎ B t) (take (max a b) text)
    begins (inl below) = let is : b ≡ max a b = omega arith in subst (λ (k : ℕ). Begins (λ t. A t ⊎ B t) (take k text)) is (in_b.begins.0, inr in_b.begins.1)
    begins (inr above) = let is : a ≡ max a b = omega arith in subst (λ (k : ℕ). Begins (λ t. A t ⊎ B t) (take k text)) is (in_a.begins.0, inl in_a.begins.1)

    later : (k : ℕ) → max a b < k → k ≤ length text → (rest : List ℕ) → A (take k text ++ rest) ⊎ B (take k text ++ rest) → ⊥
    later k far within rest (inl is) = in_a.longest k (omega arith) within (rest, is)
    later k far within rest (inr is) = in_b.longest k (omega arith) within (rest, is)

-- a loop stops where the text ends or differs
pub common_length-stops : (word text : List ℕ) (i : ℕ) → i < length word → common_length word text ≡ i + common_length (drop i word) (drop i text) →
    (length text ≤ i) ⊎ (get_or text i 0 ≡ get_or word i 0 → ⊥) → i ≡ common_length word text
common_length-stops word text i within before (inl end) =
    let none : common_length (drop i word) (drop i text) ≡ 0 = ap (common_length (drop i word)) (drop_all i text end) ∙ nothing (drop i word) in omega arith
  where
    nothing : (word : List ℕ) → common_length word [] ≡ 0
    nothing [] = refl
    nothing (a ∷ word) = refl
common_length-stops word text i within before (inr other) = choose (cases_lt i (length text))
  where
    nothing : (word : List ℕ) → common_length word [] ≡ 0
    nothing [] = refl
    nothing (a ∷ word) = refl

    choose : (i < length text) ⊎ (length text ≤ i) → i ≡ common_length word text
    choose (inl below) =
        let none : common_length (drop i word) (drop i text) ≡ 0 =
        ap (λ (xs : List ℕ). common_length xs (drop i text)) (drop_more word i 0 within) ∙ ap (common_length (get_or word i 0 ∷ drop (i + 1) word)) (drop_more text i 0 below)
        ∙ other_head (get_or word i 0) (get_or text i 0) (drop (i + 1) word) (drop (i + 1) text) (ne_eqb (get_or word i 0) (get_or text i 0) (λ e. other (sym e))) in
        omega arith
    choose (inr end) = let none : common_length (drop i word) (drop i text) ≡ 0 = ap (common_length (drop i word)) (drop_all i text end) ∙ nothing (drop i word) in omega arith

-- a word that a text doesn't begin with
pub common_length-short : (word text : List ℕ) → (common_length word text ≡ length word → ⊥) → common_length word text < length word
common_length-short [] text other = absurd (other refl)
common_length-short (a ∷ word) [] other = omega arith
common_length-short (a ∷ word) (b ∷ text) other = more (cases_Bool (a == b)) (common_length-short word text)
  where
    more : ((a == b) ≡ true) ⊎ ((a == b) ≡ false) → ((common_length word text ≡ length word → ⊥) → common_length word text < length word) → common_length (a ∷ word) (b ∷ text) < length (a ∷ word)
    more (inl same) again =
        let e : common_length (a ∷ word) (b ∷ text) ≡ suc (common_length word text) = same_head a b word text (eqb-true a b same) in
        let h : common_length word text < length word = again (λ whole. other (let w : common_length (a ∷ word) (b ∷ text) ≡ length (a ∷ word) = omega arith in w)) in
        omega arith
    more (inr differs) again = let e : common_length (a ∷ word) (b ∷ text) ≡ 0 = other_head a b word text differs in omega arith
