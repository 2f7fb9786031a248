-- One more mark.
use Rattle.std.proofs.Common.{◌≡◌, ◌≢◌, ℕ, ◌+◌, ◌<◌, Bool, true, false, List, ◌∷◌, length, take, get_or, refl, sym, ap, subst, ◌∙◌, inl, inr}
use Rattle.std.specs.Prelude.{◌==◌, ◌||◌}
use Rattle.std.specs.List.{list_any}
use Rattle.std.proofs.Math.ListN.{set}
use Rattle.std.proofs.lemmas.Bool.{cases_eq, eq-eqb, ne_eqb}
use Rattle.std.proofs.lemmas.List.{get_or-set_other, get_or-set_same}
use Rattle.std.proofs.lemmas.List.Folds.{list_any_more}
use Rattle.record_slots.specs.Looks.{AreMarked}

pub or_true : (b : Bool) → (b || true) ≡ true
or_true true = refl
or_true false = refl

pub or_false : (b : Bool) → (b || false) ≡ b
or_false true = refl
or_false false = refl

-- for one more of a list of things, of which each has its slot
pub marked_more : {X : Type 0} (n i : ℕ) (of : X → ℕ → Bool) (xs : List X) (d : X) (marks other : List Bool) → i < length xs
    → AreMarked n (λ k. list_any (λ x. of x k) (take i xs)) marks
    → ((k : ℕ) (b : Bool) → k < n → get_or other k b ≡ (get_or marks k b || of (get_or xs i d) k))
    → AreMarked n (λ k. list_any (λ x. of x k) (take (i + 1) xs)) other
marked_more n i of xs d marks other within had more k b h =
    more k b h ∙ ap (λ (m : Bool). m || of (get_or xs i d) k) (had k b h) ∙ sym (list_any_more (λ x. of x k) xs i d within)

-- one mark set, as each mark is afterwards
pub mark_or : (marks : List Bool) (at k : ℕ) (d b : Bool) → at < length marks → (k ≡ at → b ≡ true) → (k ≢ at → b ≡ false)
    → get_or (set marks at true) k d ≡ (get_or marks k d || b)
mark_or marks at k d b within here apart = elim (cases_eq k at) [
  | inl is ↦
      subst (λ (i : ℕ). get_or (set marks at true) i d ≡ (get_or marks i d || b)) (sym is)
      (get_or-set_same marks at true d within ∙ sym (or_true (get_or marks at d)) ∙ ap (λ (c : Bool). get_or marks at d || c) (sym (here is)))
  | inr other ↦ get_or-set_other marks at k true d other ∙ sym (or_false (get_or marks k d)) ∙ ap (λ (c : Bool). get_or marks k d || c) (sym (apart other))
]

or_assoc : (a b c : Bool) → ((a || b) || c) ≡ (a || (b || c))
or_assoc true b c = refl
or_assoc false b c = refl

-- one mark more behind marks that are set for a list of numbers
pub mark_again : (marks first : List Bool) (x : ℕ) (xs : List ℕ) (at k : ℕ) (d : Bool) → at < length xs → get_or xs at 0 < length marks
    → get_or marks k d ≡ (get_or first k d || list_any (λ n. k == n) (x ∷ take at xs))
    → get_or (set marks (get_or xs at 0) true) k d ≡ (get_or first k d || list_any (λ n. k == n) (x ∷ take (at + 1) xs))
mark_again marks first x xs at k d within fits had =
    mark_or marks (get_or xs at 0) k d (k == get_or xs at 0) fits (λ here. eq-eqb k (get_or xs at 0) here) (λ apart. ne_eqb k (get_or xs at 0) apart)
    ∙ ap (λ (b : Bool). b || (k == get_or xs at 0)) had
    ∙ or_assoc (get_or first k d) (list_any (λ n. k == n) (x ∷ take at xs)) (k == get_or xs at 0)
    ∙ ap (λ (b : Bool). get_or first k d || b)
    (or_assoc (k == x) (list_any (λ n. k == n) (take at xs)) (k == get_or xs at 0) ∙ ap (λ (b : Bool). (k == x) || b) (sym (list_any_more (λ n. k == n) xs at 0 within)))

-- the first one
pub mark_first : (marks : List Bool) (x : ℕ) (xs : List ℕ) (k : ℕ) (d : Bool) → x < length marks → get_or (set marks x true) k d ≡ (get_or marks k d || list_any (λ n. k == n) (x ∷ take 0 xs))
mark_first marks x xs k d fits =
    mark_or marks x k d (k == x) fits (λ here. eq-eqb k x here) (λ apart. ne_eqb k x apart) ∙ ap (λ (b : Bool). get_or marks k d || b) (sym (or_false (k == x)))
