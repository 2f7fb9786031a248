-- The entries of an action, counted and found by their place.
use Rattle.std.proofs.Common.{◌≡◌, ℕ, zero, suc, ◌+◌, ◌-◌, ◌<◌, ◌≤◌, ◌==◌, Bool, true, false, List, [], ◌∷◌, ◌++◌, length, take, drop, get_or, slice_get}
use Rattle.std.proofs.Common.{count_by, Some, ◌⊎◌, inl, inr, refl, sym, ap, subst, ◌∙◌, arith, eq-eqb, drop-cons, length-append, append-nil}
use Rattle.std.proofs.lemmas.List.{take-append-drop, drop_all}
use Rattle.std.proofs.lemmas.Bool.Decides.{eqb_tells}
use Rattle.std.proofs.lemmas.List.Sums.{length-filter}
use Rattle.std.proofs.lemmas.List.Elements.{filter-append}
use Rattle.erst_entries.specs.declared.entries.Entry.{Entry}
use Rattle.erst_entries.specs.Programs.{entries_of}

tells : (b : Bool) → (b ≡ true) ⊎ (b ≡ false)
tells true = inl refl
tells false = inr refl

pub entries_of-cons_other : (action : ℕ) (entry : Entry) (entries : List Entry) → (entry.action == action) ≡ false → entries_of action (entry ∷ entries) ≡ entries_of action entries
unfolding entries_of
entries_of-cons_other action entry entries other = rw other refl

pub entries_of-cons_same : (action : ℕ) (entry : Entry) (entries : List Entry) → (entry.action == action) ≡ true → entries_of action (entry ∷ entries) ≡ entry ∷ entries_of action entries
unfolding entries_of
entries_of-cons_same action entry entries same = rw same refl

pub entries_of-nil : (action : ℕ) → entries_of action [] ≡ []
unfolding entries_of
entries_of-nil action = refl

pub length-entries_of : (action : ℕ) (entries : List Entry) → length (entries_of action entries) ≤ length entries
length-entries_of action [] = rw entries_of-nil (omega arith)
length-entries_of action (entry ∷ entries) =
    let rest : length (entries_of action entries) ≤ length entries = length-entries_of action entries in
    elim (tells (entry.action == action)) [
      | inl same ↦ rw (entries_of-cons_same action entry entries same) (omega arith)
      | inr other ↦ rw (entries_of-cons_other action entry entries other) (omega arith)
    ]

-- where each entry has the action, those are the entries
pub entries_of-all : (action : ℕ) (entries : List Entry) → length (entries_of action entries) ≡ length entries → entries_of action entries ≡ entries
entries_of-all action [] all = entries_of-nil action
entries_of-all action (entry ∷ entries) all =
    elim (tells (entry.action == action)) [
      | inl same ↦
          let is = entries_of-cons_same action entry entries same in
          let all_is : suc (length (entries_of action entries)) ≡ suc (length entries) = sym (ap length is) ∙ all in
          let rest : length (entries_of action entries) ≡ length entries = omega arith in
          is ∙ ap (λ (xs : List Entry). entry ∷ xs) (entries_of-all action entries rest)
      | inr other ↦
          let is = entries_of-cons_other action entry entries other in
          let all_is : length (entries_of action entries) ≡ suc (length entries) = sym (ap length is) ∙ all in
          let low = length-entries_of action entries in
          absurd (omega arith)
    ]

-- as many as there are stand in the front, so none stands behind it
pub entries_of-front : (action n : ℕ) (entries : List Entry) → length (entries_of action (take n entries)) ≡ length (entries_of action entries) →
    entries_of action (take n entries) ≡ entries_of action entries
unfolding entries_of
entries_of-front action n entries all =
    let split : entries_of action entries ≡ entries_of action (take n entries) ++ entries_of action (drop n entries) =
    ap (entries_of action) (sym (take-append-drop n entries)) ∙ filter-append (λ (entry : Entry). entry.action == action) (take n entries) (drop n entries) in
    let none : length (entries_of action (drop n entries)) ≡ 0 = omega (arith, ap length split, length-append (entries_of action (take n entries)) (entries_of action (drop n entries))) in
    sym (split ∙ ap (λ (xs : List Entry). entries_of action (take n entries) ++ xs) (no_length (entries_of action (drop n entries)) none) ∙ append-nil (entries_of action (take n entries))) where
      no_length : (xs : List Entry) → length xs ≡ 0 → xs ≡ []
      no_length [] e = refl
      no_length (x ∷ xs) e = absurd (omega arith)

-- the entry at a place of what is left, and at the place of the whole
pub record IsLeft (action : ℕ) (rest : List Entry) (left : ℕ) (entries : List Entry) (index : ℕ) : Type 0 where
  pub within : left < length (entries_of action rest)
  pub same : slice_get (entries_of action rest) left ≡ slice_get (entries_of action entries) index

pub is_left-other : (action : ℕ) (entry : Entry) (rest : List Entry) (left : ℕ) (entries : List Entry) (index : ℕ) →
    (entry.action == action) ≡ false → IsLeft action (entry ∷ rest) left entries index → IsLeft action rest left entries index
is_left-other action entry rest left entries index other is =
    let e = entries_of-cons_other action entry rest other in
    record {
      within = subst (λ (xs : List Entry). left < length xs) e is.within;
      same = ap (λ (xs : List Entry). slice_get xs left) (sym e) ∙ is.same;
    }

pub is_left-same : (action : ℕ) (entry : Entry) (rest : List Entry) (left : ℕ) (entries : List Entry) (index : ℕ) →
    (entry.action == action) ≡ true → IsLeft action (entry ∷ rest) (suc left) entries index → IsLeft action rest left entries index
is_left-same action entry rest left entries index same is =
    let e = entries_of-cons_same action entry rest same in
    let within : suc left < suc (length (entries_of action rest)) = subst (λ (xs : List Entry). suc left < length xs) e is.within in
    record {
      within = omega arith;
      same = ap (λ (xs : List Entry). slice_get xs (suc left)) (sym e) ∙ is.same;
    }

pub is_left-here : (action : ℕ) (entry : Entry) (rest : List Entry) (entries : List Entry) (index : ℕ) →
    (entry.action == action) ≡ true → IsLeft action (entry ∷ rest) 0 entries index → slice_get (entries_of action entries) index ≡ Some entry
is_left-here action entry rest entries index same is =
    sym is.same ∙ ap (λ (xs : List Entry). slice_get xs 0) (entries_of-cons_same action entry rest same)

pub is_left-none : (action left : ℕ) (entries : List Entry) (index : ℕ) → IsLeft action [] left entries index → ⊥
is_left-none action left entries index is =
    let within : left < 0 = subst (λ (xs : List Entry). left < length xs) (entries_of-nil action) is.within in
    omega arith

-- what is left at an index, as its first entry and those behind it
pub drop-next : (entries : List Entry) (i : ℕ) (d : Entry) → i < length entries → drop i entries ≡ get_or entries i d ∷ drop (i + 1) entries
drop-next entries i d h =
    let next : suc i ≡ i + 1 = omega arith in
    drop-cons entries i d h ∙ ap (λ (k : ℕ). get_or entries i d ∷ drop k entries) next

pub is_left-next : (action : ℕ) (all : List Entry) (i left : ℕ) (entries : List Entry) (index : ℕ) (d : Entry) → i < length all →
    IsLeft action (drop i all) left entries index → IsLeft action (get_or all i d ∷ drop (i + 1) all) left entries index
is_left-next action all i left entries index d h is = subst (λ (xs : List Entry). IsLeft action xs left entries index) (drop-next all i d h) is

pub is_left-end : (action : ℕ) (all : List Entry) (i left : ℕ) (entries : List Entry) (index : ℕ) → length all ≤ i → IsLeft action (drop i all) left entries index → ⊥
is_left-end action all i left entries index h is =
    is_left-none action left entries index (subst (λ (xs : List Entry). IsLeft action xs left entries index) (drop_all i all h) is)

pub skip-next : (action : ℕ) (entries : List Entry) (i : ℕ) (d : Entry) → i < length entries → ((get_or entries i d).action == action) ≡ false →
    entries_of action (drop (i + 1) entries) ≡ entries_of action (drop i entries)
skip-next action entries i d h other =
    sym (ap (entries_of action) (drop-next entries i d h) ∙ entries_of-cons_other action (get_or entries i d) (drop (i + 1) entries) other)

-- how many they are
pub length_entries_of : (action : ℕ) (entries : List Entry) → length (entries_of action entries) ≡ count_by (λ (entry : Entry). entry.action == action) entries
unfolding entries_of
length_entries_of action entries = length-filter (λ (entry : Entry). entry.action == action) entries

pub same_test : (a b : ℕ) → a ≡ b → (a == b) ≡ true
same_test a b h = eq-eqb a b h

pub other_test : (a b : ℕ) → (a ≡ b → ⊥) → (a == b) ≡ false
other_test a b h = elim (eqb_tells a b) [ inl same ↦ absurd (h same.1) | inr other ↦ other.0 ]

-- one more of the action has been passed
pub is_left-passed : (action : ℕ) (entry : Entry) (rest : List Entry) (left next : ℕ) (entries : List Entry) (index : ℕ) →
    entry.action ≡ action → (left ≡ 0 → ⊥) → next ≡ left - 1 → IsLeft action (entry ∷ rest) left entries index → IsLeft action rest next entries index
is_left-passed action entry rest left next entries index same some one is =
    let e : left ≡ suc next = omega arith in
    is_left-same action entry rest next entries index (same_test entry.action action same) (subst (λ (k : ℕ). IsLeft action (entry ∷ rest) k entries index) e is)

-- an entry that is there
pub slice_get-there : (entries : List Entry) (i : ℕ) (d : Entry) → i < length entries → slice_get entries i ≡ Some (get_or entries i d)
slice_get-there [] i d h = absurd (omega arith)
slice_get-there (entry ∷ entries) zero d h = refl
slice_get-there (entry ∷ entries) (suc i) d h = slice_get-there entries i d (omega arith)
