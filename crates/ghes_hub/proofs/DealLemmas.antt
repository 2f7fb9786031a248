-- Listeners dealt out in turn.
use Rattle.std.proofs.Common.{◌≡◌, ◌≢◌, ◌∙◌, ℕ, zero, suc, ◌+◌, ◌<◌, ◌≤◌, ◌%◌, ◌⊎◌, inl, inr, Bool, cond, List, [], ◌∷◌, ◌++◌, length, length-append, set}
use Rattle.std.proofs.Common.{get_or, Some, slice_get, Vec, vec_capacity, refl, sym, ap, arith, append_assoc, mod-lt}
use Rattle.std.specs.declared.alloc.Global.{Global}
use Rattle.std.proofs.lemmas.Bool.{cases_eq, eq-eqb, ne_eqb}
use Rattle.std.proofs.lemmas.List.{length-set}
use Rattle.std.proofs.lemmas.Option.{slice_get_within, slice_get_read}
use Rattle.ghes_hub.specs.Chains.{in_order}
use Rattle.ghes_hub.specs.Deals.{dealt_to, AreDealt, AreEmpty}
use Rattle.ghes_hub.proofs.SourceLemmas.{slice_get-same, slice_get-other}
use Rattle.std.specs.Prelude.{map}

pub dealt_here : {L : Type 0} (n i k : ℕ) (x : L) (xs : List L) → k % n ≡ i → dealt_to n i k (x ∷ xs) ≡ x ∷ dealt_to n i (k + 1) xs
dealt_here {L} n i k x xs e = ap (λ (b : Bool). cond {A = List L} b (x ∷ dealt_to n i (k + 1) xs) (dealt_to n i (k + 1) xs)) (eq-eqb (k % n) i e)

pub dealt_there : {L : Type 0} (n i k : ℕ) (x : L) (xs : List L) → k % n ≢ i → dealt_to n i k (x ∷ xs) ≡ dealt_to n i (k + 1) xs
dealt_there {L} n i k x xs e = ap (λ (b : Bool). cond {A = List L} b (x ∷ dealt_to n i (k + 1) xs) (dealt_to n i (k + 1) xs)) (ne_eqb (k % n) i e)

pub dealt_few : {L : Type 0} (n i k : ℕ) (xs : List L) → length (dealt_to n i k xs) ≤ length xs
dealt_few n i k [] = omega arith
dealt_few {L} n i k (x ∷ xs) = elim (cases_eq (k % n) i) [
  | inl e ↦ let h = ap length (dealt_here n i k x xs e) in let r = dealt_few n i (k + 1) xs in omega (arith, h, r)
  | inr e ↦ let h = ap length (dealt_there n i k x xs e) in let r = dealt_few n i (k + 1) xs in omega (arith, h, r)
]

-- one more item in one of the lists
one_longer : {X : Type 0} (lists : List (Vec X Global)) (i : ℕ) (old new : Vec X Global) (x : X) → slice_get lists i ≡ Some old → new.items ≡ old.items ++ x ∷ [] →
    length (in_order (map (λ list. list.items) (set lists i new))) ≡ length (in_order (map (λ list. list.items) lists)) + 1
one_longer [] i old new x is more = absurd (let w = slice_get_within [] i old is in omega (arith, w))
one_longer {X} (list ∷ lists) zero old new x is more =
    let e : list ≡ old = (let both : Some list ≡ Some old = is in cc) in
    let a = length-append new.items (in_order (map (λ list. list.items) lists)) in
    let b = length-append list.items (in_order (map (λ list. list.items) lists)) in
    let m = ap length more ∙ length-append old.items (x ∷ []) in
    let o : length list.items ≡ length old.items = ap (λ (v : Vec X Global). length v.items) e in
    omega (arith, a, b, m, o)
one_longer (list ∷ lists) (suc i) old new x is more =
    let a = length-append list.items (in_order (map (λ list. list.items) (set lists i new))) in
    let b = length-append list.items (in_order (map (λ list. list.items) lists)) in
    let rest = one_longer lists i old new x is more in
    omega (arith, a, b, rest)

none_in : {X : Type 0} (lists : List (Vec X Global)) → ((i : ℕ) (list : Vec X Global) → slice_get lists i ≡ Some list → list.items ≡ []) → length (in_order (map (λ list. list.items) lists)) ≡ 0
none_in [] each = refl
none_in (list ∷ lists) each =
    let a = length-append list.items (in_order (map (λ list. list.items) lists)) in
    let e = ap length (each 0 list refl) in
    let rest = none_in lists (λ i l is. each (suc i) l is) in
    omega (arith, a, e, rest)

pub none_dealt : {X : Type 0} (n : ℕ) (all : List X) (lists : List (Vec X Global)) → AreEmpty n (length all) lists → AreDealt n 0 all all lists
none_dealt {X} n all lists h = record {
  count = h.count;
  each = λ i list is. ap (λ (xs : List X). xs ++ dealt_to n i 0 all) (h.each i list is);
  room = h.room;
  total = none_in lists h.each;
}

pub one_dealt : {X : Type 0} (n k : ℕ) (all : List X) (x : X) (rest : List X) (lists : List (Vec X Global)) (old new : Vec X Global) →
    AreDealt n k all (x ∷ rest) lists → slice_get lists (k % n) ≡ Some old → new.items ≡ old.items ++ x ∷ [] → vec_capacity new ≡ vec_capacity old →
    AreDealt n (k + 1) all rest (set lists (k % n) new)
one_dealt {X} n k all x rest lists old new h here more same =
    let within = slice_get_within lists (k % n) old here in
    let at : (i : ℕ) (list : Vec X Global) → slice_get (set lists (k % n) new) i ≡ Some list → ((i ≡ k % n) × (list ≡ new)) ⊎ ((i ≢ k % n) × (slice_get lists i ≡ Some list)) =
    λ i list is. elim (cases_eq i (k % n)) [
      | inl e ↦ inl (e, let both = sym is ∙ ap (slice_get (set lists (k % n) new)) e ∙ slice_get-same lists (k % n) new within in cc)
      | inr e ↦ inr (e, sym (slice_get-other lists (k % n) i new e) ∙ is)
    ] in
    record {
      count = length-set lists (k % n) new ∙ h.count;
      each = λ i list is. elim (at i list is) [
        | inl e ↦
            ap (λ (v : Vec X Global). v.items ++ dealt_to n i (k + 1) rest) e.1 ∙ ap (λ (xs : List X). xs ++ dealt_to n i (k + 1) rest) more
            ∙ append_assoc old.items (x ∷ []) (dealt_to n i (k + 1) rest)
            ∙ ap (λ (xs : List X). old.items ++ xs) (sym (dealt_here n i k x rest (sym e.0)))
            ∙ h.each i old (ap (slice_get lists) e.0 ∙ here)
        | inr e ↦ ap (λ (xs : List X). list.items ++ xs) (sym (dealt_there n i k x rest (λ y. e.0 (sym y)))) ∙ h.each i list e.1
      ];
      room = λ i list is. elim (at i list is) [
        | inl e ↦ let r = h.room (k % n) old here in let c = ap vec_capacity e.1 in omega (arith, r, c, same)
        | inr e ↦ h.room i list e.1
      ];
      total = let t = one_longer lists (k % n) old new x here more in let u = h.total in omega (arith, t, u);
    }

-- there is room for the next one
pub has_place : {X : Type 0} (n k : ℕ) (all : List X) (x : X) (rest : List X) (lists : List (Vec X Global)) (list : Vec X Global) →
    AreDealt n k all (x ∷ rest) lists → slice_get lists (k % n) ≡ Some list → length list.items < vec_capacity list
has_place {X} n k all x rest lists list h here =
    let e : list.items ++ x ∷ dealt_to n (k % n) (k + 1) rest ≡ dealt_to n (k % n) 0 all = ap (λ (xs : List X). list.items ++ xs)
    (sym (dealt_here n (k % n) k x rest refl)) ∙ h.each (k % n) list here in
    let l = ap length e in
    let a = length-append list.items (x ∷ dealt_to n (k % n) (k + 1) rest) in
    let few = dealt_few n (k % n) 0 all in
    let room = h.room (k % n) list here in
    omega (arith, l, a, few, room)

-- the list that is next
pub list_at : {X : Type 0} (n k : ℕ) (all rest : List X) (lists : List (Vec X Global)) (count : ℕ) (list : Vec X Global) → count ≡ n → 0 < n →
    AreDealt n k all rest lists → list ≡ get_or lists (k % count) list → slice_get lists (k % n) ≡ Some list
list_at n k all rest lists count list same some h is =
    let within : k % n < n = mod-lt k some in
    let c = h.count in
    slice_get_read lists (length lists) (k % n) list refl (omega (arith, within, c)) (is ∙ ap (λ (j : ℕ). get_or lists (k % j) list) same)
