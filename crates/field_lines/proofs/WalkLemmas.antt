-- Whether a field is shown: of fields that a table has, and of registers that stand one behind another.
use Rattle.std.proofs.Common.{◌≡◌, ℕ, ◌+◌, ◌<◌, ◌≤◌, Bool, true, false, List, [], ◌∷◌, ◌||◌, length, map, refl, sym, ap, ◌∙◌, arith, nat_lt, nat_le}
use Rattle.std.specs.List.{list_any}
use Rattle.std.proofs.lemmas.Grind.{common_steps}
use Rattle.field_lines.specs.Fields.{register_fields}
use Rattle.field_lines.specs.Walks.{is_shown}

pub list_any-map : {A B : Type 0} (test : B → Bool) (view : A → B) (xs : List A) → list_any (λ x. test (view x)) xs ≡ list_any test (map view xs)
list_any-map test view [] = refl
list_any-map test view (x ∷ xs) = ap (λ (others : Bool). test (view x) || others) (list_any-map test view xs)

no_register : (valid len width at : ℕ) (names : List (List ℕ)) → len < at + width → list_any (is_shown valid len) (register_fields width at names) ≡ false
no_register valid len width at [] beyond = refl
no_register valid len width at (name ∷ names) beyond =
    let test : nat_lt len (at + width) ≡ true = grind (arith, common_steps) in
    rw test (no_register valid len width (at + width) names (omega arith))

by_first : (valid len width : ℕ) (names : List (List ℕ)) (beyond : Bool)
    → 0 < length names → nat_lt len (0 + width) ≡ beyond → nat_le width len ≡ list_any (is_shown valid len) (register_fields width 0 names)
by_first valid len width [] beyond some test = absurd (omega (arith, some))
by_first valid len width (name ∷ names) true some test =
    let short : len < width = grind (arith, common_steps) in
    let unfit : nat_le width len ≡ false = grind (arith, common_steps) in
    rw test (unfit ∙ sym (no_register valid len width (0 + width) names (omega arith)))
by_first valid len width (name ∷ names) false some test =
    let within : width ≤ len = grind (arith, common_steps) in
    let fit : nat_le width len ≡ true = grind (arith, common_steps) in
    rw test fit

-- where there are registers, one is shown if the first of them is within the body
pub first_register : (valid len width : ℕ) (names : List (List ℕ)) → 0 < length names → nat_le width len ≡ list_any (is_shown valid len) (register_fields width 0 names)
first_register valid len width names some = by_first valid len width names (nat_lt len (0 + width)) some refl
