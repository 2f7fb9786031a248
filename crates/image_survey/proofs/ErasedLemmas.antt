-- Bytes that are each as the one before.
use Rattle.std.proofs.Common.{◌≡◌, ℕ, Bool, true, false, List, [], ◌∷◌, length, take, refl, sym, ap, ◌∙◌}
use Rattle.std.specs.Prelude.{◌==◌, ◌&&◌}
use Rattle.std.specs.List.{list_all}
use Rattle.std.specs.Str.{bytes_eq}
use Rattle.std.proofs.lemmas.Bool.{eqb-true, eq-eqb}

and_same : (b p q : Bool) → (b ≡ true → p ≡ q) → (b && p) ≡ (b && q)
and_same true p q same = same refl
and_same false p q same = refl

-- where the first is some byte, the others are that byte just where each is as the one before it
pub all_alike : (c x : ℕ) (xs : List ℕ) → (x == c) ≡ true → bytes_eq xs (take (length xs) (x ∷ xs)) ≡ list_all (λ byte. byte == c) xs
all_alike c x [] is = refl
all_alike c x (y ∷ ys) is =
    ap (λ (n : ℕ). (y == n) && bytes_eq ys (take (length ys) (y ∷ ys))) (eqb-true x c is)
    ∙ and_same (y == c) (bytes_eq ys (take (length ys) (y ∷ ys))) (list_all (λ byte. byte == c) ys) (all_alike c y ys)

pub erased_by_pairs : (bytes rest : List ℕ) (first n : ℕ) → bytes ≡ first ∷ rest → first ≡ 0xFF → n ≡ length rest
    → bytes_eq rest (take n bytes) ≡ list_all (λ byte. byte == 0xFF) bytes
erased_by_pairs bytes rest first n whole is long =
    let same : (first == 0xFF) ≡ true = eq-eqb first 0xFF is in
    ap (λ (m : ℕ). bytes_eq rest (take m bytes)) long ∙ ap (λ (xs : List ℕ). bytes_eq rest (take (length rest) xs)) whole
    ∙ all_alike 0xFF first rest same
    ∙ sym (ap (λ (xs : List ℕ). list_all (λ byte. byte == 0xFF) xs) whole ∙ ap (λ (b : Bool). b && list_all (λ byte. byte == 0xFF) rest) same)
