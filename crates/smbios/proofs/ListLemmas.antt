-- Lists with one more element at their end.
use Rattle.std.proofs.Common.{◌≡◌, ℕ, List, [], ◌∷◌, ◌++◌, map, ap, sym, ◌∙◌}
use Rattle.std.proofs.lemmas.List.{append_assoc, append-nil}
use Rattle.base_model.specs.Bytes.{joined}
use Rattle.smbios.specs.Lists.{Each}

pub each_more : {X : Type 0} (P : X → Type 0) (xs : List X) (x : X) → Each P xs → P x → Each P (xs ++ x ∷ [])
each_more P [] x each is = (is, tt)
each_more P (first ∷ xs) x each is = (each.0, each_more P xs x each.1 is)

joined_more : {X : Type 0} (bytes : X → List ℕ) (xs : List X) (x : X) → joined (map bytes (xs ++ x ∷ [])) ≡ joined (map bytes xs) ++ bytes x
joined_more bytes [] x = append-nil (bytes x)
joined_more bytes (first ∷ xs) x =
    ap (λ (it : List ℕ). bytes first ++ it) (joined_more bytes xs x) ∙ sym (append_assoc (bytes first) (joined (map bytes xs)) (bytes x))

-- what stands first, and one more
pub stands_more : {X : Type 0} (bytes : X → List ℕ) (xs : List X) (x : X) (all rest after : List ℕ) → all ≡ joined (map bytes xs) ++ rest
    → rest ≡ bytes x ++ after → all ≡ joined (map bytes (xs ++ x ∷ [])) ++ after
stands_more bytes xs x all rest after is stands =
    is ∙ ap (λ (it : List ℕ). joined (map bytes xs) ++ it) stands ∙ sym (append_assoc (joined (map bytes xs)) (bytes x) after)
    ∙ ap (λ (it : List ℕ). it ++ after) (sym (joined_more bytes xs x))
