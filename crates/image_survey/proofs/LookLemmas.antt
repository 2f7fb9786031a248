-- The tail mark of an image's slot, and lists that grow by an item.
use Rattle.std.proofs.Common.{◌≡◌, ℕ, ◌+◌, ◌-◌, ◌<◌, List, [], ◌∷◌, ◌++◌, length, take, drop, get_or, length-append, sym, ap, subst, ◌∙◌, arith, inl, inr}
use Rattle.std.proofs.lemmas.Bool.{cases_eq}
use Rattle.std.proofs.lemmas.List.{drop_more}
use Rattle.std.proofs.Math.ListN.{get_or-append}
use Rattle.std.proofs.Math.Seq.{get_or-append_seam}
use Rattle.base_model.specs.Bytes.{part, little, number_at}
use Rattle.record_model.specs.Records.{tail_at}

-- the tail mark is a byte of the image
pub tail_at-byte : (image : List ℕ) (place size : ℕ) → place + (size - 1) < length image → get_or image (place + (size - 1)) 0 ≡ tail_at image place size
unfolding tail_at number_at part
tail_at-byte image place size h =
    let next : drop (place + (size - 1)) image ≡ get_or image (place + (size - 1)) 0 ∷ drop (place + (size - 1) + 1) image = drop_more image (place + (size - 1)) 0 h in
    sym (ap (λ (xs : List ℕ). little (take 1 xs)) next ∙ (omega arith))

-- one more item behind n items of each of which a fact holds
push_fact : {A : Type 0} (P : ℕ → A → Type 0) (n : ℕ) (xs : List A) (x : A) → length xs ≡ n → P n x
    → ((k : ℕ) (d : A) → k < n → P k (get_or xs k d)) → (k : ℕ) (d : A) → k < n + 1 → P k (get_or (xs ++ x ∷ []) k d)
push_fact {A = A} P n xs x long here had k d h = elim (cases_eq k n) [
  | inl last ↦
      let seam : get_or (xs ++ x ∷ []) (length xs) d ≡ x = get_or-append_seam xs x [] d in
      let at : length xs ≡ k = omega arith in
      subst (λ (y : A). P k y) (sym (ap (λ (i : ℕ). get_or (xs ++ x ∷ []) i d) (sym at) ∙ seam)) (subst (λ (i : ℕ). P i x) (sym last) here)
  | inr before ↦
      let low : k < length xs = omega arith in
      subst (λ (y : A). P k y) (sym (get_or-append xs (x ∷ []) d k low)) (had k d (omega arith))
]

pub pushed : {A : Type 0} (P : ℕ → A → Type 0) (n : ℕ) (xs ys : List A) (x : A) → ys ≡ xs ++ x ∷ [] → length xs ≡ n → P n x
    → ((k : ℕ) (d : A) → k < n → P k (get_or xs k d)) → (length ys ≡ n + 1) × ((k : ℕ) (d : A) → k < n + 1 → P k (get_or ys k d))
pushed {A = A} P n xs ys x items long here had =
    let more = length-append xs (x ∷ []) in
    let grown = ap length items in
    (omega arith, subst (λ (zs : List A). (k : ℕ) (d : A) → k < n + 1 → P k (get_or zs k d)) (sym items) (push_fact P n xs x long here had))
