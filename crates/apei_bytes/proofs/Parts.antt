-- Fields at their places in bytes.
use Rattle.std.proofs.Common.{◌≡◌, ℕ, suc, ◌+◌, ◌-◌, ◌<◌, ◌≤◌, ◌^◌, List, [], ◌∷◌, ◌++◌, length, take, drop, map, get_or, refl, sym, ap, ◌∙◌, arith, drop-cons, zero-add}
use Rattle.std.proofs.lemmas.List.{drop-drop, drop_more, take_at, take_all, drop_at, take-append-drop}
use Rattle.base_model.specs.Bytes.{part, number_at, little, joined, spelled}
use Rattle.base_model.proofs.BytesLemmas.{part-append, part-append_left, part-part, cut-joined, little-spelled}
use Rattle.base_model.proofs.Terms.{cut, total}

-- what a range of a slice holds
pub between-part : (bytes : List ℕ) (at n : ℕ) → take (at + n - at) (drop at bytes) ≡ part bytes at n
unfolding part
between-part bytes at n = ap (λ (k : ℕ). take k (drop at bytes)) (omega arith)

-- a byte as a number
pub one_byte : (bytes : List ℕ) (at : ℕ) → at < length bytes → number_at bytes at 1 ≡ get_or bytes at 0
unfolding number_at part
one_byte bytes at h = ap (λ (xs : List ℕ). little (take 1 xs)) (drop_more bytes at 0 h) ∙ omega arith

-- the parts of these sizes, from a place on
abbrev pub parts : List ℕ → ℕ → List ℕ → List (List ℕ)
parts [] at bytes = []
parts (size ∷ sizes) at bytes = part bytes at size ∷ parts sizes (at + size) bytes

pub joined-parts : (sizes : List ℕ) (at : ℕ) (bytes : List ℕ) → joined (parts sizes at bytes) ≡ part bytes at (total sizes)
unfolding part
joined-parts [] at bytes = refl
joined-parts (size ∷ sizes) at bytes =
    ap (λ (xs : List ℕ). part bytes at size ++ xs) (joined-parts sizes (at + size) bytes) ∙ part-append bytes at size (total sizes)

pub parts-cut : (sizes : List ℕ) (at : ℕ) (bytes : List ℕ) → parts sizes at bytes ≡ cut sizes (drop at bytes)
unfolding part
parts-cut [] at bytes = refl
parts-cut (size ∷ sizes) at bytes =
    ap (λ (xss : List (List ℕ)). take size (drop at bytes) ∷ xss)
    (parts-cut sizes (at + size) bytes ∙ ap (cut sizes) (sym (drop-drop size at bytes)))

-- the fields that stand first are read at their places
pub parts-joined : (sizes : List ℕ) (fields : List (List ℕ)) (rest : List ℕ) → map length fields ≡ sizes → parts sizes 0 (joined fields ++ rest) ≡ fields
parts-joined sizes fields rest same =
    parts-cut sizes 0 (joined fields ++ rest) ∙ ap (λ (ns : List ℕ). cut ns (joined fields ++ rest)) (sym same) ∙ cut-joined fields rest

pub parts_of : (fields : List (List ℕ)) (sizes rest bytes : List ℕ) → map length fields ≡ sizes → bytes ≡ joined fields ++ rest → parts sizes 0 bytes ≡ fields
parts_of fields sizes rest bytes same e = ap (parts sizes 0) e ∙ parts-joined sizes fields rest same

-- a number where its spelling stands
pub number_of : (bytes : List ℕ) (at n x : ℕ) → part bytes at n ≡ spelled n x → x < 256 ^ n → number_at bytes at n ≡ x
unfolding number_at
number_of bytes at n x e h = ap little e ∙ little-spelled n x h

-- what stands first and what stands behind it
pub part-first : (xs ys : List ℕ) (n : ℕ) → length xs ≡ n → part (xs ++ ys) 0 n ≡ xs
unfolding part
part-first xs ys n h = take_at xs ys n h

pub part-second : (xs ys : List ℕ) (at n : ℕ) → length xs ≡ at → length ys ≡ n → part (xs ++ ys) at n ≡ ys
unfolding part
part-second xs ys at n h k = ap (take n) (drop_at xs ys at h) ∙ take_all n ys (omega arith)

-- what stands in the front of bytes
pub part-take : (bytes : List ℕ) (n at m : ℕ) → at + m ≤ n → part (take n bytes) at m ≡ part bytes at m
unfolding part
part-take bytes n at m h = part-part bytes 0 n at m h ∙ ap (λ (k : ℕ). part bytes k m) (zero-add at)

pub number_at-front : (bytes more : List ℕ) (at n : ℕ) → at + n ≤ length bytes → number_at (bytes ++ more) at n ≡ number_at bytes at n
unfolding number_at
number_at-front bytes more at n h = ap little (part-append_left bytes more at n h)

pub part-append-drop : (bytes : List ℕ) (n : ℕ) → part bytes 0 n ++ drop n bytes ≡ bytes
unfolding part
part-append-drop bytes n = take-append-drop n bytes

-- a byte and those behind it
pub part-cons : (bytes : List ℕ) (at n : ℕ) → at < length bytes → part bytes at (suc n) ≡ get_or bytes at 0 ∷ part bytes (at + 1) n
unfolding part
part-cons bytes at n here =
    let next : suc at ≡ at + 1 = omega arith in
    ap (take (suc n)) (drop-cons bytes at 0 here) ∙ ap (λ (k : ℕ). get_or bytes at 0 ∷ take n (drop k bytes)) next
