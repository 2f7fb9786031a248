-- Elements of lists.
use Rattle.std.proofs.Common.{◌≡◌, ◌⊎◌, ℕ, zero, suc, ◌+◌, ◌<◌, List, [], ◌∷◌, ◌++◌, length, inl, inr, refl, sym, subst, arith}
use Rattle.std.specs.Prelude.{Contains, slice_index_or}
use Rattle.erst_listing.specs.Devices.{AreDistinct}

in_tail : (id other : ℕ) (ids : List ℕ) → Contains ids other → Contains (id ∷ ids) other
in_tail id other ids has = (suc has.0, omega (arith, has.1), has.2)

at_head : (id : ℕ) (ids : List ℕ) → Contains (id ∷ ids) id
at_head id ids = (0, omega arith, refl)

head_or_tail : (id other : ℕ) (ids : List ℕ) → Contains (id ∷ ids) other → (id ≡ other) ⊎ Contains ids other
head_or_tail id other ids has = by_place has.0 has.1 has.2
  where
    by_place : (k : ℕ) → k < length (id ∷ ids) → slice_index_or (id ∷ ids) k other ≡ other → (id ≡ other) ⊎ Contains ids other
    by_place zero below is = inl is
    by_place (suc k) below is = inr (k, omega (arith, below), is)

pub none_in : (other : ℕ) → Contains [] other → ⊥
none_in other has = absurd (omega (arith, has.1))

pub in_before : (ids : List ℕ) (id other : ℕ) → Contains ids other → Contains (ids ++ id ∷ []) other
in_before [] id other has = absurd (none_in other has)
in_before (first ∷ ids) id other has = elim (head_or_tail first other ids has) [
  | inl same ↦ subst (Contains (first ∷ ids ++ id ∷ [])) same (at_head first (ids ++ id ∷ []))
  | inr later ↦ in_tail first other (ids ++ id ∷ []) (in_before ids id other later)
]

pub at_last : (ids : List ℕ) (id : ℕ) → Contains (ids ++ id ∷ []) id
at_last [] id = at_head id []
at_last (first ∷ ids) id = in_tail first id (ids ++ id ∷ []) (at_last ids id)

pub in_more : (ids : List ℕ) (id other : ℕ) → Contains (ids ++ id ∷ []) other → (id ≡ other) ⊎ Contains ids other
in_more [] id other has = head_or_tail id other [] has
in_more (first ∷ ids) id other has = elim (head_or_tail first other (ids ++ id ∷ []) has) [
  | inl same ↦ inr (subst (Contains (first ∷ ids)) same (at_head first ids))
  | inr later ↦ elim (in_more ids id other later) [ inl same ↦ inl same | inr within ↦ inr (in_tail first other ids within) ]
]

pub distinct_more : (ids : List ℕ) (id : ℕ) → AreDistinct ids → (Contains ids id → ⊥) → AreDistinct (ids ++ id ∷ [])
distinct_more [] id are misses = (none_in id, tt)
distinct_more (first ∷ ids) id are misses = (
  λ has. elim (in_more ids id first has) [ inl same ↦ misses (subst (Contains (first ∷ ids)) (sym same) (at_head first ids)) | inr within ↦ are.0 within ],
  distinct_more ids id are.1 (λ has. misses (in_tail first id ids has)),
)

pub length_more : (ids : List ℕ) (id : ℕ) → length (ids ++ id ∷ []) ≡ length ids + 1
length_more [] id = refl
length_more (first ∷ ids) id = let more = length_more ids id in omega (arith, more)
