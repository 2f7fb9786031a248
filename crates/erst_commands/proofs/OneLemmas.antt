-- A boot error region has one list of blocks.
use Rattle.std.proofs.Common.{◌≡◌, ℕ, suc, List, [], ◌∷◌, ◌++◌, length, take, drop, All, Result, Ok, refl, sym, ap, ◌∙◌, arith, append_assoc}
use Rattle.std.proofs.lemmas.List.{take_at, drop_at, length-replicate}
use Rattle.base_model.specs.Bytes.{joined}
use Rattle.ghes_block.specs.declared.error.BlockError.{BlockError}
use Rattle.ghes_block.specs.Reading.{checked}
use Rattle.ghes_block.specs.Region.{IsOneBlock, zeros, IsLaidOut}
use Rattle.ghes_block.proofs.RegionLemmas.{ends-zeros, starts, no_block}

-- lists of two parts are equal part by part
same_parts : (xs ys others more : List ℕ) → length xs ≡ length others → xs ++ ys ≡ others ++ more → (xs ≡ others) × (ys ≡ more)
same_parts xs ys others more long same = (
  sym (take_at xs ys (length xs) refl) ∙ ap (λ (zs : List ℕ). take (length xs) zs) same ∙ take_at others more (length xs) (sym long),
  sym (drop_at xs ys (length xs) refl) ∙ ap (λ (zs : List ℕ). drop (length xs) zs) same ∙ drop_at others more (length xs) (sym long),
)

first_is : (block : List ℕ) (blocks : List (List ℕ)) → All IsOneBlock (block ∷ blocks) → IsOneBlock block
first_is block blocks all = all 0 [] (omega arith)

rest_are : (block : List ℕ) (blocks : List (List ℕ)) → All IsOneBlock (block ∷ blocks) → All IsOneBlock blocks
rest_are block blocks all k d h = all (suc k) d (omega (arith, h))

laid_once : (xs ys : List (List ℕ)) (left rest : ℕ) → All IsOneBlock xs → All IsOneBlock ys → joined xs ++ zeros left ≡ joined ys ++ zeros rest → (xs ≡ ys) × (left ≡ rest)
laid_once [] [] left rest all also same = (refl, sym (length-replicate {A = ℕ} left 0) ∙ ap (λ (zs : List ℕ). length zs) same ∙ length-replicate {A = ℕ} rest 0)
laid_once [] (y ∷ ys) left rest all also same =
    absurd (no_block (zeros left) y (joined ys ++ zeros rest) (first_is y ys also) (same ∙ append_assoc y (joined ys) (zeros rest)) (ends-zeros left))
laid_once (x ∷ xs) [] left rest all also same =
    absurd (no_block (zeros rest) x (joined xs ++ zeros left) (first_is x xs all) (sym same ∙ append_assoc x (joined xs) (zeros left)) (ends-zeros rest))
laid_once (x ∷ xs) (y ∷ ys) left rest all also same =
    let split : x ++ (joined xs ++ zeros left) ≡ y ++ (joined ys ++ zeros rest) = sym (append_assoc x (joined xs) (zeros left)) ∙ same ∙ append_assoc y (joined ys) (zeros rest) in
    let sizes : ◌≡◌ {A = Result ℕ BlockError} (Ok (length x)) (Ok (length y)) =
    sym (starts x (joined xs ++ zeros left) (first_is x xs all)).1 ∙ ap checked split ∙ (starts y (joined ys ++ zeros rest) (first_is y ys also)).1 in
    let long : length x ≡ length y = cc in
    let parts = same_parts x (joined xs ++ zeros left) y (joined ys ++ zeros rest) long split in
    let more = laid_once xs ys left rest (rest_are x xs all) (rest_are y ys also) parts.1 in
    (ap (λ (z : List ℕ). z ∷ xs) parts.0 ∙ ap (λ (zs : List (List ℕ)). y ∷ zs) more.0, more.1)

pub one_list : (blocks others : List (List ℕ)) (left rest : ℕ) (region : List ℕ) → IsLaidOut blocks left region → IsLaidOut others rest region → (blocks ≡ others) × (left ≡ rest)
one_list blocks others left rest region first second = laid_once blocks others left rest first.each second.each (sym first.region_is ∙ second.region_is)
