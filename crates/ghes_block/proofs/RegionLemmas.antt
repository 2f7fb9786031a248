-- Blocks that stand one after another.
use Rattle.std.proofs.Common.{◌≡◌, ◌∙◌, ℕ, zero, suc, ◌+◌, ◌-◌, ◌<◌, ◌≤◌, ◌⊎◌, inl, inr, nat_lt, ◌==◌, cond, Bool, true, false, List, [], ◌∷◌, ◌++◌, length}
use Rattle.std.proofs.Common.{take, drop, All, Option, Some, None, Result, Ok, Err, refl, sym, ap, arith, append_assoc, length-append}
use Rattle.std.specs.Prelude.{◌||◌}
use Rattle.std.proofs.lemmas.List.{append-nil, take_at, drop_at, take-replicate, drop-replicate, length-replicate, drop-drop}
use Rattle.std.proofs.lemmas.List.Elements.{All-append}
use Rattle.std.proofs.lemmas.Bool.{cases_lt}
use Rattle.std.proofs.lemmas.Bool.Decides.{nat_tests}
use Rattle.base_model.specs.Bytes.{part, little, number_at, joined}
use Rattle.ghes_block.specs.declared.error.BlockError.{BlockError}
use Rattle.ghes_block.specs.Reading.{checked}
use Rattle.apei_bytes.proofs.Parts.{number_at-front}
use Rattle.ghes_block.proofs.Blocks.{found_again}
use Rattle.ghes_block.proofs.Whole.{block_has_head}
use Rattle.ghes_block.specs.Region.{IsOneBlock, ends, IsListOf, zeros, IsLaidOut, FindsNext}
use Rattle.ghes_block.proofs.Terms.{read_at}

length-zeros : (n : ℕ) → length (zeros n) ≡ n
length-zeros n = length-replicate {A = ℕ} n 0

-- zeros begin no block
pub ends-zeros : (n : ℕ) → ends (zeros n) ≡ true
unfolding number_at part
ends-zeros n = go (cases_lt n 20) where
  go : (n < 20) ⊎ (20 ≤ n) → ends (zeros n) ≡ true
  go (inl short) =
      let l = length-zeros n in
      let e : nat_lt (length (zeros n)) 20 ≡ true = grind (arith, nat_tests) in
      ap (λ (b : Bool). b || number_at (zeros n) 0 4 == 0) e
  go (inr long) =
      let l = length-zeros n in
      let e : nat_lt (length (zeros n)) 20 ≡ false = grind (arith, nat_tests) in
      let four : take 4 (zeros n) ≡ zeros 4 = take-replicate 4 n 0 (omega (arith, long)) in
      ap (λ (b : Bool). b || number_at (zeros n) 0 4 == 0) e ∙ ap (λ (xs : List ℕ). little xs == 0) four

-- a block that stands first
pub starts : (block tail : List ℕ) → IsOneBlock block → (ends (block ++ tail) ≡ false) × (checked (block ++ tail) ≡ Ok (length block)) × (20 ≤ length block)
starts block tail (value, is) =
    let h = block_has_head value block is in
    let long = h.long in
    let status = h.status_is in
    let some = h.published in
    let front = number_at-front block tail 0 4 (omega (arith, long)) in
    let l = length-append block tail in
    let a : nat_lt (length (block ++ tail)) 20 ≡ false = grind (arith, nat_tests) in
    let b : (number_at (block ++ tail) 0 4 == 0) ≡ false = grind (arith, nat_tests) in
    (ap (λ (x : Bool). x || number_at (block ++ tail) 0 4 == 0) a ∙ b, found_again value block tail is, long)

-- the first block, or none
pub no_block : (rest block tail : List ℕ) → IsOneBlock block → rest ≡ block ++ tail → ends rest ≡ true → ⊥
no_block rest block tail one is end = let both : false ≡ true = sym (starts block tail one).0 ∙ ap ends (sym is) ∙ end in cc

pub size_of_first : (rest block tail : List ℕ) (size : ℕ) → IsOneBlock block → rest ≡ block ++ tail → checked rest ≡ Ok size → size ≡ length block
size_of_first rest block tail size one is found = let both : ◌≡◌ {A = Result ℕ BlockError} (Ok size) (Ok (length block)) = sym found ∙ ap checked is ∙ (starts block tail one).1 in cc

pub never_refused : (rest block tail : List ℕ) (error : BlockError) → IsOneBlock block → rest ≡ block ++ tail → checked rest ≡ Err error → ⊥
never_refused rest block tail error one is found = let both : ◌≡◌ {A = Result ℕ BlockError} (Err error) (Ok (length block)) = sym found ∙ ap checked is ∙ (starts block tail one).1 in cc

pub not_zeros : (rest : List ℕ) (n : ℕ) → rest ≡ zeros n → ends rest ≡ false → ⊥
not_zeros rest n is more = let both : false ≡ true = sym more ∙ ap ends is ∙ ends-zeros n in cc

-- so far, some of the blocks are behind
pub record IsAt (region : List ℕ) (at : ℕ) (blocks : List (List ℕ)) (left : ℕ) : Type 0 where
  pub rest : List (List ℕ)
  pub each : All IsOneBlock rest
  pub place : at + length (joined rest) ≡ length (joined blocks)
  pub here : drop at region ≡ joined rest ++ zeros left

All-head : (block : List ℕ) (blocks : List (List ℕ)) → All IsOneBlock (block ∷ blocks) → IsOneBlock block
All-head block blocks all = all 0 [] (omega arith)

All-tail : (block : List ℕ) (blocks : List (List ℕ)) → All IsOneBlock (block ∷ blocks) → All IsOneBlock blocks
All-tail block blocks all k d h = all (suc k) d (omega (arith, h))

-- a step over a block
pub at_next : (region rest : List ℕ) (at size : ℕ) (blocks : List (List ℕ)) (left : ℕ) → rest ≡ drop at region →
    ((block tail : List ℕ) → IsOneBlock block → rest ≡ block ++ tail → ◌≡◌ {A = Option ℕ} (Some size) (Some (length block))) → ((n : ℕ) → rest ≡ zeros n → ◌≡◌ {A = Option ℕ} (Some size) None) →
    IsAt region at blocks left → IsAt region (at + size) blocks left
at_next region rest at size blocks left is_rest found none h = go h.rest h.each h.place h.here where
  go : (xs : List (List ℕ)) → All IsOneBlock xs → at + length (joined xs) ≡ length (joined blocks) → drop at region ≡ joined xs ++ zeros left → IsAt region (at + size) blocks left
  go [] each place here = absurd (let e = none left (is_rest ∙ here) in cc)
  go (block ∷ xs) each place here =
      let split : rest ≡ block ++ (joined xs ++ zeros left) = is_rest ∙ here ∙ append_assoc block (joined xs) (zeros left) in
      let is : size ≡ length block = (let e = found block (joined xs ++ zeros left) (All-head block xs each) split in cc) in
      let l = length-append block (joined xs) in
      record {
        rest = xs;
        each = All-tail block xs each;
        place = omega (arith, l, place, is);
        here = sym (drop-drop size at region) ∙ ap (drop size) (sym is_rest ∙ split) ∙ drop_at block (joined xs ++ zeros left) size (sym is);
      }

-- at the end no block is left
pub at_end : (region rest : List ℕ) (at : ℕ) (blocks : List (List ℕ)) (left : ℕ) → rest ≡ drop at region →
    ((block tail : List ℕ) → IsOneBlock block → rest ≡ block ++ tail → ◌≡◌ {A = Option ℕ} None (Some (length block))) →
    IsAt region at blocks left → at ≡ length (joined blocks)
at_end region rest at blocks left is_rest found h = go h.rest h.each h.place h.here where
  go : (xs : List (List ℕ)) → All IsOneBlock xs → at + length (joined xs) ≡ length (joined blocks) → drop at region ≡ joined xs ++ zeros left → at ≡ length (joined blocks)
  go [] each place here = omega (arith, place)
  go (block ∷ xs) each place here =
      absurd (let e = found block (joined xs ++ zeros left) (All-head block xs each) (is_rest ∙ here ∙ append_assoc block (joined xs) (zeros left)) in cc)

joined-more : (blocks : List (List ℕ)) (block : List ℕ) → joined (blocks ++ block ∷ []) ≡ joined blocks ++ block
joined-more [] block = append-nil block
joined-more (first ∷ blocks) block = ap (λ (xs : List ℕ). first ++ xs) (joined-more blocks block) ∙ sym (append_assoc first (joined blocks) block)

All-one : {X : Type 0} (P : X → Type 0) (x : X) → P x → All P (x ∷ [])
All-one P x p zero d h = p
All-one P x p (suc k) d h = absurd (omega (arith, h))

-- a block more
pub laid_more : (region block new : List ℕ) (at : ℕ) (blocks : List (List ℕ)) (left : ℕ) → IsOneBlock block → IsLaidOut blocks left region → at ≡ length (joined blocks) → length block ≤ left →
    new ≡ take at region ++ (block ++ drop (length block) (drop at region)) → IsLaidOut (blocks ++ block ∷ []) (left - length block) new
laid_more region block new at blocks left one h is_at room is =
    let front : take at region ≡ joined blocks = ap (take at) h.region_is ∙ take_at (joined blocks) (zeros left) at (sym is_at) in
    let back : drop at region ≡ zeros left = ap (drop at) h.region_is ∙ drop_at (joined blocks) (zeros left) at (sym is_at) in
    record {
      each = All-append IsOneBlock blocks (block ∷ []) h.each (All-one IsOneBlock block one);
      region_is = is
          ∙ ap (λ (xs : List ℕ). xs ++ (block ++ drop (length block) (drop at region))) front
          ∙ ap (λ (xs : List ℕ). joined blocks ++ (block ++ drop (length block) xs)) back
          ∙ ap (λ (xs : List ℕ). joined blocks ++ (block ++ xs)) (drop-replicate (length block) left 0)
          ∙ sym (append_assoc (joined blocks) block (zeros (left - length block)))
          ∙ ap (λ (xs : List ℕ). xs ++ zeros (left - length block)) (sym (joined-more blocks block));
    }

pub left_is : (region : List ℕ) (at : ℕ) (blocks : List (List ℕ)) (left : ℕ) → IsLaidOut blocks left region → at ≡ length (joined blocks) → length region ≡ at + left
left_is region at blocks left h is_at =
    let n = ap length h.region_is in
    let l = length-append (joined blocks) (zeros left) in
    let z = length-zeros left in
    omega (arith, n, l, z, is_at)

-- the walk
finds_at : (region : List ℕ) (at : ℕ) (after : List (List ℕ)) (rest : List ℕ) → All IsOneBlock after → drop at region ≡ joined after ++ rest → ends rest ≡ true → FindsNext region at after
unfolding part
finds_at region at [] rest each here done = ap (λ (b : Bool). cond b (Ok None) (read_at at (checked (drop at region)))) (ap ends here ∙ done)
finds_at region at (block ∷ after) rest each here done =
    let split : drop at region ≡ block ++ (joined after ++ rest) = here ∙ append_assoc block (joined after) rest in
    let s = starts block (joined after ++ rest) (All-head block after each) in (
      ap (λ (b : Bool). cond b (Ok None) (read_at at (checked (drop at region)))) (ap ends split ∙ s.0) ∙ ap (read_at at) (ap checked split ∙ s.1),
      ap (take (length block)) split ∙ take_at block (joined after ++ rest) (length block) refl,
    )

joined-append : (before after : List (List ℕ)) → joined (before ++ after) ≡ joined before ++ joined after
joined-append [] after = refl
joined-append (block ∷ before) after = ap (λ (xs : List ℕ). block ++ xs) (joined-append before after) ∙ sym (append_assoc block (joined before) (joined after))

All-behind : (before after : List (List ℕ)) → All IsOneBlock (before ++ after) → All IsOneBlock after
All-behind [] after all = all
All-behind (block ∷ before) after all = All-behind before after (All-tail block (before ++ after) all)

pub finds_next : (region : List ℕ) (before after : List (List ℕ)) → IsListOf (before ++ after) region → FindsNext region (length (joined before)) after
finds_next region before after h =
    let split : region ≡ joined before ++ (joined after ++ h.rest) =
    h.begins ∙ ap (λ (xs : List ℕ). xs ++ h.rest) (joined-append before after) ∙ append_assoc (joined before) (joined after) h.rest in
    finds_at region (length (joined before)) after h.rest (All-behind before after h.each)
    (ap (drop (length (joined before))) split ∙ drop_at (joined before) (joined after ++ h.rest) (length (joined before)) refl) h.done

pub laid_is_list : (region : List ℕ) (blocks : List (List ℕ)) (left : ℕ) → IsLaidOut blocks left region → IsListOf blocks region
laid_is_list region blocks left h = record { each = h.each; rest = zeros left; begins = h.region_is; done = ends-zeros left }
