-- The data entries of a block, one after another, and its raw data.
use Rattle.std.proofs.Common.{◌≡◌, ◌∙◌, ℕ, zero, suc, ◌+◌, ◌-◌, ◌^◌, ◌<◌, ◌≤◌, nat_lt, min, Bool, true, false, if◌then◌else◌, List, [], ◌∷◌, length, drop, codes, refl, sym, ap, arith, length-drop}
use Rattle.std.proofs.lemmas.Bool.{cond-true, cond-false, le-ltb, lt-ltb}
use Rattle.std.proofs.lemmas.List.{length-take}
use Rattle.base_model.specs.Bytes.{part}
use Rattle.ghes_block.specs.Reading.{head_size}
use Rattle.show_findings.specs.Places.{IsDataEntry, data_part, seen_number}
use Rattle.show_items.specs.Blocks.{data_group, entry_body, entry_body_at, entry_body_len, entry_end, entry_group, entry_groups, entry_head, entry_structure}
use Rattle.show_items.specs.Groups.{Group, fields_group, typed}
use Rattle.show_items.specs.Records.{section_group}

-- what is added of an entry is what a block of these bytes has
pub entry_of : (block : List ℕ) (index at : ℕ) (head : List ℕ) (body_at : ℕ) (body : List ℕ) (next : ℕ) → IsDataEntry block at head body_at body next
    → fields_group (typed (codes "entry") index (part head 0 16) at) (entry_structure (seen_number head 20 2)) head
    ∷ section_group index (part head 0 16) body_at body ∷ []
    ≡ entry_group block index at ∷ data_group block index at ∷ []
entry_of block index at head body_at body next is =
    let first : List ℕ → Group = λ h. fields_group (typed (codes "entry") index (part h 0 16) at) (entry_structure (seen_number h 20 2)) h in
    let tail : List ℕ → ℕ → List ℕ → Group = λ h a b. section_group index (part h 0 16) a b in
    let content : body ≡ entry_body block at =
    is.content ∙ ap (λ (a : ℕ). part (data_part block) a (entry_body_len block at)) is.offset in
    let second : tail head body_at body ≡ data_group block index at =
    ap (λ (h : List ℕ). tail h body_at body) is.head_is
    ∙ ap (λ (a : ℕ). tail (entry_head block at) a body) is.offset
    ∙ ap (λ (b : List ℕ). tail (entry_head block at) (entry_body_at block at) b) content in
    ap (λ (h : List ℕ). first h ∷ tail head body_at body ∷ []) is.head_is
    ∙ ap (λ (g : Group). entry_group block index at ∷ g ∷ []) second

-- an entry that is there, and those behind it
pub one_entry_more : (block : List ℕ) (most left index at next : ℕ) → most ≡ suc left → at + 64 ≤ length (data_part block) → next ≡ entry_end block at
    → entry_group block index at ∷ data_group block index at ∷ entry_groups block left (index + 1) next ≡ entry_groups block most index at
one_entry_more block (suc most) left index at next one there behind =
    let more : ℕ → ℕ → List Group = λ n a. entry_group block index at ∷ data_group block index at ∷ entry_groups block n (index + 1) a in
    let same : left ≡ most = omega (arith, one) in
    ap (λ (a : ℕ). more left a) behind
    ∙ ap (λ (n : ℕ). more n (entry_end block at)) same
    ∙ sym (cond-false (nat_lt (length (data_part block)) (at + 64)) [] _ (le-ltb (length (data_part block)) (at + 64) there))
one_entry_more block zero left index at next one there behind = absurd (omega (arith, one))

-- where the next one begins
pub end_of : (block : List ℕ) (at : ℕ) (head : List ℕ) (body_at : ℕ) (body : List ℕ) (next : ℕ) → IsDataEntry block at head body_at body next → next ≡ entry_end block at
end_of block at head body_at body next is = is.behind ∙ ap (λ (a : ℕ). a + entry_body_len block at) is.offset

-- none is left
pub no_entry : (block : List ℕ) (most index at : ℕ) → (at + 64 ≤ length (data_part block) → ⊥) → entry_groups block most index at ≡ []
no_entry block zero index at none = refl
no_entry block (suc most) index at none =
    cond-true (nat_lt (length (data_part block)) (at + 64)) [] _ (lt-ltb (length (data_part block)) (at + 64) (omega (arith, none)))

-- how many bytes a part has
pub length_of_part : (bytes : List ℕ) (at n : ℕ) → length (part bytes at n) ≡ min n (length bytes - at)
unfolding part
length_of_part bytes at n = rw (length-take, length-drop) refl

least_head : (stamped : Bool) → 64 ≤ (if stamped then 72 else 64)
least_head true = omega arith
least_head false = omega arith

-- a head is whole
pub whole_head : (block head : List ℕ) (at : ℕ) → at + 64 ≤ length (data_part block) → head ≡ entry_head block at → 64 ≤ length head
whole_head block head at there is =
    let size : 64 ≤ head_size (drop at (data_part block)) = least_head _ in
    let len : length head ≡ min (head_size (drop at (data_part block))) (length (data_part block) - at) =
    ap (λ (h : List ℕ). length h) is ∙ length_of_part (data_part block) at (head_size (drop at (data_part block))) in
    omega (arith, size, len, there)

-- data end where the block does
pub data_within : (block body : List ℕ) (body_at n : ℕ) → body ≡ part (data_part block) body_at n → body_at < length block + 100 → length block < 2 ^ 63
    → body_at + length body < 2 ^ 64
data_within block body body_at n is near small =
    let len : length body ≡ min n (length (data_part block) - body_at) = ap (λ (b : List ℕ). length b) is ∙ length_of_part (data_part block) body_at n in
    let short : length (data_part block) ≤ length block = rw length-take (omega arith) in
    omega (arith, len, short, near, small)
