-- The places of a block's entries.
use Rattle.std.proofs.Common.{◌≡◌, ℕ, zero, suc, ◌+◌, ◌<◌, ◌≤◌, cond, List, [], ◌∷◌, ◌++◌, length, take, Some, refl, sym, ap, ◌∙◌, arith, length-append}
use Rattle.std.specs.Prelude.{slice_get}
use Rattle.std.proofs.lemmas.Option.{slice_get_within}
use Rattle.base_model.specs.Bytes.{spelled, joined}
use Rattle.base_model.proofs.BytesLemmas.{length-spelled}
use Rattle.ghes_block.specs.Grammar.{EntryValue, is_stamped, entry_bytes, entries_bytes}
use Rattle.ghes_block.specs.Entries.{place_of, EntryAt}

some_of : (a b c d e : List ℕ) → length b ≡ 4 → 0 < length (a ++ (b ++ c) ++ d ++ e)
some_of a b c d e four =
    let x = length-append (a ++ (b ++ c) ++ d) e in
    let y = length-append (a ++ (b ++ c)) d in
    let z = length-append a (b ++ c) in
    let w = length-append b c in
    omega arith

-- an entry has bytes
entry_some : (entry : EntryValue) → 0 < length (entry_bytes entry)
unfolding entry_bytes
entry_some entry =
    let head = entry.head in
    some_of head.kind (spelled 4 head.severity)
    (joined (spelled 2 head.revision ∷ spelled 1 head.validation ∷ spelled 1 head.flags ∷ spelled 4 (length entry.body) ∷ head.fru ∷ head.fru_text ∷ []))
    (cond (is_stamped head.revision) (spelled 8 head.stamp) [])
    entry.body
    (length-spelled 4 head.severity)

size_of : List EntryValue → ℕ → ℕ
size_of entries index = length (entries_bytes (take index entries))

size_more : (entry : EntryValue) (entries : List EntryValue) (index : ℕ) → size_of (entry ∷ entries) (suc index) ≡ length (entry_bytes entry) + size_of entries index
unfolding size_of entries_bytes
size_more entry entries index = length-append (entry_bytes entry) (entries_bytes (take index entries))

size_none : (entries : List EntryValue) → size_of entries 0 ≡ 0
unfolding size_of entries_bytes
size_none [] = refl
size_none (entry ∷ entries) = refl

same_index : (entries : List EntryValue) (i j : ℕ) → i ≤ length entries → j ≤ length entries → size_of entries i ≡ size_of entries j → i ≡ j
same_index [] i j h k e = omega arith
same_index (entry ∷ entries) zero zero h k e = refl
same_index (entry ∷ entries) zero (suc j) h k e =
    let some = entry_some entry in
    absurd (omega (arith, size_none (entry ∷ entries), size_more entry entries j))
same_index (entry ∷ entries) (suc i) zero h k e =
    let some = entry_some entry in
    absurd (omega (arith, size_none (entry ∷ entries), size_more entry entries i))
same_index (entry ∷ entries) (suc i) (suc j) h k e =
    ap (λ (n : ℕ). suc n) (same_index entries i j (omega arith) (omega arith) (omega (arith, size_more entry entries i, size_more entry entries j)))

-- two places are one only where the indices are
pub same_place : (entries : List EntryValue) (i j : ℕ) → i ≤ length entries → j ≤ length entries → place_of entries i ≡ place_of entries j → i ≡ j
unfolding size_of
same_place entries i j h k e = same_index entries i j h k (omega arith)

-- the entry of an index, at its place
pub record IsHere (entries : List EntryValue) (index next : ℕ) (entry : EntryValue) : Type 0 where
  pub within : index < length entries
  pub found : slice_get entries index ≡ Some entry
  pub next_place : next ≡ place_of entries (index + 1)

pub is_here : (entries : List EntryValue) (index at next : ℕ) (entry : EntryValue) → index ≤ length entries → at ≡ place_of entries index →
    EntryAt entries at next entry → IsHere entries index next entry
is_here entries index at next entry within place there =
    let inside = slice_get_within entries there.index entry there.found in
    let same : there.index ≡ index = same_place entries there.index index (omega arith) within (sym there.place ∙ place) in
    record {
      within = omega arith;
      found = ap (slice_get entries) (sym same) ∙ there.found;
      next_place = there.next_place ∙ ap (λ (n : ℕ). place_of entries (n + 1)) same;
    }

-- the first entry begins behind the head
pub place_none : (entries : List EntryValue) → 20 ≡ place_of entries 0
unfolding size_of
place_none entries = omega (arith, size_none entries)
