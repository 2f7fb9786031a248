-- The parts of an item by their index.
use Rattle.std.proofs.Common.{◌≡◌, ℕ, zero, suc, ◌+◌, ◌*◌, ◌^◌, ◌<◌, ◌≤◌, Bool, true, false, List, [], ◌∷◌, length, take, get_or, Some, refl, sym, ap, subst, ◌∙◌, arith, length-append}
use Rattle.std.specs.Prelude.{slice_get, All}
use Rattle.std.proofs.lemmas.Option.{slice_get_within, slice_get-get_or}
use Rattle.std.proofs.lemmas.List.Elements.{All-head, All-tail}
use Rattle.base_model.specs.Bytes.{AreBytes}
use Rattle.base_model.proofs.BytesLemmas.{AreBytes-take, number_at-lt}
use Rattle.hest_sources.specs.declared.sources.HestSource.{HestSource}
use Rattle.hest_sources.specs.Tables.{IsHest}
use Rattle.cper_frame.specs.Grammar.{SectionValue}
use Rattle.ghes_block.specs.Grammar.{EntryValue, entry_bytes, entries_bytes, is_stamped, IsEntry}
use Rattle.ghes_block.specs.Entries.{place_of, EntryAt}
use Rattle.ghes_block.proofs.EntryLaws.{size_by, length-entry_bytes}
use Rattle.item_parts.specs.Parts.{section_part, section_parts, size_of_source, source_part, source_parts, data_part, data_parts}

-- sections
pub length-section_parts : (at : ℕ) (sections : List SectionValue) → length (section_parts at sections) ≡ length sections
length-section_parts at [] = refl
length-section_parts at (section ∷ sections) = ap (λ (n : ℕ). suc n) (length-section_parts (at + 72) sections)

pub section_at : (at : ℕ) (sections : List SectionValue) (i : ℕ) (section : SectionValue) → slice_get sections i ≡ Some section
    → slice_get (section_parts at sections) i ≡ Some (section_part (at + 72 * i) section)
section_at at [] i section e = absurd (cc)
section_at at (first ∷ sections) zero section e =
    let same : first ≡ section = cc in
    ap (λ (it : SectionValue). Some (section_part at it)) same ∙ ap (λ (n : ℕ). Some (section_part n section)) (omega arith)
section_at at (first ∷ sections) (suc i) section e =
    section_at (at + 72) sections i section e ∙ ap (λ (n : ℕ). Some (section_part n section)) (omega arith)

-- error sources
pub length-source_parts : (at : ℕ) (sources : List HestSource) → length (source_parts at sources) ≡ length sources
length-source_parts at [] = refl
length-source_parts at (source ∷ sources) = ap (λ (n : ℕ). suc n) (length-source_parts (at + size_of_source source) sources)

-- the place of the source of an index
abbrev pub source_place : ℕ → List HestSource → ℕ → ℕ
source_place at [] i = at
source_place at (source ∷ sources) zero = at
source_place at (source ∷ sources) (suc i) = source_place (at + size_of_source source) sources i

pub source_place_first : (at : ℕ) (sources : List HestSource) → at ≡ source_place at sources 0
source_place_first at [] = refl
source_place_first at (source ∷ sources) = refl

pub source_place_next : (at : ℕ) (sources : List HestSource) (i : ℕ) (source : HestSource) → slice_get sources i ≡ Some source
    → source_place at sources (suc i) ≡ source_place at sources i + size_of_source source
source_place_next at [] i source e = absurd (cc)
source_place_next at (first ∷ []) zero source e = let same : first ≡ source = cc in ap (λ (it : HestSource). at + size_of_source it) same
source_place_next at (first ∷ second ∷ sources) zero source e = let same : first ≡ source = cc in ap (λ (it : HestSource). at + size_of_source it) same
source_place_next at (first ∷ sources) (suc i) source e = source_place_next (at + size_of_source first) sources i source e

pub source_at : (at : ℕ) (sources : List HestSource) (i : ℕ) (source : HestSource) → slice_get sources i ≡ Some source
    → slice_get (source_parts at sources) i ≡ Some (source_part (source_place at sources i) source)
source_at at [] i source e = absurd (cc)
source_at at (first ∷ sources) zero source e = let same : first ≡ source = cc in ap (λ (it : HestSource). Some (source_part at it)) same
source_at at (first ∷ sources) (suc i) source e = source_at (at + size_of_source first) sources i source e

-- the same of what is read at an index, whatever is read where there is none
pub source_read : (at : ℕ) (sources : List HestSource) (i : ℕ) (d : HestSource) → i < length sources
    → slice_get (source_parts at sources) i ≡ Some (source_part (source_place at sources i) (get_or sources i d))
source_read at sources i d within = source_at at sources i (get_or sources i d) (slice_get-get_or sources i d within)

pub source_place_read : (at : ℕ) (sources : List HestSource) (i : ℕ) (d : HestSource) → i < length sources
    → source_place at sources (i + 1) ≡ source_place at sources i + size_of_source (get_or sources i d)
source_place_read at sources i d within =
    let next : i + 1 ≡ suc i = omega arith in
    ap (source_place at sources) next ∙ source_place_next at sources i (get_or sources i d) (slice_get-get_or sources i d within)

-- data entries
pub length-data_parts : (at : ℕ) (entries : List EntryValue) → length (data_parts at entries) ≡ length entries
length-data_parts at [] = refl
length-data_parts at (entry ∷ entries) = ap (λ (n : ℕ). suc n) (length-data_parts (at + length (entry_bytes entry)) entries)

-- how many bytes so many entries have
span : List EntryValue → ℕ → ℕ
span entries i = length (entries_bytes (take i entries))

span_none : (entries : List EntryValue) → span entries 0 ≡ 0
unfolding span entries_bytes
span_none [] = refl
span_none (entry ∷ entries) = refl

span_more : (entry : EntryValue) (entries : List EntryValue) (i : ℕ) → span (entry ∷ entries) (suc i) ≡ length (entry_bytes entry) + span entries i
unfolding span entries_bytes
span_more entry entries i = length-append (entry_bytes entry) (entries_bytes (take i entries))

span_next : (entries : List EntryValue) (i : ℕ) (entry : EntryValue) → slice_get entries i ≡ Some entry → span entries (suc i) ≡ span entries i + length (entry_bytes entry)
span_next [] i entry e = absurd (cc)
span_next (first ∷ entries) zero entry e =
    let same : first ≡ entry = cc in
    let size = ap (λ (it : EntryValue). length (entry_bytes it)) same in
    omega (arith, span_none (first ∷ entries), span_none entries, span_more first entries 0)
span_next (first ∷ entries) (suc i) entry e = omega (arith, span_more first entries (suc i), span_more first entries i, span_next entries i entry e)

data_at_span : (at : ℕ) (entries : List EntryValue) (i : ℕ) (entry : EntryValue) → slice_get entries i ≡ Some entry
    → slice_get (data_parts at entries) i ≡ Some (data_part (at + span entries i) entry)
data_at_span at [] i entry e = absurd (cc)
data_at_span at (first ∷ entries) zero entry e =
    let same : first ≡ entry = cc in
    ap (λ (it : EntryValue). Some (data_part at it)) same ∙ ap (λ (n : ℕ). Some (data_part n entry)) (omega (arith, span_none (first ∷ entries)))
data_at_span at (first ∷ entries) (suc i) entry e =
    data_at_span (at + length (entry_bytes first)) entries i entry e
    ∙ ap (λ (n : ℕ). Some (data_part n entry)) (omega (arith, span_more first entries i))

pub data_at : (entries : List EntryValue) (i : ℕ) (entry : EntryValue) → slice_get entries i ≡ Some entry
    → slice_get (data_parts 20 entries) i ≡ Some (data_part (place_of entries i) entry)
unfolding span
data_at entries i entry e = data_at_span 20 entries i entry e

size_some : (stamped : Bool) (n : ℕ) → 0 < size_by stamped + n
size_some true n = omega arith
size_some false n = omega arith

same_span : (entries : List EntryValue) (i j : ℕ) → All IsEntry entries → i ≤ length entries → j ≤ length entries → span entries i ≡ span entries j → i ≡ j
same_span [] i j all low high e = omega arith
same_span (entry ∷ entries) zero zero all low high e = refl
same_span (entry ∷ entries) zero (suc j) all low high e =
    let some = size_some (is_stamped entry.head.revision) (length entry.body) in
    let size = length-entry_bytes entry (All-head IsEntry entry entries all).head in
    absurd (omega (arith, span_none (entry ∷ entries), span_more entry entries j))
same_span (entry ∷ entries) (suc i) zero all low high e =
    let some = size_some (is_stamped entry.head.revision) (length entry.body) in
    let size = length-entry_bytes entry (All-head IsEntry entry entries all).head in
    absurd (omega (arith, span_none (entry ∷ entries), span_more entry entries i))
same_span (entry ∷ entries) (suc i) (suc j) all low high e =
    ap (λ (n : ℕ). suc n) (same_span entries i j (All-tail IsEntry entry entries all) (omega arith) (omega arith) (omega (arith, span_more entry entries i, span_more entry entries j)))

-- two places are one only where the indices are
pub same_place : (entries : List EntryValue) (i j : ℕ) → All IsEntry entries → i ≤ length entries → j ≤ length entries → place_of entries i ≡ place_of entries j → i ≡ j
unfolding span
same_place entries i j all low high e = same_span entries i j all low high (omega arith)

pub place_next : (entries : List EntryValue) (i : ℕ) (entry : EntryValue) → slice_get entries i ≡ Some entry
    → place_of entries (i + 1) ≡ place_of entries i + length (entry_bytes entry)
unfolding span
place_next entries i entry e =
    let next : i + 1 ≡ suc i = omega arith in
    ap (place_of entries) next ∙ omega (arith, span_next entries i entry e)

-- the entry that begins at the place of an index
pub record IsHere (entries : List EntryValue) (i next : ℕ) (entry : EntryValue) : Type 0 where
  pub within : i < length entries
  pub found : slice_get entries i ≡ Some entry
  pub next_place : next ≡ place_of entries (i + 1)

pub is_here : (entries : List EntryValue) (i at next : ℕ) (entry : EntryValue) → All IsEntry entries → i ≤ length entries → at ≡ place_of entries i
    → EntryAt entries at next entry → IsHere entries i next entry
is_here entries i at next entry all low place there =
    let inside = slice_get_within entries there.index entry there.found in
    let same : there.index ≡ i = same_place entries there.index i all (omega arith) low (sym there.place ∙ place) in
    record {
      within = omega arith;
      found = ap (slice_get entries) (sym same) ∙ there.found;
      next_place = there.next_place ∙ ap (λ (n : ℕ). place_of entries (n + 1)) same;
    }

pub first_here : (entries : List EntryValue) → 20 ≡ place_of entries 0
unfolding span
first_here entries = omega (arith, span_none entries)

-- an entry has a head that fits
pub entry_fits : (entries : List EntryValue) (i : ℕ) (entry : EntryValue) → All IsEntry entries → slice_get entries i ≡ Some entry → IsEntry entry
entry_fits [] i entry all e = absurd (cc)
entry_fits (first ∷ entries) zero entry all e = let same : first ≡ entry = cc in subst IsEntry same (All-head IsEntry first entries all)
entry_fits (first ∷ entries) (suc i) entry all e = entry_fits entries i entry (All-tail IsEntry first entries all) e

-- a table says how many sources it has in 32 bits
pub few_sources : (bytes : List ℕ) (size : ℕ) (sources : List HestSource) → AreBytes bytes → IsHest sources (take size bytes) → length sources < 2 ^ 32
few_sources bytes size sources each is =
    let low = is.fixed in
    subst (λ (n : ℕ). n < 2 ^ 32) is.count (number_at-lt (take size bytes) 36 4 (AreBytes-take size bytes each) (omega arith))
