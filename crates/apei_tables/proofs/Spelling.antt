-- A header is its 36 bytes.
use Rattle.std.proofs.Common.{◌≡◌, ℕ, ◌+◌, ◌++◌, ◌<◌, ◌≤◌, ◌^◌, List, [], ◌∷◌, length, map, get_or, sum, refl, sym, ap, ◌∙◌, arith, append-nil}
use Rattle.std.proofs.lemmas.List.Sums.{sum_by-append}
use Rattle.base_model.specs.Bytes.{part, number_at, little, spelled, joined, AreBytes}
use Rattle.base_model.proofs.BytesLemmas.{spelled-number_at, little-spelled, length-spelled, length-joined}
use Rattle.apei_bytes.proofs.Parts.{parts, joined-parts, parts-joined, part-cons}
use Rattle.apei_tables.specs.declared.headers.Header.{Header}
use Rattle.apei_tables.specs.Layout.{spelling, HasSizes, IsHeader}
use Rattle.base_model.proofs.Terms.{total}

abbrev fields : Header → List (List ℕ)
fields header =
    header.signature
    ∷ spelled 4 header.length
    ∷ (header.revision ∷ header.checksum ∷ [])
    ∷ header.oem_id
    ∷ header.oem_table_id
    ∷ spelled 4 header.oem_revision
    ∷ header.creator_id
    ∷ spelled 4 header.creator_revision
    ∷ []

-- where the fields stand: their sizes, in order
abbrev pub sizes : List ℕ
sizes = 4 ∷ 4 ∷ 2 ∷ 6 ∷ 8 ∷ 4 ∷ 4 ∷ 4 ∷ []

-- a header of bytes has its parts' lengths
pub has_sizes : (header : Header) → IsHeader header → HasSizes header
has_sizes header fits = record { signature = fits.signature; oem_id = fits.oem_id; oem_table_id = fits.oem_table_id; creator_id = fits.creator_id }

pub sizes-fields : (header : Header) → HasSizes header → map length (fields header) ≡ sizes
sizes-fields header has =
    rw (has.signature, length-spelled 4 header.length, has.oem_id, has.oem_table_id, length-spelled 4 header.oem_revision, has.creator_id, length-spelled 4 header.creator_revision) refl

-- the header that stands at the front of bytes
abbrev pub found : List ℕ → Header
found bytes = record {
  signature = part bytes 0 4;
  length = number_at bytes 4 4;
  revision = get_or bytes 8 0;
  checksum = get_or bytes 9 0;
  oem_id =
      part bytes 10 6;
  oem_table_id = part bytes 16 8;
  oem_revision = number_at bytes 24 4;
  creator_id = part bytes 28 4;
  creator_revision = number_at bytes 32 4;
}

part-two : (bytes : List ℕ) (at : ℕ) → at + 2 ≤ length bytes → part bytes at 2 ≡ get_or bytes at 0 ∷ get_or bytes (at + 1) 0 ∷ []
unfolding part
part-two bytes at h = part-cons bytes at 1 (omega arith) ∙ ap (λ (xs : List ℕ). get_or bytes at 0 ∷ xs) (part-cons bytes (at + 1) 0 (omega arith))

fields-found : (bytes : List ℕ) → AreBytes bytes → 36 ≤ length bytes → fields (found bytes) ≡ parts sizes 0 bytes
fields-found bytes each h =
    rw (spelled-number_at bytes 4 4 each (omega arith), spelled-number_at bytes 24 4 each (omega arith), spelled-number_at bytes 32 4 each (omega arith), part-two bytes 8 (omega arith)) refl

pub spelling-found : (bytes : List ℕ) → AreBytes bytes → 36 ≤ length bytes → part bytes 0 36 ≡ spelling (found bytes)
unfolding spelling
spelling-found bytes each h = sym (ap joined (fields-found bytes each h) ∙ joined-parts sizes 0 bytes)

-- the header of these fields
abbrev of_fields : List (List ℕ) → Header
of_fields given = record {
  signature = get_or given 0 [];
  length = little (get_or given 1 []);
  revision = get_or (get_or given 2 []) 0 0;
  checksum = get_or (get_or given 2 []) 1 0;
  oem_id = get_or given 3 [];
  oem_table_id = get_or given 4 [];
  oem_revision = little (get_or given 5 []);
  creator_id = get_or given 6 [];
  creator_revision = little (get_or given 7 []);
}

of_fields-fields : (header : Header) → IsHeader header → of_fields (fields header) ≡ header
of_fields-fields header fits =
    let small : header.length < 256 ^ 4 = fits.size in
    let small_oem : header.oem_revision < 256 ^ 4 = fits.oem_revision in
    let small_creator : header.creator_revision < 256 ^ 4 = fits.creator_revision in
    rw (little-spelled 4 header.length small, little-spelled 4 header.oem_revision small_oem, little-spelled 4 header.creator_revision small_creator) refl

pub fields-spelling : (header : Header) → HasSizes header → parts sizes 0 (spelling header) ≡ fields header
unfolding spelling
fields-spelling header has =
    ap (parts sizes 0) (sym (append-nil (joined (fields header)))) ∙ parts-joined sizes (fields header) [] (sizes-fields header has)

-- one spelling, one header
pub same_header : (a b : Header) → IsHeader a → IsHeader b → spelling a ≡ spelling b → a ≡ b
same_header a b fits_a fits_b same =
    sym (of_fields-fields a fits_a)
    ∙ ap of_fields (sym (fields-spelling a (has_sizes a fits_a)) ∙ ap (parts sizes 0) same ∙ fields-spelling b (has_sizes b fits_b))
    ∙ of_fields-fields b fits_b

pub length-spelling : (header : Header) → HasSizes header → length (spelling header) ≡ 36
unfolding spelling
length-spelling header has = length-joined (fields header) ∙ ap total (sizes-fields header has)

-- the length that a header says, where it stands first
pub number_at-length : (header : Header) (rest : List ℕ) → HasSizes header → header.length < 2 ^ 32 → number_at (spelling header ++ rest) 4 4 ≡ header.length
unfolding spelling number_at
number_at-length header rest has fits =
    let small : header.length < 256 ^ 4 = fits in
    let there : parts sizes 0 (joined (fields header) ++ rest) ≡ fields header = parts-joined sizes (fields header) rest (sizes-fields header has) in
    ap (λ (given : List (List ℕ)). little (get_or given 1 [])) there ∙ little-spelled 4 header.length small

sum_append : (xs ys : List ℕ) → sum (xs ++ ys) ≡ sum xs + sum ys
sum_append xs ys = sum_by-append (λ (x : ℕ). x) xs ys

abbrev tail : Header → List ℕ
tail header = joined (header.oem_id ∷ header.oem_table_id ∷ spelled 4 header.oem_revision ∷ header.creator_id ∷ spelled 4 header.creator_revision ∷ [])

around : (header : Header) (x : ℕ) → sum (joined (fields (record header { checksum = x }))) ≡ sum header.signature + (sum (spelled 4 header.length) + (header.revision + x + sum (tail header)))
around header x =
    let pair : List ℕ = header.revision ∷ x ∷ [] in
    let two : sum pair ≡ header.revision + x = omega arith in
    let third : sum (pair ++ tail header) ≡ header.revision + x + sum (tail header) = sum_append pair (tail header) ∙ ap (λ (n : ℕ). n + sum (tail header)) two in
    let second : sum (spelled 4 header.length ++ (pair ++ tail header)) ≡ sum (spelled 4 header.length) + (header.revision + x + sum (tail header)) =
    sum_append (spelled 4 header.length) (pair ++ tail header) ∙ ap (λ (n : ℕ). sum (spelled 4 header.length) + n) third in
    sum_append header.signature (spelled 4 header.length ++ (pair ++ tail header)) ∙ ap (λ (n : ℕ). sum header.signature + n) second

-- what the bytes add to, by the checksum
pub sum-checksum : (header : Header) (x : ℕ) → sum (spelling (record header { checksum = x })) ≡ sum (spelling (record header { checksum = 0 })) + x
unfolding spelling
sum-checksum header x =
    omega (arith, around header x, around header 0)
