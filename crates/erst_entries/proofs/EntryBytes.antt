-- An entry is its 32 bytes.
use Rattle.std.proofs.Common.{◌≡◌, ℕ, ◌+◌, ◌<◌, ◌≤◌, ◌^◌, List, [], ◌∷◌, ◌++◌, length, map, get_or, refl, sym, ap, ◌∙◌, arith, append-nil}
use Rattle.std.proofs.lemmas.List.{drop_all}
use Rattle.base_model.specs.Bytes.{part, number_at, little, spelled, put_at, joined, AreBytes}
use Rattle.base_model.proofs.BytesLemmas.{spelled-number_at, little-spelled, length-spelled, part-whole, length-joined}
use Rattle.apei_tables.specs.declared.structure.Gas.{Gas}
use Rattle.apei_tables.specs.GasLayout.{spelling as gas_spelling}
use Rattle.apei_tables.proofs.GasSpelling.{same_gas}
use Rattle.apei_bytes.proofs.Parts.{parts, joined-parts, parts-joined, part-cons}
use Rattle.apei_bytes.proofs.Puts.{put_fields, put_fields-joined}
use Rattle.erst_entries.specs.declared.entries.Entry.{Entry}
use Rattle.erst_entries.specs.Layout.{entry_spelling, IsEntry}
use Rattle.base_model.proofs.Terms.{total}

abbrev entry_fields : Entry → List (List ℕ)
entry_fields entry =
    (entry.action ∷ entry.code ∷ entry.flags ∷ entry.spare ∷ []) ∷ gas_spelling entry.region ∷ spelled 8 entry.value ∷ spelled 8 entry.mask ∷ []

abbrev sizes : List ℕ
sizes = 4 ∷ 12 ∷ 8 ∷ 8 ∷ []

sizes-fields : (entry : Entry) → map length (entry_fields entry) ≡ sizes
sizes-fields entry = rw (length-spelled 8 entry.region.address, length-spelled 8 entry.value, length-spelled 8 entry.mask) refl

pub length-entry : (entry : Entry) → length (entry_spelling entry) ≡ 32
unfolding entry_spelling
length-entry entry = length-joined (entry_fields entry) ∙ ap total (sizes-fields entry)

part-none : (bytes : List ℕ) (at : ℕ) → part bytes at 0 ≡ []
unfolding part
part-none bytes at = refl

-- bytes put over all that was there
pub put_at-all : (out others : List ℕ) → length others ≡ length out → put_at out 0 others ≡ others
unfolding put_at
put_at-all out others size =
    ap (λ (xs : List ℕ). others ++ xs) (drop_all (0 + length others) out (omega arith)) ∙ append-nil others

four : (bytes : List ℕ) → 4 ≤ length bytes → part bytes 0 4 ≡ get_or bytes 0 0 ∷ get_or bytes 1 0 ∷ get_or bytes 2 0 ∷ get_or bytes 3 0 ∷ []
four bytes h =
    part-cons bytes 0 3 (omega arith)
    ∙ ap (λ (xs : List ℕ). get_or bytes 0 0 ∷ xs) (part-cons bytes 1 2 (omega arith))
    ∙ ap (λ (xs : List ℕ). get_or bytes 0 0 ∷ get_or bytes 1 0 ∷ xs) (part-cons bytes 2 1 (omega arith))
    ∙ ap (λ (xs : List ℕ). get_or bytes 0 0 ∷ get_or bytes 1 0 ∷ get_or bytes 2 0 ∷ xs) (part-cons bytes 3 0 (omega arith) ∙ ap (λ (xs : List ℕ). get_or bytes 3 0 ∷ xs) (part-none bytes 4))

-- the entry that stands in 32 bytes, given its region
pub read-spelling : (bytes : List ℕ) (region : Gas) → AreBytes bytes → length bytes ≡ 32 → part bytes 4 12 ≡ gas_spelling region →
    bytes ≡ entry_spelling (record {
      action = get_or bytes 0 0;
      code = get_or bytes 1 0;
      flags = get_or bytes 2 0;
      spare = get_or bytes 3 0;
      region = region;
      value = number_at bytes 16 8;
      mask = number_at bytes 24 8;
    })
unfolding entry_spelling
read-spelling bytes region each size is =
    let fields : parts sizes 0 bytes ≡ entry_fields (record {
      action = get_or bytes 0 0;
      code = get_or bytes 1 0;
      flags = get_or bytes 2 0;
      spare =
          get_or bytes 3 0;
      region = region;
      value = number_at bytes 16 8;
      mask = number_at bytes 24 8;
    }) =
    rw (four bytes (omega arith), is, spelled-number_at bytes 16 8 each (omega arith), spelled-number_at bytes 24 8 each (omega arith)) refl in
    sym (part-whole bytes 32 (omega arith)) ∙ sym (joined-parts sizes 0 bytes) ∙ ap joined fields

pub spell-spelling : (out : List ℕ) (entry : Entry) → length out ≡ 32 → put_fields sizes out 0 (entry_fields entry) ≡ entry_spelling entry
unfolding entry_spelling
spell-spelling out entry size =
    let fits : 0 + total sizes ≤ length out = omega arith in
    let same : length (joined (entry_fields entry)) ≡ length out = length-entry entry ∙ sym size in
    put_fields-joined sizes out 0 (entry_fields entry) (sizes-fields entry) fits ∙ put_at-all out (joined (entry_fields entry)) same

fields-spelling : (entry : Entry) → parts sizes 0 (entry_spelling entry) ≡ entry_fields entry
unfolding entry_spelling
fields-spelling entry =
    ap (parts sizes 0) (sym (append-nil (joined (entry_fields entry)))) ∙ parts-joined sizes (entry_fields entry) [] (sizes-fields entry)

-- one spelling, one entry
pub same_entry : (a b : Entry) → IsEntry a → IsEntry b → entry_spelling a ≡ entry_spelling b → a ≡ b
same_entry a b fits_a fits_b same =
    let fields : entry_fields a ≡ entry_fields b = sym (fields-spelling a) ∙ ap (parts sizes 0) same ∙ fields-spelling b in
    let small_value_a : a.value < 256 ^ 8 = fits_a.value in
    let small_value_b : b.value < 256 ^ 8 = fits_b.value in
    let small_mask_a : a.mask < 256 ^ 8 = fits_a.mask in
    let small_mask_b : b.mask < 256 ^ 8 = fits_b.mask in
    let action : a.action ≡ b.action = ap (λ (f : List (List ℕ)). get_or (get_or f 0 []) 0 0) fields in
    let code : a.code ≡ b.code = ap (λ (f : List (List ℕ)). get_or (get_or f 0 []) 1 0) fields in
    let flags : a.flags ≡ b.flags = ap (λ (f : List (List ℕ)). get_or (get_or f 0 []) 2 0) fields in
    let spare : a.spare ≡ b.spare = ap (λ (f : List (List ℕ)). get_or (get_or f 0 []) 3 0) fields in
    let region : a.region ≡ b.region = same_gas a.region b.region fits_a.region fits_b.region (ap (λ (f : List (List ℕ)). get_or f 1 []) fields) in
    let value : a.value ≡ b.value = sym (little-spelled 8 a.value small_value_a) ∙ ap (λ (f : List (List ℕ)). little (get_or f 2 [])) fields ∙ little-spelled 8 b.value small_value_b in
    let mask : a.mask ≡ b.mask = sym (little-spelled 8 a.mask small_mask_a) ∙ ap (λ (f : List (List ℕ)). little (get_or f 3 [])) fields ∙ little-spelled 8 b.mask small_mask_b in
    λ i. record { action = action i; code = code i; flags = flags i; spare = spare i; region = region i; value = value i; mask = mask i }
