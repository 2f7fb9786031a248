-- A table is its header, three numbers and its entries.
use Rattle.std.proofs.Common.{◌≡◌, ℕ, ◌+◌, ◌*◌, ◌%◌, ◌<◌, ◌^◌, List, [], ◌∷◌, ◌++◌, length, take, map, get_or, sum, refl, sym, ap, ◌∙◌, arith, append-nil}
use Rattle.std.proofs.Common.{append_assoc, length-append, drop-cons, take-add}
use Rattle.std.proofs.lemmas.List.Sums.{sum_by-append}
use Rattle.base_model.specs.Bytes.{part, number_at, spelled, put_at}
use Rattle.base_model.proofs.BytesLemmas.{length-spelled, part-append}
use Rattle.apei_tables.specs.Layout.{spelling as header_spelling, HasSizes}
use Rattle.apei_tables.specs.Tables.{IsSealed}
use Rattle.apei_bytes.proofs.Puts.{put_fields-joined}
use Rattle.apei_tables.proofs.Spelling.{length-spelling, number_at-length, sum-checksum}
use Rattle.erst_entries.specs.declared.entries.Entry.{Entry}
use Rattle.erst_entries.specs.Layout.{Erst, AreEntries, IsEntry, entry_spelling, front_spelling, spelling}
use Rattle.erst_entries.specs.Tables.{AreRead}
use Rattle.erst_entries.proofs.EntryBytes.{length-entry, put_at-all}
use Rattle.base_model.proofs.Terms.{total}
use Rattle.erst_entries.proofs.Terms.{entries_spelling}

-- the front's fields, put one after another
pub put-front : (out : List ℕ) (erst : Erst) → length out ≡ 48 → HasSizes erst.header →
    put_at (put_at (put_at (put_at out 0 (header_spelling erst.header)) 36 (spelled 4 erst.header_size)) 40 (spelled 4 erst.reserved)) 44 (spelled 4 erst.count) ≡ front_spelling erst
unfolding front_spelling
put-front out erst size sizes_are =
    let h = header_spelling erst.header in
    let has : length h ≡ 36 = length-spelling erst.header sizes_are in
    let a = spelled 4 erst.header_size in
    let b = spelled 4 erst.reserved in
    let d = spelled 4 erst.count in
    let fields : List (List ℕ) = h ∷ a ∷ b ∷ d ∷ [] in
    let sizes : map length fields ≡ 36 ∷ 4 ∷ 4 ∷ 4 ∷ [] = rw (has, length-spelled 4 erst.header_size, length-spelled 4 erst.reserved, length-spelled 4 erst.count) refl in
    let flat : h ++ (a ++ (b ++ (d ++ []))) ≡ ((h ++ a) ++ b) ++ d = simp (append_assoc, append-nil) in
    let all : length (((h ++ a) ++ b) ++ d) ≡ length out = simp (length-append, length-spelled, has) (sym size) in
    put_fields-joined (36 ∷ 4 ∷ 4 ∷ 4 ∷ []) out 0 fields sizes (omega arith) ∙ ap (put_at out 0) flat ∙ put_at-all out (((h ++ a) ++ b) ++ d) all

-- one entry more
pub entries_spelling-snoc : (entries : List Entry) (entry : Entry) → entries_spelling (entries ++ entry ∷ []) ≡ entries_spelling entries ++ entry_spelling entry
entries_spelling-snoc [] entry = append-nil (entry_spelling entry)
entries_spelling-snoc (first ∷ entries) entry =
    ap (λ (xs : List ℕ). entry_spelling first ++ xs) (entries_spelling-snoc entries entry) ∙ sym (append_assoc (entry_spelling first) (entries_spelling entries) (entry_spelling entry))

pub length-entries_spelling : (entries : List Entry) → length (entries_spelling entries) ≡ 32 * length entries
length-entries_spelling [] = refl
length-entries_spelling (entry ∷ entries) =
    omega (arith, length-append (entry_spelling entry) (entries_spelling entries), length-entry entry, length-entries_spelling entries)

pub AreEntries-snoc : (entries : List Entry) (entry : Entry) → AreEntries entries → IsEntry entry → AreEntries (entries ++ entry ∷ [])
AreEntries-snoc [] entry all fits = (fits, tt)
AreEntries-snoc (first ∷ entries) entry all fits = (all.0, AreEntries-snoc entries entry all.1 fits)

-- the entries up to an index, and the next one
pub take-next : (entries : List Entry) (i : ℕ) (d : Entry) → i < length entries → take (i + 1) entries ≡ take i entries ++ get_or entries i d ∷ []
take-next entries i d h = take-add i 1 entries ∙ ap (λ (xs : List Entry). take i entries ++ take 1 xs) (drop-cons entries i d h)

pub AreRead-next : (table : List ℕ) (index : ℕ) (entries : List Entry) (entry : Entry) (at : ℕ) →
    AreRead table index entries → at ≡ 48 + 32 * index → part table at 32 ≡ entry_spelling entry → IsEntry entry → AreRead table (index + 1) (entries ++ entry ∷ [])
AreRead-next table index entries entry at are is read fits = record {
  many = length-append entries (entry ∷ []) ∙ ap (λ (n : ℕ). n + 1) are.many;
  spelled =
      let size : 32 * (index + 1) ≡ 32 * index + 32 = omega arith in
      ap (part table 48) size
      ∙ sym (part-append table 48 (32 * index) 32)
      ∙ ap (λ (xs : List ℕ). xs ++ part table (48 + 32 * index) 32) are.spelled
      ∙ ap (λ (k : ℕ). entries_spelling entries ++ part table k 32) (sym is)
      ∙ ap (λ (xs : List ℕ). entries_spelling entries ++ xs) read
      ∙ sym (entries_spelling-snoc entries entry);
  fit = AreEntries-snoc entries entry are.fit fits;
}

pub AreRead-none : (table : List ℕ) → AreRead table 0 []
unfolding part
AreRead-none table = record { many = refl; spelled = refl; fit = tt }

-- the bytes up to an entry, and that entry's
pub upto-next : (entries : List Entry) (i : ℕ) (d : Entry) → i < length entries →
    entries_spelling (take (i + 1) entries) ≡ entries_spelling (take i entries) ++ entry_spelling (get_or entries i d)
upto-next entries i d h = ap entries_spelling (take-next entries i d h) ∙ entries_spelling-snoc (take i entries) (get_or entries i d)

pub sum-append : (xs ys : List ℕ) → sum (xs ++ ys) ≡ sum xs + sum ys
sum-append xs ys = sum_by-append (λ (x : ℕ). x) xs ys

pub sum-next : (entries : List Entry) (i : ℕ) (d : Entry) (total next added : ℕ) → i < length entries → total ≡ sum (entries_spelling (take i entries)) % 256 →
    added ≡ sum (entry_spelling (get_or entries i d)) % 256 → next ≡ (total + added) % 256 → next ≡ sum (entries_spelling (take (i + 1) entries)) % 256
sum-next entries i d total next added h is one e =
    let all : sum (entries_spelling (take (i + 1) entries)) ≡ sum (entries_spelling (take i entries)) + sum (entry_spelling (get_or entries i d)) =
    ap sum (upto-next entries i d h) ∙ sum-append (entries_spelling (take i entries)) (entry_spelling (get_or entries i d)) in
    omega arith

-- the sum of a table's bytes from those of its two parts
pub sum-spelling : (erst : Erst) → sum (spelling erst) ≡ sum (front_spelling erst) + sum (entries_spelling erst.entries)
unfolding spelling
sum-spelling erst = sum-append (front_spelling erst) (entries_spelling erst.entries)

pub size-is : (erst : Erst) → HasSizes erst.header → length (spelling erst) ≡ 48 + 32 * length erst.entries
unfolding spelling front_spelling
size-is erst sizes_are =
    let has : length (header_spelling erst.header) ≡ 36 = length-spelling erst.header sizes_are in
    simp (length-append, length-spelled, has) (omega (arith, length-entries_spelling erst.entries))

-- the table with this checksum
abbrev pub with_checksum : Erst → ℕ → Erst
with_checksum erst x = record erst { header = record erst.header { checksum = x } }

-- a table as its header and what stands behind it
abbrev behind : Erst → List ℕ
behind erst = spelled 4 erst.header_size ++ (spelled 4 erst.reserved ++ (spelled 4 erst.count ++ entries_spelling erst.entries))

spelling-behind : (erst : Erst) → spelling erst ≡ header_spelling erst.header ++ behind erst
unfolding spelling front_spelling
spelling-behind erst = simp append_assoc

sum-with : (erst : Erst) (x : ℕ) → sum (spelling (with_checksum erst x)) ≡ sum (spelling (with_checksum erst 0)) + x
sum-with erst x =
    let one = ap sum (spelling-behind (with_checksum erst x)) ∙ sum-append (header_spelling (record erst.header { checksum = x })) (behind erst) in
    let two = ap sum (spelling-behind (with_checksum erst 0)) ∙ sum-append (header_spelling (record erst.header { checksum = 0 })) (behind erst) in
    omega (arith, one, two, sum-checksum erst.header x)

field : (erst : Erst) → HasSizes erst.header → erst.header.length < 2 ^ 32 → number_at (spelling erst) 4 4 ≡ erst.header.length
field erst has fits = ap (λ (xs : List ℕ). number_at xs 4 4) (spelling-behind erst) ∙ number_at-length erst.header (behind erst) has fits

-- sealed: the checksum is what is missing in the sum without it
pub seals : (erst : Erst) (x added : ℕ) → HasSizes erst.header → erst.header.length ≡ 48 + 32 * length erst.entries → erst.header.length < 2 ^ 32 →
    added ≡ sum (spelling (with_checksum erst 0)) % 256 → (x + added) % 256 ≡ 0 → IsSealed (spelling (with_checksum erst x))
seals erst x added sizes long small is zero_sum =
    let has : HasSizes (with_checksum erst x).header = record { signature = sizes.signature; oem_id = sizes.oem_id; oem_table_id = sizes.oem_table_id; creator_id = sizes.creator_id } in
    let all : length (spelling (with_checksum erst x)) ≡ 48 + 32 * length erst.entries = size-is (with_checksum erst x) has in
    let total = sum-with erst x in
    record {
      size = omega arith;
      length_field = field (with_checksum erst x) has small ∙ long ∙ sym all;
      sum = omega arith;
    }
