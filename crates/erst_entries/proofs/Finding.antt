-- What is found is the one table that the bytes begin with.
use Rattle.std.proofs.Common.{◌≡◌, ◌⊎◌, ℕ, ◌+◌, ◌*◌, ◌<◌, ◌≤◌, ◌^◌, ◌==◌, ◌||◌, not, true, List, [], ◌∷◌, ◌++◌, length, take, drop, Option, Some, None, inl}
use Rattle.std.proofs.Common.{inr, eq-eqb, cond, refl, sym, ap, ◌∙◌, arith, length-append}
use Rattle.std.proofs.lemmas.List.{take-append-drop, take_at, drop_at}
use Rattle.base_model.specs.Bytes.{part, number_at, little, spelled, AreBytes}
use Rattle.base_model.proofs.BytesLemmas.{length-spelled, part-append, part-whole, part-append_left, part-append_right, little-spelled, spelled-number_at, number_at-lt}
use Rattle.apei_tables.specs.declared.headers.Header.{Header}
use Rattle.apei_tables.specs.declared.headers.TableError.{TableError}
use Rattle.apei_tables.specs.Layout.{spelling as header_spelling}
use Rattle.apei_tables.specs.Tables.{IsTable, FindsTable}
use Rattle.apei_tables.proofs.Finding.{size-front, part-front, none_refused}
use Rattle.apei_tables.proofs.Spelling.{same_header, length-spelling, has_sizes}
use Rattle.erst_entries.specs.declared.entries.Entry.{Entry}
use Rattle.erst_entries.specs.declared.tables.ErstError.{ErstError}
use Rattle.erst_entries.specs.declared.tables.ErstError.TheVariants.{Table, HeaderSize, Count}
use Rattle.erst_entries.specs.Layout.{Erst, FitsErst, AreEntries, entry_spelling, front_spelling, spelling}
use Rattle.erst_entries.specs.Tables.{IsErst, AreRead, FindsErst, refusal}
use Rattle.erst_entries.proofs.EntryBytes.{length-entry, same_entry}
use Rattle.erst_entries.proofs.TableBytes.{size-is}
use Rattle.erst_entries.proofs.Terms.{signature, entries_spelling}

-- a table that stands first, and the bytes behind it
pub split : (signature : List ℕ) (fixed : ℕ) (bytes : List ℕ) (header : Header) (table : List ℕ) → FindsTable signature fixed bytes header table → bytes ≡ table ++ drop (length table) bytes
split signature fixed bytes header table found = sym (take-append-drop (length table) bytes) ∙ ap (λ (xs : List ℕ). xs ++ drop (length table) bytes) (sym found.prefix)

pub finds : (bytes : List ℕ) (header : Header) (table : List ℕ) → FindsTable signature 48 bytes header table →
    ((number_at bytes 36 4 ≡ 48) ⊎ (number_at bytes 36 4 ≡ 12)) → number_at bytes 4 4 ≡ 48 + 32 * number_at bytes 44 4 → FindsErst bytes header table
finds bytes header table found size all = record {
  finds = found;
  size = size;
  counted = sym (size-front bytes table (drop (length table) bytes) (split signature 48 bytes header table found) found.is_table.sealed) ∙ all;
}

-- where the parts of a table stand: the header and its size, in the first 40 bytes
front-two : (erst : Erst) → FitsErst erst → (at n : ℕ) → at + n ≤ 40 → part (spelling erst) at n ≡ part (header_spelling erst.header ++ spelled 4 erst.header_size) at n
unfolding spelling front_spelling
front-two erst fits at n low =
    let h = header_spelling erst.header in
    let has : length h ≡ 36 = length-spelling erst.header (has_sizes erst.header fits.header) in
    let a = spelled 4 erst.header_size in
    let b = spelled 4 erst.reserved in
    let d = spelled 4 erst.count in
    let one : at + n ≤ length (((h ++ a) ++ b) ++ d) = simp length-append (omega (arith, has, length-spelled 4 erst.header_size)) in
    let two : at + n ≤ length ((h ++ a) ++ b) = simp length-append (omega (arith, has, length-spelled 4 erst.header_size)) in
    let three : at + n ≤ length (h ++ a) = simp length-append (omega (arith, has, length-spelled 4 erst.header_size)) in
    part-append_left (((h ++ a) ++ b) ++ d) (entries_spelling erst.entries) at n one
    ∙ part-append_left ((h ++ a) ++ b) d at n two
    ∙ part-append_left (h ++ a) b at n three

front-header : (erst : Erst) → FitsErst erst → part (spelling erst) 0 36 ≡ header_spelling erst.header
front-header erst fits =
    let h = header_spelling erst.header in
    let has : length h ≡ 36 = length-spelling erst.header (has_sizes erst.header fits.header) in
    let within : 0 + 36 ≤ length h = omega arith in
    front-two erst fits 0 36 (omega arith) ∙ part-append_left h (spelled 4 erst.header_size) 0 36 within ∙ part-whole h 36 (omega arith)

front-size : (erst : Erst) → FitsErst erst → part (spelling erst) 36 4 ≡ spelled 4 erst.header_size
front-size erst fits =
    let h = header_spelling erst.header in
    let has : length h ≡ 36 = length-spelling erst.header (has_sizes erst.header fits.header) in
    let a = spelled 4 erst.header_size in
    front-two erst fits 36 4 (omega arith) ∙ part-append_right h a 36 0 4 (omega arith) ∙ part-whole a 4 (omega (arith, length-spelled 4 erst.header_size))

front-count : (erst : Erst) → FitsErst erst → part (spelling erst) 44 4 ≡ spelled 4 erst.count
unfolding spelling front_spelling
front-count erst fits =
    let h = header_spelling erst.header in
    let has : length h ≡ 36 = length-spelling erst.header (has_sizes erst.header fits.header) in
    let a = spelled 4 erst.header_size in
    let b = spelled 4 erst.reserved in
    let d = spelled 4 erst.count in
    let before : length ((h ++ a) ++ b) ≡ 44 = simp length-append (omega (arith, has, length-spelled 4 erst.header_size, length-spelled 4 erst.reserved)) in
    let one : 44 + 4 ≤ length (((h ++ a) ++ b) ++ d) = omega (arith, before, length-append ((h ++ a) ++ b) d, length-spelled 4 erst.count) in
    part-append_left (((h ++ a) ++ b) ++ d) (entries_spelling erst.entries) 44 4 one
    ∙ part-append_right ((h ++ a) ++ b) d 44 0 4 (omega arith)
    ∙ part-whole d 4 (omega (arith, length-spelled 4 erst.count))

size-of : (erst : Erst) → FitsErst erst → length (spelling erst) ≡ 48 + 32 * length erst.entries
size-of erst fits = size-is erst (has_sizes erst.header fits.header)

-- what is read at the front of bytes that such a table begins
read-front : (erst : Erst) (bytes table rest : List ℕ) (at n x : ℕ) → bytes ≡ table ++ rest → table ≡ spelling erst → at + n ≤ length table →
    part (spelling erst) at n ≡ spelled n x → x < 256 ^ n → number_at bytes at n ≡ x
unfolding number_at
read-front erst bytes table rest at n x same is room there small =
    ap little (part-front bytes table rest at n same room ∙ ap (λ (xs : List ℕ). part xs at n) is ∙ there) ∙ little-spelled n x small

pub is_table : (erst : Erst) (table : List ℕ) → FitsErst erst → IsErst erst table → IsTable erst.header table
is_table erst table fits is = record { sealed = is.sealed; begins = ap (λ (xs : List ℕ). part xs 0 36) is.spelled ∙ front-header erst fits }

-- what is refused of bytes, by what is refused of their table's header
abbrev refusal_after : List ℕ → Option TableError → Option ErstError
refusal_after bytes (Some error) = Some (Table error)
refusal_after bytes None =
    let size = number_at bytes 36 4 in
    let count = number_at bytes 44 4 in
    let all = number_at bytes 4 4 in
    cond (not ((size == 48) || (size == 12))) (Some (HeaderSize size)) (cond (not (all == 48 + 32 * count)) (Some (Count count all)) None)

-- nothing is refused where such a table stands first
pub not_refused : (erst : Erst) (bytes table rest : List ℕ) → bytes ≡ table ++ rest → FitsErst erst → IsErst erst table → refusal bytes ≡ None
not_refused erst bytes table rest same fits is =
    let all : length table ≡ 48 + 32 * length erst.entries = ap length is.spelled ∙ size-of erst fits in
    let counted : length erst.entries ≡ erst.count = is.counted in
    let low : 48 ≤ length table = omega arith in
    let small_size : erst.header_size < 256 ^ 4 = fits.header_size in
    let small_count : erst.count < 256 ^ 4 = fits.count in
    let none = none_refused signature 48 bytes erst.header table rest same fits.header (is_table erst table fits is) is.named low in
    let size : number_at bytes 36 4 ≡ erst.header_size = read-front erst bytes table rest 36 4 erst.header_size same is.spelled (omega arith) (front-size erst fits) small_size in
    let count : number_at bytes 44 4 ≡ erst.count = read-front erst bytes table rest 44 4 erst.count same is.spelled (omega arith) (front-count erst fits) small_count in
    let long : number_at bytes 4 4 ≡ 48 + 32 * erst.count = size-front bytes table rest same is.sealed ∙ all ∙ ap (λ (n : ℕ). 48 + 32 * n) counted in
    let right : ((48 + 32 * erst.count) == (48 + 32 * erst.count)) ≡ true = eq-eqb (48 + 32 * erst.count) (48 + 32 * erst.count) refl in
    ap (refusal_after bytes) none ∙ rw (size, count, long, right) (either erst.header_size is.size) where
      either : (n : ℕ) → (n ≡ 48) ⊎ (n ≡ 12) → cond (not ((n == 48) || (n == 12))) (Some (HeaderSize n)) None ≡ None
      either n (inl e) = rw e refl
      either n (inr e) = rw e refl

-- lists of two parts are equal part by part
append_split : (xs ys xs' ys' : List ℕ) → length xs ≡ length xs' → xs ++ ys ≡ xs' ++ ys' → (xs ≡ xs') × (ys ≡ ys')
append_split xs ys xs' ys' size same = (
  sym (take_at xs ys (length xs) refl) ∙ ap (take (length xs)) same ∙ take_at xs' ys' (length xs) (sym size),
  sym (drop_at xs ys (length xs) refl) ∙ ap (drop (length xs)) same ∙ drop_at xs' ys' (length xs) (sym size),
)

same_entries : (xs ys : List Entry) → AreEntries xs → AreEntries ys → entries_spelling xs ≡ entries_spelling ys → xs ≡ ys
same_entries [] [] fits_a fits_b same = refl
same_entries [] (b ∷ ys) fits_a fits_b same = absurd (omega (arith, ap length same, length-append (entry_spelling b) (entries_spelling ys), length-entry b))
same_entries (a ∷ xs) [] fits_a fits_b same = absurd (omega (arith, ap length same, length-append (entry_spelling a) (entries_spelling xs), length-entry a))
same_entries (a ∷ xs) (b ∷ ys) fits_a fits_b same =
    let split = append_split (entry_spelling a) (entries_spelling xs) (entry_spelling b) (entries_spelling ys) (length-entry a ∙ sym (length-entry b)) same in
    let first : a ≡ b = same_entry a b fits_a.0 fits_b.0 split.0 in
    let rest : xs ≡ ys = same_entries xs ys fits_a.1 fits_b.1 split.1 in
    λ i. first i ∷ rest i

same_number : (n x y : ℕ) → x < 256 ^ n → y < 256 ^ n → spelled n x ≡ spelled n y → x ≡ y
same_number n x y small_x small_y same = sym (little-spelled n x small_x) ∙ ap little same ∙ little-spelled n y small_y

-- one spelling, one table
pub same_erst : (a b : Erst) → FitsErst a → FitsErst b → spelling a ≡ spelling b → a ≡ b
unfolding spelling front_spelling
same_erst a b fits_a fits_b same =
    let ha = header_spelling a.header in
    let hb = header_spelling b.header in
    let long_a : length ha ≡ 36 = length-spelling a.header (has_sizes a.header fits_a.header) in
    let long_b : length hb ≡ 36 = length-spelling b.header (has_sizes b.header fits_b.header) in
    let one : length (ha ++ spelled 4 a.header_size) ≡ length (hb ++ spelled 4 b.header_size) = simp (length-append, length-spelled, long_a, long_b) refl in
    let two : length ((ha ++ spelled 4 a.header_size) ++ spelled 4 a.reserved) ≡ length ((hb ++ spelled 4 b.header_size) ++ spelled 4 b.reserved) =
    simp (length-append, length-spelled, long_a, long_b) refl in
    let three : length (((ha ++ spelled 4 a.header_size) ++ spelled 4 a.reserved) ++ spelled 4 a.count)
    ≡ length (((hb ++ spelled 4 b.header_size) ++ spelled 4 b.reserved) ++ spelled 4 b.count) = simp (length-append, length-spelled, long_a, long_b) refl in
    let all = append_split (((ha ++ spelled 4 a.header_size) ++ spelled 4 a.reserved) ++ spelled 4 a.count) (entries_spelling a.entries)
    (((hb ++ spelled 4 b.header_size) ++ spelled 4 b.reserved) ++ spelled 4 b.count) (entries_spelling b.entries) three same in
    let counts = append_split ((ha ++ spelled 4 a.header_size) ++ spelled 4 a.reserved) (spelled 4 a.count) ((hb ++ spelled 4 b.header_size) ++ spelled 4 b.reserved) (spelled 4 b.count) two all.0 in
    let reserves = append_split (ha ++ spelled 4 a.header_size) (spelled 4 a.reserved) (hb ++ spelled 4 b.header_size) (spelled 4 b.reserved) one counts.0 in
    let sizes = append_split ha (spelled 4 a.header_size) hb (spelled 4 b.header_size) (long_a ∙ sym long_b) reserves.0 in
    let header : a.header ≡ b.header = same_header a.header b.header fits_a.header fits_b.header sizes.0 in
    let header_size : a.header_size ≡ b.header_size = same_number 4 a.header_size b.header_size fits_a.header_size fits_b.header_size sizes.1 in
    let reserved : a.reserved ≡ b.reserved = same_number 4 a.reserved b.reserved fits_a.reserved fits_b.reserved reserves.1 in
    let count : a.count ≡ b.count = same_number 4 a.count b.count fits_a.count fits_b.count counts.1 in
    let entries : a.entries ≡ b.entries = same_entries a.entries b.entries fits_a.entries fits_b.entries all.1 in
    λ i. record { header = header i; header_size = header_size i; reserved = reserved i; count = count i; entries = entries i }

-- the table that was read
abbrev pub read : List ℕ → Header → List Entry → Erst
read bytes header entries = record { header = header; header_size = number_at bytes 36 4; reserved = number_at bytes 40 4; count = number_at bytes 44 4; entries = entries }

whole : (header : Header) (table bytes : List ℕ) (entries : List Entry) (rest : List ℕ) (count : ℕ) → AreBytes bytes → bytes ≡ table ++ rest → length table ≡ 48 + 32 * count →
    length bytes ≡ length table + length rest → part table 0 36 ≡ header_spelling header → part table 48 (32 * count) ≡ entries_spelling entries →
    (((header_spelling header ++ spelled 4 (number_at bytes 36 4)) ++ spelled 4 (number_at bytes 40 4)) ++ spelled 4 (number_at bytes 44 4)) ++ entries_spelling entries ≡ table
whole header table bytes entries rest count each same all have begins ends =
    let size = spelled 4 (number_at bytes 36 4) in
    let reserved = spelled 4 (number_at bytes 40 4) in
    let counted = spelled 4 (number_at bytes 44 4) in
    let tail = entries_spelling entries in
    let first : size ≡ part table 36 4 = spelled-number_at bytes 36 4 each (omega arith) ∙ part-front bytes table rest 36 4 same (omega arith) in
    let second : reserved ≡ part table 40 4 = spelled-number_at bytes 40 4 each (omega arith) ∙ part-front bytes table rest 40 4 same (omega arith) in
    let third : counted ≡ part table 44 4 = spelled-number_at bytes 44 4 each (omega arith) ∙ part-front bytes table rest 44 4 same (omega arith) in
    ap (λ (xs : List ℕ). (((xs ++ size) ++ reserved) ++ counted) ++ tail) (sym begins)
    ∙ ap (λ (xs : List ℕ). (((part table 0 36 ++ xs) ++ reserved) ++ counted) ++ tail) first
    ∙ ap (λ (xs : List ℕ). ((xs ++ reserved) ++ counted) ++ tail) (part-append table 0 36 4)
    ∙ ap (λ (xs : List ℕ). ((part table 0 40 ++ xs) ++ counted) ++ tail) second
    ∙ ap (λ (xs : List ℕ). (xs ++ counted) ++ tail) (part-append table 0 40 4)
    ∙ ap (λ (xs : List ℕ). (part table 0 44 ++ xs) ++ tail) third
    ∙ ap (λ (xs : List ℕ). xs ++ tail) (part-append table 0 44 4)
    ∙ ap (λ (xs : List ℕ). part table 0 48 ++ xs) (sym ends)
    ∙ part-append table 0 48 (32 * count)
    ∙ part-whole table (48 + 32 * count) (omega arith)

pub is_erst : (bytes : List ℕ) (header : Header) (table : List ℕ) (entries : List Entry) → AreBytes bytes → FindsErst bytes header table → AreRead table (number_at bytes 44 4) entries →
    IsErst (read bytes header entries) table
unfolding spelling front_spelling
is_erst bytes header table entries each found are =
    let rest = drop (length table) bytes in
    let same : bytes ≡ table ++ rest = split signature 48 bytes header table found.finds in
    let count = number_at bytes 44 4 in
    let all : length table ≡ 48 + 32 * count = found.counted in
    let have : length bytes ≡ length table + length rest = ap length same ∙ length-append table rest in
    record {
      sealed = found.finds.is_table.sealed;
      spelled = sym (whole header table bytes entries rest count each same all have found.finds.is_table.begins are.spelled);
      named = found.finds.wanted;
      size = found.size;
      counted = are.many;
    }

pub fits_erst : (bytes : List ℕ) (header : Header) (table : List ℕ) (entries : List Entry) → AreBytes bytes → FindsErst bytes header table → AreRead table (number_at bytes 44 4) entries →
    FitsErst (read bytes header entries)
fits_erst bytes header table entries each found are =
    let same : bytes ≡ table ++ drop (length table) bytes = split signature 48 bytes header table found.finds in
    let have : length bytes ≡ length table + length (drop (length table) bytes) = ap length same ∙ length-append table (drop (length table) bytes) in
    let low : 48 ≤ length table = found.finds.long in
    record {
      header = found.finds.fits;
      header_size = number_at-lt bytes 36 4 each (omega arith);
      reserved = number_at-lt bytes 40 4 each (omega arith);
      count = number_at-lt bytes 44 4 each (omega arith);
      entries = are.fit;
    }

-- and the only one
pub only : (bytes : List ℕ) (header : Header) (table : List ℕ) (entries : List Entry) → AreBytes bytes → FindsErst bytes header table → AreRead table (number_at bytes 44 4) entries →
    (erst : Erst) (other rest : List ℕ) → bytes ≡ other ++ rest → FitsErst erst → IsErst erst other → (read bytes header entries ≡ erst) × (length table ≡ length other)
only bytes header table entries each found are erst other rest same fits is =
    let mine : bytes ≡ table ++ drop (length table) bytes = split signature 48 bytes header table found.finds in
    let size : length table ≡ length other = sym (size-front bytes table (drop (length table) bytes) mine found.finds.is_table.sealed) ∙ size-front bytes other rest same is.sealed in
    let whole : table ≡ other = (append_split table (drop (length table) bytes) other rest size (sym mine ∙ same)).0 in
    let one = is_erst bytes header table entries each found are in
    (same_erst (read bytes header entries) erst (fits_erst bytes header table entries each found are) fits (sym one.spelled ∙ whole ∙ is.spelled), size)

-- it stands within the bytes, and says its length in four
pub size_within : (bytes : List ℕ) (header : Header) (table : List ℕ) → FindsErst bytes header table → length table ≤ length bytes
size_within bytes header table found =
    let mine : bytes ≡ table ++ drop (length table) bytes = split signature 48 bytes header table found.finds in
    omega (arith, ap length mine, length-append table (drop (length table) bytes))

pub size_small : (bytes : List ℕ) (header : Header) (table : List ℕ) → AreBytes bytes → FindsErst bytes header table → length table < 2 ^ 32
size_small bytes header table each found =
    let mine : bytes ≡ table ++ drop (length table) bytes = split signature 48 bytes header table found.finds in
    let low : 48 ≤ length table = found.finds.long in
    let within = size_within bytes header table found in
    let small : number_at bytes 4 4 < 256 ^ 4 = number_at-lt bytes 4 4 each (omega arith) in
    omega (arith, small, size-front bytes table (drop (length table) bytes) mine found.finds.is_table.sealed)
