-- The checks of a head one by one, and what a whole block's bytes hold.
use Rattle.std.proofs.Common.{◌≡◌, ℕ, zero, suc, ◌+◌, ◌-◌, ◌<◌, ◌≤◌, ◌^◌, inl, inr, false, List, [], ◌∷◌, ◌++◌, length, take, drop, Some, Result, Ok, Err, refl}
use Rattle.std.proofs.Common.{sym, ap, subst, ◌∙◌, arith, length-append, append-nil, append_assoc}
use Rattle.std.specs.Prelude.{All, ◌==◌, nat_lt, slice_get, MatchResult}
use Rattle.std.proofs.lemmas.Bool.{lt-ltb, eq-eqb, ne_eqb, le-ltb, cond-true, cond-false, cases_lt}
use Rattle.std.proofs.lemmas.Result.{MatchResult-weaker}
use Rattle.std.proofs.lemmas.List.{take-append-drop, length-take, take_all}
use Rattle.std.proofs.lemmas.List.Elements.{All-drop, All-head}
use Rattle.base_model.specs.Bytes.{part, number_at, AreBytes}
use Rattle.base_model.proofs.BytesLemmas.{length-part, part-part, AreBytes-part, AreBytes-take}
use Rattle.apei_bytes.proofs.Parts.{part-second, number_at-front}
use Rattle.ghes_block.specs.declared.entry.EntryHead.{EntryHead}
use Rattle.ghes_block.specs.declared.error.BlockError.{BlockError}
use Rattle.ghes_block.specs.declared.error.BlockError.TheVariants.{Need, NotPublished, RawOffset}
use Rattle.ghes_block.specs.Grammar.{EntryValue, BlockValue, entry_bytes, entries_bytes, IsEntry, IsBlock}
use Rattle.ghes_block.specs.Reading.{head_size, entry_size, entry_head_at, first_entry, entry_count, block_of, length_if_there, checked, IsReadBlock}
use Rattle.ghes_block.proofs.Terms.{data_of}
use Rattle.ghes_block.proofs.Terms.{count_in}
use Rattle.ghes_block.proofs.Terms.{data_length}
use Rattle.ghes_block.proofs.Terms.{raw_length}
use Rattle.ghes_block.proofs.Terms.{raw_offset}
use Rattle.ghes_block.proofs.Terms.{status_at}
use Rattle.ghes_block.specs.Entries.{place_of, HasHead, IsPlace, EntryAt, RestAt}
use Rattle.ghes_block.proofs.Walks.{counts, first_of}
use Rattle.ghes_block.proofs.Blocks.{head_verdict, Passed, passed, passes, block_length, passed_front, same_count, entries_within, is_block, found_again, reads_again}

pub at_short : (bytes : List ℕ) → length bytes < 20 → checked bytes ≡ Err (Need (20 - length bytes))
unfolding checked head_verdict
at_short bytes h = cond-true (nat_lt (length bytes) 20) _ _ (lt-ltb (length bytes) 20 h)

long : (bytes : List ℕ) → 20 ≤ length bytes → checked bytes ≡ head_verdict (length bytes) (status_at bytes) (raw_offset bytes) (raw_length bytes) (data_length bytes) (entry_count bytes)
unfolding checked head_verdict
long bytes h = cond-false (nat_lt (length bytes) 20) (Err (Need (20 - length bytes))) _ (le-ltb (length bytes) 20 h)

pub at_zero : (bytes : List ℕ) → 20 ≤ length bytes → status_at bytes ≡ 0 → checked bytes ≡ Err NotPublished
unfolding head_verdict
at_zero bytes h k = long bytes h ∙ cond-true (status_at bytes == 0) _ _ (eq-eqb (status_at bytes) 0 k)

published : (bytes : List ℕ) → (status_at bytes ≡ 0 → ⊥) → (status_at bytes == 0) ≡ false
published bytes h = ne_eqb (status_at bytes) 0 h

pub at_no_raw : (bytes : List ℕ) → 20 ≤ length bytes → (status_at bytes ≡ 0 → ⊥) → raw_length bytes ≡ 0 → checked bytes ≡ length_if_there (length bytes) (20 + data_length bytes) (entry_count bytes)
unfolding head_verdict
at_no_raw bytes h k none =
    long bytes h
    ∙ cond-false (status_at bytes == 0) (Err NotPublished) _ (published bytes k)
    ∙ cond-true (raw_length bytes == 0) _ _ (eq-eqb (raw_length bytes) 0 none)

pub at_raw_offset : (bytes : List ℕ) → 20 ≤ length bytes → (status_at bytes ≡ 0 → ⊥) → (raw_length bytes ≡ 0 → ⊥) → raw_offset bytes < 20 + data_length bytes →
    checked bytes ≡ Err (RawOffset (raw_offset bytes))
unfolding head_verdict
at_raw_offset bytes h k some low =
    long bytes h
    ∙ cond-false (status_at bytes == 0) (Err NotPublished) _ (published bytes k)
    ∙ cond-false (raw_length bytes == 0) (length_if_there (length bytes) (20 + data_length bytes) (entry_count bytes)) _ (ne_eqb (raw_length bytes) 0 some)
    ∙ cond-true (nat_lt (raw_offset bytes) (20 + data_length bytes)) _ _ (lt-ltb (raw_offset bytes) (20 + data_length bytes) low)

pub at_raw : (bytes : List ℕ) → 20 ≤ length bytes → (status_at bytes ≡ 0 → ⊥) → (raw_length bytes ≡ 0 → ⊥) → 20 + data_length bytes ≤ raw_offset bytes →
    checked bytes ≡ length_if_there (length bytes) (raw_offset bytes + raw_length bytes) (entry_count bytes)
unfolding head_verdict
at_raw bytes h k some high =
    long bytes h
    ∙ cond-false (status_at bytes == 0) (Err NotPublished) _ (published bytes k)
    ∙ cond-false (raw_length bytes == 0) (length_if_there (length bytes) (20 + data_length bytes) (entry_count bytes)) _ (ne_eqb (raw_length bytes) 0 some)
    ∙ cond-false (nat_lt (raw_offset bytes) (20 + data_length bytes)) (Err (RawOffset (raw_offset bytes))) _ (le-ltb (raw_offset bytes) (20 + data_length bytes) high)

-- what a call for a length and a data length answered
pub answered : (bytes : List ℕ) (size data_len : ℕ) (r : Result (ℕ × ℕ) BlockError) → data_len ≡ data_length bytes → checked bytes ≡ length_if_there (length bytes) size (entry_count bytes)
    → MatchResult r (λ x. (length_if_there (length bytes) size (count_in (part bytes 20 data_len)) ≡ Ok x.0) × (count_in (part bytes 20 data_len) ≡ Ok x.1))
    (λ e. length_if_there (length bytes) size (count_in (part bytes 20 data_len)) ≡ Err e)
    → MatchResult r (λ x. (checked bytes ≡ Ok x.0) × (entry_count bytes ≡ Ok x.1)) (λ e. checked bytes ≡ Err e)
unfolding entry_count
answered bytes size data_len r e is h =
    let count : count_in (part bytes 20 data_len) ≡ count_in (data_of bytes) =
    ap (λ (n : ℕ). count_in (part bytes 20 n)) e in
    MatchResult-weaker r h
    (λ x p. (is ∙ ap (length_if_there (length bytes) size) (sym count) ∙ p.0, sym count ∙ p.1))
    (λ y p. is ∙ ap (length_if_there (length bytes) size) (sym count) ∙ p)

-- the front that passed is a whole block
pub record Front (bytes : List ℕ) (len count : ℕ) : Type 0 where
  pub within : len ≤ length bytes
  pub size : length (take len bytes) ≡ len
  pub whole : IsReadBlock (take len bytes) count

pub front : (bytes : List ℕ) (len count : ℕ) → AreBytes bytes → checked bytes ≡ Ok len → entry_count bytes ≡ Ok count → Front bytes len count
front bytes len count each h k =
    let p = passed bytes len h in
    let len_is = p.1 in
    let there = p.0.there in
    let size : length (take len bytes) ≡ len = length-take len bytes ∙ omega arith in
    let split : take len bytes ++ drop len bytes ≡ bytes = take-append-drop len bytes in
    let again = passed_front (take len bytes) (drop len bytes) (subst Passed (sym split) p.0) (ap block_length split ∙ p.1 ∙ sym size) in
    let low = entries_within (raw_offset (take len bytes)) (raw_length (take len bytes)) (data_length (take len bytes)) again.0.behind in
    let same = again.1 in
    record {
      within = omega arith;
      size = size;
      whole = record {
        whole = passes (take len bytes) again.0 ∙ ap (λ (n : ℕ). Ok n) again.1;
        counted_is = sym (same_count (take len bytes) (drop len bytes) again.0.header (omega arith)) ∙ ap entry_count split ∙ k;
        are_bytes = AreBytes-take len bytes each;
      };
    }

-- its head is there
pub head_there : (bytes : List ℕ) (len : ℕ) → checked bytes ≡ Ok len → HasHead bytes (block_of (take len bytes)) len
unfolding block_of
head_there bytes len h =
    let p = passed bytes len h in
    let low = entries_within (raw_offset bytes) (raw_length bytes) (data_length bytes) p.0.behind in
    let len_is = p.1 in
    let there = p.0.there in
    let size : length (take len bytes) ≡ len = length-take len bytes ∙ omega arith in
    let same : status_at (take len bytes) ≡ status_at bytes =
    sym (number_at-front (take len bytes) (drop len bytes) 0 4 (omega arith)) ∙ ap (λ (xs : List ℕ). number_at xs 0 4) (take-append-drop len bytes) in
    record { long = omega arith; size_is = size; status_is = same; published = subst (λ (n : ℕ). 0 < n) (sym same) p.0.published }

-- so has every block
pub block_has_head : (value : BlockValue) (bytes : List ℕ) → IsBlock value bytes → HasHead bytes value (length bytes)
block_has_head value bytes is =
    let again = found_again value bytes [] is in
    let all : bytes ++ [] ≡ bytes = append-nil bytes in
    let found : checked bytes ≡ Ok (length bytes) = ap checked (sym all) ∙ again in
    let same : block_of (take (length bytes) bytes) ≡ value = ap block_of (take_all (length bytes) bytes (omega arith)) ∙ (reads_again value bytes is).value_is in
    subst (λ (v : BlockValue). HasHead bytes v (length bytes)) same (head_there bytes (length bytes) found)

pub whole_block : (bytes : List ℕ) → AreBytes bytes → (checked bytes ≡ Ok (length bytes)) → IsBlock (block_of bytes) bytes
whole_block bytes h w = let p = passed bytes (length bytes) w in is_block bytes h p.0 p.1

pub only_found : (bytes : List ℕ) (len : ℕ) (value : BlockValue) (n : ℕ) → checked bytes ≡ Ok len → n ≤ length bytes → IsBlock value (take n bytes) → (block_of (take len bytes) ≡ value) × (len ≡ n)
only_found bytes len value n h k is =
    let size : length (take n bytes) ≡ n = length-take n bytes ∙ omega arith in
    let again = found_again value (take n bytes) (drop n bytes) is in
    let found : checked bytes ≡ Ok n = ap checked (sym (take-append-drop n bytes)) ∙ again ∙ ap (λ (m : ℕ). Ok m) size in
    let same : ◌≡◌ {A = Result ℕ BlockError} (Ok len) (Ok n) = sym h ∙ found in
    let len_is : len ≡ n = cc in
    (ap (λ (m : ℕ). block_of (take m bytes)) len_is ∙ (reads_again value (take n bytes) is).value_is, len_is)

pub never_refused : (bytes : List ℕ) (error : BlockError) (value : BlockValue) (n : ℕ) → checked bytes ≡ Err error → n ≤ length bytes → IsBlock value (take n bytes) → ⊥
never_refused bytes error value n h k is =
    let again = found_again value (take n bytes) (drop n bytes) is in
    let found : checked bytes ≡ Ok (length (take n bytes)) = ap checked (sym (take-append-drop n bytes)) ∙ again in
    let same : ◌≡◌ {A = Result ℕ BlockError} (Err error) (Ok (length (take n bytes))) = sym h ∙ found in
    cc

-- what the methods of a block need
pub record Whole (bytes : List ℕ) (count : ℕ) : Type 0 where
  pub header : 20 ≤ length bytes
  pub content_fits : 20 + data_length bytes ≤ length bytes
  pub raw_fits : (raw_length bytes ≡ 0 → ⊥) → raw_offset bytes + raw_length bytes ≤ length bytes
  pub status_is : (block_of bytes).status ≡ status_at bytes
  pub severity_is : (block_of bytes).severity ≡ number_at bytes 16 4
  pub size_is : (block_of bytes).size ≡ length bytes
  pub raw_is : (block_of bytes).raw ≡ part bytes (raw_offset bytes) (raw_length bytes)
  pub count_is : count ≡ length (block_of bytes).entries
  pub all : All IsEntry (block_of bytes).entries
  pub spelled_is : entries_bytes (block_of bytes).entries ≡ data_of bytes

pub whole : (bytes : List ℕ) (count : ℕ) → IsReadBlock bytes count → Whole bytes count
unfolding block_of entry_count
whole bytes count w =
    let h = w.are_bytes in
    let p = passed bytes (length bytes) w.whole in
    let len_is = p.1 in
    let low = entries_within (raw_offset bytes) (raw_length bytes) (data_length bytes) p.0.behind in
    let size : length (data_of bytes) ≡ data_length bytes = length-part bytes 20 (data_length bytes) (omega arith) in
    let c = counts (data_of bytes) count (AreBytes-part bytes 20 (data_length bytes) h) w.counted_is in
    record {
      header = p.0.header;
      content_fits = omega arith;
      raw_fits = λ some. let e = cond-false (raw_length bytes == 0) (20 + data_length bytes) (raw_offset bytes + raw_length bytes) (ne_eqb (raw_length bytes) 0 some) in omega arith;
      status_is = refl;
      severity_is = refl;
      size_is = refl;
      raw_is = refl;
      count_is = c.count;
      all = c.all;
      spelled_is = c.spelled_is;
    }

-- entries one after another
entries_bytes-append : (xs ys : List EntryValue) → entries_bytes (xs ++ ys) ≡ entries_bytes xs ++ entries_bytes ys
unfolding entries_bytes
entries_bytes-append [] ys = refl
entries_bytes-append (x ∷ xs) ys = ap (λ (zs : List ℕ). entry_bytes x ++ zs) (entries_bytes-append xs ys) ∙ sym (append_assoc (entry_bytes x) (entries_bytes xs) (entries_bytes ys))

entries_bytes-cons : (x : EntryValue) (xs : List EntryValue) → entries_bytes (x ∷ xs) ≡ entry_bytes x ++ entries_bytes xs
unfolding entries_bytes
entries_bytes-cons x xs = refl

entries_bytes-nil : entries_bytes [] ≡ []
unfolding entries_bytes
entries_bytes-nil = refl

entries_bytes-one : (x : EntryValue) → length (entries_bytes (x ∷ [])) ≡ length (entry_bytes x)
entries_bytes-one x = ap length (entries_bytes-cons x []) ∙ length-append (entry_bytes x) (entries_bytes []) ∙ ap (λ (xs : List ℕ). length (entry_bytes x) + length xs) entries_bytes-nil ∙ omega arith

-- the entry of an index, and those behind it
record At (entries : List EntryValue) (index : ℕ) : Type 0 where
  pub entry : EntryValue
  pub found : slice_get entries index ≡ Some entry
  pub rest : drop index entries ≡ entry ∷ drop (index + 1) entries
  pub front : take (index + 1) entries ≡ take index entries ++ entry ∷ []

at_index : (entries : List EntryValue) (index : ℕ) → index < length entries → At entries index
at_index [] index h = absurd (omega arith)
at_index (x ∷ xs) zero h = record { entry = x; found = refl; rest = refl; front = refl }
at_index (x ∷ xs) (suc index) h =
    let a = at_index xs index (omega arith) in
    let next : suc index + 1 ≡ suc (index + 1) = omega arith in
    record {
      entry = a.entry;
      found = a.found;
      rest = a.rest ∙ ap (λ (n : ℕ). a.entry ∷ drop n (x ∷ xs)) (sym next);
      front = ap (λ (n : ℕ). take n (x ∷ xs)) next ∙ ap (λ (ys : List EntryValue). x ∷ ys) a.front;
    }

second_part : (xs ys : List ℕ) (n : ℕ) → length ys ≡ n → part (xs ++ ys) (length xs) n ≡ ys
second_part xs ys n h = part-second xs ys (length xs) n refl h

-- the entry that is made of what was read
pub entry_is : (content : List ℕ) (head : EntryHead) (body : List ℕ) → head ≡ entry_head_at content → body ≡ part content (head_size content) (number_at content 24 4)
    → ◌≡◌ {A = EntryValue} (record { head = head; body = body }) (first_entry content)
unfolding first_entry
entry_is content head body h k = rw (h, k) refl

-- what stands at a place before the end
pub record EntryThere (bytes : List ℕ) (at : ℕ) (entries : List EntryValue) : Type 0 where
  pub long : 64 ≤ length (part bytes at (20 + data_length bytes - at))
  pub fits : entry_size (part bytes at (20 + data_length bytes - at)) ≤ length (part bytes at (20 + data_length bytes - at))
  pub entry_at : EntryAt entries at (at + entry_size (part bytes at (20 + data_length bytes - at))) (first_entry (part bytes at (20 + data_length bytes - at)))

pub record PlaceIs (bytes : List ℕ) (at : ℕ) (entries : List EntryValue) : Type 0 where
  pub low : 20 ≤ at
  pub high : at ≤ 20 + data_length bytes
  pub end : place_of entries (length entries) ≡ 20 + data_length bytes
  pub there : at < 20 + data_length bytes → EntryThere bytes at entries

pub place_is : (bytes : List ℕ) (at : ℕ) (entries : List EntryValue) → 20 + data_length bytes ≤ length bytes → All IsEntry entries →
    entries_bytes entries ≡ data_of bytes → IsPlace entries at → PlaceIs bytes at entries
place_is bytes at entries fits all spelled_is p =
    let k = p.index in
    let place = p.place in
    let d = data_length bytes in
    let size : length (data_of bytes) ≡ d = length-part bytes 20 d fits in
    let split : entries_bytes entries ≡ entries_bytes (take k entries) ++ entries_bytes (drop k entries) =
    ap entries_bytes (sym (take-append-drop k entries)) ∙ entries_bytes-append (take k entries) (drop k entries) in
    let sums : d ≡ length (entries_bytes (take k entries)) + length (entries_bytes (drop k entries)) =
    sym size ∙ ap length (sym spelled_is ∙ split) ∙ length-append (entries_bytes (take k entries)) (entries_bytes (drop k entries)) in
    let all_of : take (length entries) entries ≡ entries = take_all (length entries) entries (omega arith) in
    let end : place_of entries (length entries) ≡ 20 + d = ap (λ (es : List EntryValue). 20 + length (entries_bytes es)) all_of
    ∙ ap (λ (xs : List ℕ). 20 + length xs) spelled_is ∙ ap (λ (n : ℕ). 20 + n) size in
    record {
      low = omega arith;
      high = omega arith;
      end = end;
      there = λ before.
          let not_end : k < length entries = elim (cases_lt k (length entries)) [
            | inl less ↦ less
            | inr more ↦
                let same : k ≡ length entries = let w = p.within in omega arith in
                let at_end : at ≡ 20 + d = place ∙ ap (place_of entries) same ∙ end in
                absurd (omega arith)
          ] in
          let a = at_index entries k not_end in
          let m = length (entries_bytes (take k entries)) in
          let rest = part bytes at (20 + d - at) in
          let inner : part (data_of bytes) m (d - m) ≡ rest =
          part-part bytes 20 d m (d - m) (omega arith) ∙ ap (λ (n : ℕ). part bytes n (d - m)) (sym place) ∙ ap (part bytes at) (omega arith) in
          let behind : part (data_of bytes) m (d - m) ≡ entries_bytes (drop k entries) =
          ap (λ (xs : List ℕ). part xs m (d - m)) (sym spelled_is ∙ split) ∙ second_part (entries_bytes (take k entries)) (entries_bytes (drop k entries)) (d - m) (omega arith) in
          let rest_is : rest ≡ entry_bytes a.entry ++ entries_bytes (drop (k + 1) entries) =
          sym inner ∙ behind ∙ ap entries_bytes a.rest ∙ entries_bytes-cons a.entry (drop (k + 1) entries) in
          let is : IsEntry a.entry = All-head IsEntry a.entry (drop (k + 1) entries) (subst (All IsEntry) a.rest (All-drop IsEntry k entries all)) in
          let f = first_of a.entry rest (entries_bytes (drop (k + 1) entries)) is rest_is in
          let entry_len = f.size_is in
          let pushed : length (entries_bytes (take (k + 1) entries)) ≡ m + length (entry_bytes a.entry) =
          ap (λ (es : List EntryValue). length (entries_bytes es)) a.front
          ∙ ap length (entries_bytes-append (take k entries) (a.entry ∷ []))
          ∙ length-append (entries_bytes (take k entries)) (entries_bytes (a.entry ∷ []))
          ∙ ap (λ (n : ℕ). m + n) (entries_bytes-one a.entry) in
          record {
            long = f.long;
            fits = f.fits;
            entry_at = record {
              index = k;
              found = a.found ∙ ap (λ (e : EntryValue). Some e) (sym f.entry_is);
              place = place;
              next_place = omega arith;
            };
          };
    }

-- the same, of a block that was read
pub place_in : (bytes : List ℕ) (count : ℕ) (value : BlockValue) (at : ℕ) → IsReadBlock bytes count → block_of bytes ≡ value → IsPlace value.entries at → PlaceIs bytes at value.entries
place_in bytes count value at w e p =
    let b = whole bytes count w in
    let entries = ap (λ (v : BlockValue). v.entries) e in
    place_is bytes at value.entries b.content_fits (subst (All IsEntry) entries b.all) (ap entries_bytes (sym entries) ∙ b.spelled_is) p

pub no_raw : (bytes : List ℕ) → raw_length bytes ≡ 0 → part bytes 0 0 ≡ part bytes (raw_offset bytes) (raw_length bytes)
unfolding part
no_raw bytes h = sym (ap (λ (n : ℕ). take n (drop (raw_offset bytes) bytes)) h)

-- what stands between a place and the end
pub rest_is : (bytes : List ℕ) (at : ℕ) (entries : List EntryValue) (rest : List ℕ) → length bytes < 2 ^ 64 → 20 + data_length bytes ≤ length bytes →
    PlaceIs bytes at entries → rest ≡ part bytes at (20 + data_length bytes - at) → RestAt entries at rest
rest_is bytes at entries rest small fits p e =
    let low = p.low in
    let high = p.high in
    let end = p.end in
    let size : length rest ≡ 20 + data_length bytes - at = ap length e ∙ length-part bytes at (20 + data_length bytes - at) (omega arith) in
    record {
      bound = omega arith;
      none = λ z. omega arith;
      some = λ more.
          let t = p.there (omega arith) in
          subst (λ (xs : List ℕ). (64 ≤ length xs) × (entry_size xs ≤ length xs) × EntryAt entries at (at + entry_size xs) (first_entry xs)) (sym e) (t.long, t.fits, t.entry_at);
    }

-- the first place
pub first_place : (entries : List EntryValue) → IsPlace entries 20
first_place entries = record { index = 0; within = omega arith; place = sym (ap (λ (xs : List ℕ). 20 + length xs) entries_bytes-nil) }
