-- The grammar of blocks and their reading agree, both ways.
use Rattle.std.proofs.Common.{◌≡◌, ℕ, ◌+◌, ◌-◌, ◌<◌, ◌≤◌, ◌^◌, inl, inr, true, false, cond, if◌then◌else◌, List, [], ◌∷◌, ◌++◌, length, drop, map, get_or}
use Rattle.std.proofs.Common.{Result, Ok, Err, refl, sym, ap, subst, ◌∙◌, arith, length-append, append_assoc}
use Rattle.std.specs.Prelude.{◌==◌, nat_lt}
use Rattle.std.proofs.lemmas.Bool.{cases_Bool, eqb-true, eqb-false, ltb-false, eq-eqb, ne_eqb, le-ltb, cond-true, cond-false}
use Rattle.std.proofs.lemmas.List.{nil_from_length}
use Rattle.base_model.specs.Bytes.{part, number_at, spelled, joined, AreBytes}
use Rattle.base_model.proofs.BytesLemmas.{spelled-number_at, number_at-lt, length-part, length-part-le, part-append, part-append_left, AreBytes-part, length-joined}
use Rattle.apei_bytes.proofs.Parts.{parts, joined-parts, parts_of, number_of, part-second, number_at-front, part-append-drop}
use Rattle.apei_bytes.proofs.Tests.{ok_unless}
use Rattle.ghes_block.specs.declared.error.BlockError.{BlockError}
use Rattle.ghes_block.specs.declared.error.BlockError.TheVariants.{Need, NotPublished, RawOffset}
use Rattle.ghes_block.specs.Grammar.{BlockValue, entries_bytes, RawIs, IsBlock}
use Rattle.ghes_block.proofs.Terms.{block_head}
use Rattle.ghes_block.specs.Reading.{entry_count, block_of, length_if_there, checked}
use Rattle.ghes_block.proofs.Terms.{data_of}
use Rattle.ghes_block.proofs.Terms.{entries_in}
use Rattle.ghes_block.proofs.Terms.{count_in}
use Rattle.ghes_block.proofs.Terms.{data_length}
use Rattle.ghes_block.proofs.Terms.{raw_length}
use Rattle.ghes_block.proofs.Terms.{raw_offset}
use Rattle.ghes_block.proofs.Terms.{status_at}
use Rattle.ghes_block.proofs.Walks.{counts, counts_again}
use Rattle.base_model.proofs.Terms.{total}

-- how long the block is, by its head
abbrev pub length_by : ℕ → ℕ → ℕ → ℕ
length_by offset raw data_len = cond (raw == 0) (20 + data_len) (offset + raw)

abbrev pub block_length : List ℕ → ℕ
block_length bytes = length_by (raw_offset bytes) (raw_length bytes) (data_length bytes)

-- all checks pass
pub record Passed (bytes : List ℕ) : Type 0 where
  pub header : 20 ≤ length bytes
  pub published : 0 < status_at bytes
  pub behind : (raw_length bytes == 0) ≡ false → 20 + data_length bytes ≤ raw_offset bytes
  pub there : block_length bytes ≤ length bytes
  pub count : (n : ℕ) × (entry_count bytes ≡ Ok n)

record Judged (have status offset raw data_len : ℕ) (count : Result ℕ BlockError) (len : ℕ) : Type 0 where
  pub published : 0 < status
  pub behind : (raw == 0) ≡ false → 20 + data_len ≤ offset
  pub there : length_by offset raw data_len ≤ have
  pub counted_is : (n : ℕ) × (count ≡ Ok n)
  pub len_is : length_by offset raw data_len ≡ len

-- the checks of a head, in their order
unfoldable pub head_verdict : ℕ → ℕ → ℕ → ℕ → ℕ → Result ℕ BlockError → Result ℕ BlockError
head_verdict have status offset raw data_len count =
    if status == 0 then Err NotPublished
    else if raw == 0 then length_if_there have (20 + data_len) count
    else if nat_lt offset (20 + data_len) then Err (RawOffset offset)
    else length_if_there have (offset + raw) count

abbrev length_if_counted : ℕ → Result ℕ BlockError → Result ℕ BlockError
length_if_counted len (Ok count) = Ok len
length_if_counted len (Err error) = Err error

is_counted : (n len : ℕ) (count : Result ℕ BlockError) → length_if_counted n count ≡ Ok len → ((m : ℕ) × (count ≡ Ok m)) × (n ≡ len)
is_counted n len (Ok m) h = ((m, refl), cc)
is_counted n len (Err e) h = absurd (cc)

is_judged : (have status offset raw data_len : ℕ) (count : Result ℕ BlockError) (len : ℕ) → head_verdict have status offset raw data_len count ≡ Ok len →
    Judged have status offset raw data_len count len
unfolding head_verdict
is_judged have status offset raw data_len count len h =
    let a = ok_unless _ _ _ _ h in
    let nonzero = eqb-false status 0 a.0 in
    elim (cases_Bool (raw == 0)) [
      | inl no_raw ↦
          let b : length_if_there have (20 + data_len) count ≡ Ok len = sym (cond-true (raw == 0) _ _ no_raw) ∙ a.1 in
          let d = ok_unless _ _ _ _ b in
          let f = is_counted (20 + data_len) len count d.1 in
          let size : length_by offset raw data_len ≡ 20 + data_len = cond-true (raw == 0) (20 + data_len) (offset + raw) no_raw in
          let there = ltb-false have (20 + data_len) d.0 in
          record { published = omega arith; behind = λ e. absurd (cc); there = omega arith; counted_is = f.0; len_is = size ∙ f.1 }
      | inr some ↦
          let b : cond (nat_lt offset (20 + data_len)) (Err (RawOffset offset)) (length_if_there have (offset + raw) count) ≡ Ok len = sym (cond-false (raw == 0) _ _ some) ∙ a.1 in
          let g = ok_unless _ _ _ _ b in
          let d = ok_unless _ _ _ _ g.1 in
          let f = is_counted (offset + raw) len count d.1 in
          let size : length_by offset raw data_len ≡ offset + raw = cond-false (raw == 0) (20 + data_len) (offset + raw) some in
          let there = ltb-false have (offset + raw) d.0 in
          let low = ltb-false offset (20 + data_len) g.0 in
          record { published = omega arith; behind = λ e. low; there = omega arith; counted_is = f.0; len_is = size ∙ f.1 }
    ]

pub passed : (bytes : List ℕ) (len : ℕ) → checked bytes ≡ Ok len → Passed bytes × (block_length bytes ≡ len)
unfolding checked head_verdict
passed bytes len h =
    let a = ok_unless _ _ _ _ h in
    let j = is_judged (length bytes) (status_at bytes) (raw_offset bytes) (raw_length bytes) (data_length bytes) (entry_count bytes) len a.1 in
    (record { header = ltb-false (length bytes) 20 a.0; published = j.published; behind = j.behind; there = j.there; count = j.counted_is }, j.len_is)

judges : (have status offset raw data_len : ℕ) (count : Result ℕ BlockError) → Judged have status offset raw data_len count (length_by offset raw data_len)
    → head_verdict have status offset raw data_len count ≡ Ok (length_by offset raw data_len)
unfolding head_verdict
judges have status offset raw data_len count j =
    let published = j.published in
    let there = j.there in
    cond-false (status == 0) (Err NotPublished) _ (ne_eqb status 0 (λ (z : status ≡ 0). omega arith))
    ∙ elim (cases_Bool (raw == 0)) [
      | inl no_raw ↦
          let size : length_by offset raw data_len ≡ 20 + data_len = cond-true (raw == 0) (20 + data_len) (offset + raw) no_raw in
          cond-true (raw == 0) (length_if_there have (20 + data_len) count) _ no_raw
          ∙ cond-false (nat_lt have (20 + data_len)) (Err (Need (20 + data_len - have))) _ (le-ltb have (20 + data_len) (omega arith))
          ∙ ap (length_if_counted (20 + data_len)) j.counted_is.1
          ∙ ap (λ (n : ℕ). Ok n) (sym size)
      | inr some ↦
          let size : length_by offset raw data_len ≡ offset + raw = cond-false (raw == 0) (20 + data_len) (offset + raw) some in
          cond-false (raw == 0) (length_if_there have (20 + data_len) count) _ some
          ∙ cond-false (nat_lt offset (20 + data_len)) (Err (RawOffset offset)) _ (le-ltb offset (20 + data_len) (j.behind some))
          ∙ cond-false (nat_lt have (offset + raw)) (Err (Need (offset + raw - have))) _ (le-ltb have (offset + raw) (omega arith))
          ∙ ap (length_if_counted (offset + raw)) j.counted_is.1
          ∙ ap (λ (n : ℕ). Ok n) (sym size)
    ]

pub passes : (bytes : List ℕ) → Passed bytes → checked bytes ≡ Ok (block_length bytes)
unfolding checked head_verdict
passes bytes p =
    cond-false (nat_lt (length bytes) 20) (Err (Need (20 - length bytes))) _ (le-ltb (length bytes) 20 p.header)
    ∙ judges (length bytes) (status_at bytes) (raw_offset bytes) (raw_length bytes) (data_length bytes) (entry_count bytes)
    (record { published = p.published; behind = p.behind; there = p.there; counted_is = p.count; len_is = refl })

-- the entries end within the block
pub entries_within : (offset raw data_len : ℕ) → ((raw == 0) ≡ false → 20 + data_len ≤ offset) → 20 + data_len ≤ length_by offset raw data_len
entries_within offset raw data_len h = elim (cases_Bool (raw == 0)) [
  | inl no_raw ↦ let e = cond-true (raw == 0) (20 + data_len) (offset + raw) no_raw in omega arith
  | inr some ↦ let e = cond-false (raw == 0) (20 + data_len) (offset + raw) some in let low = h some in omega arith
]

-- bytes that follow change nothing
record SameHead (front more : List ℕ) : Type 0 where
  pub status_is : status_at (front ++ more) ≡ status_at front
  pub offset_is : raw_offset (front ++ more) ≡ raw_offset front
  pub raw_is : raw_length (front ++ more) ≡ raw_length front
  pub data_is : data_length (front ++ more) ≡ data_length front
  pub length_is : block_length (front ++ more) ≡ block_length front

same_head : (front more : List ℕ) → 20 ≤ length front → SameHead front more
same_head front more h =
    let offset = number_at-front front more 4 4 (omega arith) in
    let raw = number_at-front front more 8 4 (omega arith) in
    let data_len = number_at-front front more 12 4 (omega arith) in
    record {
      status_is = number_at-front front more 0 4 (omega arith);
      offset_is = offset;
      raw_is = raw;
      data_is = data_len;
      length_is = ap (λ (n : ℕ). length_by n (raw_length (front ++ more)) (data_length (front ++ more))) offset
          ∙ ap (λ (n : ℕ). length_by (raw_offset front) n (data_length (front ++ more))) raw
          ∙ ap (λ (n : ℕ). length_by (raw_offset front) (raw_length front) n) data_len;
    }

pub same_count : (front more : List ℕ) → 20 ≤ length front → 20 + data_length front ≤ length front → entry_count (front ++ more) ≡ entry_count front
unfolding entry_count
same_count front more h k =
    let same = same_head front more h in
    let content : data_of (front ++ more) ≡ data_of front = ap (part (front ++ more) 20) same.data_is ∙ part-append_left front more 20 (data_length front) k in
    ap count_in content

-- a block that passes among more bytes passes alone
pub passed_front : (front more : List ℕ) → Passed (front ++ more) → block_length (front ++ more) ≡ length front → Passed front × (block_length front ≡ length front)
passed_front front more p e =
    let low = entries_within (raw_offset (front ++ more)) (raw_length (front ++ more)) (data_length (front ++ more)) p.behind in
    let long : 20 ≤ length front = omega arith in
    let same = same_head front more long in
    let data_is = same.data_is in
    let fits : 20 + data_length front ≤ length front = omega arith in
    let size : block_length front ≡ length front = sym same.length_is ∙ e in (
      record {
        header = long;
        published = subst (λ (n : ℕ). 0 < n) same.status_is p.published;
        behind = λ some. let b = p.behind (ap (λ (n : ℕ). n == 0) same.raw_is ∙ some) in let o = same.offset_is in omega arith;
        there = omega arith;
        count = (p.count.0, sym (same_count front more long fits) ∙ p.count.1);
      },
      size,
    )

pub passed_more : (front more : List ℕ) → Passed front → block_length front ≡ length front → Passed (front ++ more) × (block_length (front ++ more) ≡ length front)
passed_more front more p e =
    let long = p.header in
    let low = entries_within (raw_offset front) (raw_length front) (data_length front) p.behind in
    let same = same_head front more long in
    let data_is = same.data_is in
    let size = length-append front more in
    let length_is : block_length (front ++ more) ≡ length front = same.length_is ∙ e in (
      record {
        header = omega arith;
        published = subst (λ (n : ℕ). 0 < n) (sym same.status_is) p.published;
        behind = λ some. let b = p.behind (ap (λ (n : ℕ). n == 0) (sym same.raw_is) ∙ some) in let o = same.offset_is in omega arith;
        there = omega arith;
        count = (p.count.0, same_count front more long (omega arith) ∙ p.count.1);
      },
      length_is,
    )

-- the fields of a head, spelled again
abbrev pub head_sizes : List ℕ
head_sizes = 4 ∷ 4 ∷ 4 ∷ 4 ∷ 4 ∷ []

pub head_sized : (status offset raw data_len severity : ℕ) → map length (block_head status offset raw data_len severity) ≡ head_sizes
unfolding spelled
head_sized status offset raw data_len severity = refl

pub length-head : (status offset raw data_len severity : ℕ) → length (joined (block_head status offset raw data_len severity)) ≡ 20
length-head status offset raw data_len severity = length-joined (block_head status offset raw data_len severity) ∙ ap total (head_sized status offset raw data_len severity)

head_part : (bytes : List ℕ) → AreBytes bytes → 20 ≤ length bytes
    → joined (block_head (status_at bytes) (raw_offset bytes) (raw_length bytes) (data_length bytes) (number_at bytes 16 4)) ≡ part bytes 0 20
head_part bytes h k =
    let again = λ (at m : ℕ) (low : at + m ≤ 20). spelled-number_at bytes at m h (omega arith) in
    let a0 = again 0 4 (omega arith) in
    let a4 = again 4 4 (omega arith) in
    let a8 = again 8 4 (omega arith) in
    let a12 = again 12 4 (omega arith) in
    let a16 = again 16 4 (omega arith) in
    let fields : block_head (status_at bytes) (raw_offset bytes) (raw_length bytes) (data_length bytes) (number_at bytes 16 4) ≡ parts head_sizes 0 bytes = rw (a0, a4, a8, a12, a16) refl in
    ap joined fields ∙ joined-parts head_sizes 0 bytes

raw_is : (bytes raw : List ℕ) (offset n data_len : ℕ) → raw ≡ part bytes offset n → length raw ≡ n → ((n == 0) ≡ false → 20 + data_len ≤ offset) →
    length_by offset n data_len ≡ length bytes → RawIs bytes raw offset data_len
raw_is bytes [] offset n data_len e size behind len =
    let zero_is : (n == 0) ≡ true = eq-eqb n 0 (sym size) in
    sym len ∙ cond-true (n == 0) (20 + data_len) (offset + n) zero_is
raw_is bytes (byte ∷ raw) offset n data_len e size behind len =
    let some : (n == 0) ≡ false = ne_eqb n 0 (λ (z : n ≡ 0). omega arith) in
    (behind some, sym len ∙ cond-false (n == 0) (20 + data_len) (offset + n) some ∙ ap (λ (m : ℕ). offset + m) (sym size), e ∙ ap (part bytes offset) (sym size))

raw_size : (bytes : List ℕ) (offset n data_len : ℕ) → length_by offset n data_len ≡ length bytes → length (part bytes offset n) ≡ n
raw_size bytes offset n data_len len = elim (cases_Bool (n == 0)) [
  | inl none ↦ let z = eqb-true n 0 none in let low = length-part-le bytes offset n in omega arith
  | inr some ↦ length-part bytes offset n (let e = cond-false (n == 0) (20 + data_len) (offset + n) some in omega arith)
]

-- a whole block is in the grammar
pub is_block : (bytes : List ℕ) → AreBytes bytes → Passed bytes → block_length bytes ≡ length bytes → IsBlock (block_of bytes) bytes
unfolding block_of entry_count
is_block bytes h p e =
    let n = data_length bytes in
    let low = entries_within (raw_offset bytes) (raw_length bytes) n p.behind in
    let size : length (data_of bytes) ≡ n = length-part bytes 20 n (omega arith) in
    let c = counts (data_of bytes) p.count.0 (AreBytes-part bytes 20 n h) p.count.1 in
    let spelled_is = c.spelled_is in
    let data_is : length (entries_bytes (entries_in (data_of bytes))) ≡ n = ap length spelled_is ∙ size in
    let raw = raw_size bytes (raw_offset bytes) (raw_length bytes) n e in
    let long = p.header in
    let small : n < 2 ^ 32 = number_at-lt bytes 12 4 h (omega arith) in
    let raw_small : raw_length bytes < 2 ^ 32 = number_at-lt bytes 8 4 h (omega arith) in
    record {
      published = p.published;
      status = number_at-lt bytes 0 4 h (omega arith);
      severity = number_at-lt bytes 16 4 h (omega arith);
      entries = c.all;
      data_short = subst (λ (m : ℕ). m < 2 ^ 32) (sym data_is) small;
      raw = subst (λ (m : ℕ). m < 2 ^ 32) (sym raw) raw_small;
      size = refl;
      spelling = (
        raw_offset bytes,
        drop (20 + n) bytes,
        number_at-lt bytes 4 4 h (omega arith),
        sym (
            ap (λ (m : ℕ). joined (block_head (status_at bytes) (raw_offset bytes) m (length (entries_bytes (entries_in (data_of bytes))))
            (number_at bytes 16 4)) ++ entries_bytes (entries_in (data_of bytes)) ++ drop (20 + n) bytes) raw
            ∙ ap (λ (m : ℕ). joined (block_head (status_at bytes) (raw_offset bytes) (raw_length bytes) m (number_at bytes 16 4)) ++ entries_bytes
            (entries_in (data_of bytes)) ++ drop (20 + n) bytes) data_is
            ∙ ap (λ (xs : List ℕ). xs ++ entries_bytes (entries_in (data_of bytes)) ++ drop (20 + n) bytes) (head_part bytes h long)
            ∙ ap (λ (xs : List ℕ). part bytes 0 20 ++ xs ++ drop (20 + n) bytes) spelled_is
            ∙ ap (λ (xs : List ℕ). xs ++ drop (20 + n) bytes) (part-append bytes 0 20 n)
            ∙ part-append-drop bytes (20 + n)),
        subst (λ (m : ℕ). RawIs bytes (part bytes (raw_offset bytes) (raw_length bytes)) (raw_offset bytes) m) (sym data_is)
            (raw_is bytes (part bytes (raw_offset bytes) (raw_length bytes)) (raw_offset bytes) (raw_length bytes) n refl raw p.behind e),
      );
    }

-- the raw data of a block
record RawReads (bytes raw : List ℕ) (offset data_len : ℕ) : Type 0 where
  pub len_is : length_by offset (length raw) data_len ≡ length bytes
  pub part_is : part bytes offset (length raw) ≡ raw
  pub behind : (length raw == 0) ≡ false → 20 + data_len ≤ offset

no_part : (bytes : List ℕ) (at : ℕ) → part bytes at 0 ≡ []
unfolding part
no_part bytes at = refl

raw_reads : (bytes raw : List ℕ) (offset data_len : ℕ) → RawIs bytes raw offset data_len → RawReads bytes raw offset data_len
raw_reads bytes [] offset data_len h = record { len_is = sym h; part_is = no_part bytes offset; behind = λ (e : true ≡ false). absurd (cc) }
raw_reads bytes (byte ∷ raw) offset data_len h =
    let some : (length (byte ∷ raw) == 0) ≡ false = ne_eqb (length (byte ∷ raw)) 0 (λ (z : length (byte ∷ raw) ≡ 0). omega arith) in
    record { len_is = cond-false (length (byte ∷ raw) == 0) (20 + data_len) (offset + length (byte ∷ raw)) some ∙ sym h.1; part_is = sym h.2; behind = λ e. h.0 }

-- what is in the grammar passes, and is read again
pub record ReadsAgain (value : BlockValue) (bytes : List ℕ) : Type 0 where
  pub passes : Passed bytes
  pub length_is : block_length bytes ≡ length bytes
  pub value_is : block_of bytes ≡ value

pub reads_again : (value : BlockValue) (bytes : List ℕ) → IsBlock value bytes → ReadsAgain value bytes
unfolding block_of entry_count
reads_again value bytes is =
    let content = entries_bytes value.entries in
    let n = length content in
    let offset = is.spelling.0 in
    let rest = is.spelling.1 in
    let head = block_head value.status offset (length value.raw) n value.severity in
    let split : bytes ≡ joined head ++ content ++ rest = is.spelling.3 in
    let regrouped : bytes ≡ joined head ++ (content ++ rest) = split ∙ append_assoc (joined head) content rest in
    let long = length-head value.status offset (length value.raw) n value.severity in
    let fields : parts head_sizes 0 bytes ≡ head = parts_of head head_sizes (content ++ rest) bytes (head_sized value.status offset (length value.raw) n value.severity) regrouped in
    let field = λ (k : ℕ). ap (λ (xss : List (List ℕ)). get_or xss k []) fields in
    let status = number_of bytes 0 4 value.status (field 0) is.status in
    let offset_is = number_of bytes 4 4 offset (field 1) is.spelling.2 in
    let raw_is = number_of bytes 8 4 (length value.raw) (field 2) is.raw in
    let data_is = number_of bytes 12 4 n (field 3) is.data_short in
    let severity = number_of bytes 16 4 value.severity (field 4) is.severity in
    let all : length bytes ≡ 20 + (n + length rest) = ap length regrouped ∙ length-append (joined head) (content ++ rest)
    ∙ ap (λ (k : ℕ). length (joined head) + k) (length-append content rest) ∙ omega arith in
    let content_is : data_of bytes ≡ content =
    ap (part bytes 20) data_is ∙ ap (λ (xs : List ℕ). part xs 20 n) split ∙ part-append_left (joined head ++ content) rest 20 n
    (omega (arith, length-append (joined head) content)) ∙ part-second (joined head) content 20 n long refl in
    let c = counts_again value.entries content is.entries refl in
    let raw = raw_reads bytes value.raw offset n is.spelling.4 in
    let raw_part = raw.part_is in
    let size : block_length bytes ≡ length bytes =
    ap (λ (k : ℕ). length_by k (raw_length bytes) (data_length bytes)) offset_is
    ∙ ap (λ (k : ℕ). length_by offset k (data_length bytes)) raw_is
    ∙ ap (λ (k : ℕ). length_by offset (length value.raw) k) data_is
    ∙ raw.len_is in
    let published = is.published in
    let entries : entries_in (data_of bytes) ≡ value.entries = ap entries_in content_is ∙ c.read in
    let whole_size = sym is.size in
    record {
      passes = record {
        header = omega arith;
        published = subst (λ (k : ℕ). 0 < k) (sym status) published;
        behind = λ some. let b = raw.behind (ap (λ (k : ℕ). k == 0) (sym raw_is) ∙ some) in omega arith;
        there = omega arith;
        count = (length value.entries, ap count_in content_is ∙ c.count);
      };
      length_is = size;
      value_is = rw (status, severity, entries, offset_is, raw_is, raw_part, whole_size) refl;
    }

-- a block at the front is found
pub found_again : (value : BlockValue) (front more : List ℕ) → IsBlock value front → checked (front ++ more) ≡ Ok (length front)
found_again value front more is =
    let again = reads_again value front is in
    let p = passed_more front more again.passes again.length_is in
    passes (front ++ more) p.0 ∙ ap (λ (n : ℕ). Ok n) p.1

-- no block begins another
pub no_prefix : (value other : BlockValue) (bytes more : List ℕ) → IsBlock value bytes → IsBlock other (bytes ++ more) → more ≡ []
no_prefix value other bytes more is longer =
    let short = reads_again value bytes is in
    let long = reads_again other (bytes ++ more) longer in
    let p = passed_more bytes more short.passes short.length_is in
    let a = long.length_is in
    let b = p.1 in
    let c = length-append bytes more in
    nil_from_length more (omega arith)
