-- What is in the grammar passes the checks and is read again, whatever follows it.
use Rattle.std.proofs.Common.{◌≡◌, ℕ, ◌+◌, ◌*◌, ◌<◌, ◌≤◌, ◌^◌, Bool, false, cond, List, [], ◌∷◌, ◌++◌, length, Some, None, Ok, refl, sym, ap, subst, ◌∙◌, arith, length-append, append_assoc}
use Rattle.std.specs.Prelude.{All, nat_lt}
use Rattle.std.proofs.lemmas.Bool.{le-ltb}
use Rattle.std.proofs.lemmas.List.{append-nil, nil_from_length}
use Rattle.std.proofs.lemmas.List.Elements.{All-head, All-tail}
use Rattle.base_model.specs.Bytes.{part, joined}
use Rattle.base_model.proofs.BytesLemmas.{part-part, part-append_left}
use Rattle.cper_frame.specs.Grammar.{SectionValue, RecordValue, header, descriptors, bodies_from, IsSectionOf, IsRecord}
use Rattle.cper_frame.specs.Reading.{descriptor_at, section_at, sections_from, record_of, is_misplaced, misplaced_from, misplaced, checked}
use Rattle.apei_bytes.proofs.Parts.{part-first, part-second}
use Rattle.cper_frame.proofs.Checks.{Passed, passes}
use Rattle.cper_frame.proofs.Laws.{descriptor, header_reads, descriptor_reads, length-header, length-descriptor}
use Rattle.apei_bytes.proofs.Parts.{number_at-front}
use Rattle.cper_frame.proofs.Sound.{misplaced-front}
use Rattle.cper_frame.proofs.Terms.{section_count, record_length}

-- how long so many descriptors are
pub length-descriptors : (first : ℕ) (bytes : List ℕ) (sections : List SectionValue) → All (IsSectionOf first bytes) sections → length (descriptors sections) ≡ 72 * length sections
unfolding descriptors
length-descriptors first bytes [] all = refl
length-descriptors first bytes (section ∷ sections) all =
    let here = length-descriptor section ((All-head (IsSectionOf first bytes) section sections all).head) in
    let rest = length-descriptors first bytes sections (All-tail (IsSectionOf first bytes) section sections all) in
    length-append (joined (descriptor section)) (descriptors sections) ∙ omega (arith, here, rest)

-- one section at its descriptor
record Again (bytes : List ℕ) (first index : ℕ) (section : SectionValue) : Type 0 where
  pub read : section_at bytes index ≡ section
  pub in_place : is_misplaced bytes first (length bytes) index ≡ false

section_again : (bytes : List ℕ) (first index : ℕ) (section : SectionValue) → IsSectionOf first bytes section → length bytes < 2 ^ 32
    → descriptor_at bytes index ≡ joined (descriptor section) → Again bytes first index section
unfolding section_at is_misplaced
section_again bytes first index section is short e =
    let within = is.within in
    let reads = descriptor_reads section (descriptor_at bytes index) [] is.head (omega arith) (omega arith) (e ∙ sym (append-nil (joined (descriptor section)))) in
    let offset = reads.offset in
    let size = reads.length in
    let head = reads.head_is in
    let body = sym is.body in
    let low : nat_lt section.offset first ≡ false = le-ltb section.offset first is.behind in
    let high : nat_lt (length bytes) (section.offset + length section.body) ≡ false = le-ltb (length bytes) (section.offset + length section.body) within in
    record {
      read = rw (head, offset, size, body) refl;
      in_place = rw (offset, size, low, high) refl;
    }

-- the descriptors of such a part: the first, and those behind it
record Split (bytes : List ℕ) (at n : ℕ) (xs ys : List ℕ) : Type 0 where
  pub first : part bytes at 72 ≡ xs
  pub rest : part bytes (at + 72) n ≡ ys

split : (bytes : List ℕ) (at n : ℕ) (xs ys : List ℕ) → length xs ≡ 72 → length ys ≡ n → part bytes at (72 + n) ≡ xs ++ ys → Split bytes at n xs ys
split bytes at n xs ys h k e = record {
  first = sym (part-part bytes at (72 + n) 0 72 (omega arith) ∙ ap (λ (m : ℕ). part bytes m 72) (omega arith)) ∙ ap (λ (zs : List ℕ). part zs 0 72) e ∙ part-first xs ys 72 h;
  rest = sym (part-part bytes at (72 + n) 72 n (omega arith)) ∙ ap (λ (zs : List ℕ). part zs 72 n) e ∙ part-second xs ys 72 n h k;
}

record AllAgain (bytes : List ℕ) (first index : ℕ) (sections : List SectionValue) : Type 0 where
  pub read : sections_from bytes (length sections) index ≡ sections
  pub in_place : misplaced_from bytes first (length bytes) (length sections) index ≡ None

all_again : (bytes : List ℕ) (first index : ℕ) (sections : List SectionValue) → All (IsSectionOf first bytes) sections → length bytes < 2 ^ 32
    → part bytes (128 + 72 * index) (72 * length sections) ≡ descriptors sections → AllAgain bytes first index sections
unfolding descriptors
all_again bytes first index [] all short e = record { read = refl; in_place = refl }
all_again bytes first index (section ∷ sections) all short e =
    let is : IsSectionOf first bytes section = All-head (IsSectionOf first bytes) section sections all in
    let others = All-tail (IsSectionOf first bytes) section sections all in
    let more : 72 * length (section ∷ sections) ≡ 72 + 72 * length sections = omega arith in
    let next : 128 + 72 * index + 72 ≡ 128 + 72 * (index + 1) = omega arith in
    let both = split bytes (128 + 72 * index) (72 * length sections) (joined (descriptor section)) (descriptors sections)
    (length-descriptor section is.head) (length-descriptors first bytes sections others) (ap (part bytes (128 + 72 * index)) (sym more) ∙ e) in
    let here = section_again bytes first index section is short both.first in
    let rest = all_again bytes first (index + 1) sections others short (ap (λ (at : ℕ). part bytes at (72 * length sections)) (sym next) ∙ both.rest) in
    record {
      read = ap (λ (x : SectionValue). x ∷ sections_from bytes (length sections) (index + 1)) here.read ∙ ap (λ (xs : List SectionValue). section ∷ xs) rest.read;
      in_place = ap (λ (b : Bool). cond b (Some index) (misplaced_from bytes first (length bytes) (length sections) (index + 1))) here.in_place ∙ rest.in_place;
    }

behind_is : (bytes xs ys rest : List ℕ) (at n : ℕ) → length xs ≡ at → length ys ≡ n → bytes ≡ xs ++ ys ++ rest → part bytes at n ≡ ys
behind_is bytes xs ys rest at n h k e =
    ap (λ (zs : List ℕ). part zs at n) e
    ∙ part-append_left (xs ++ ys) rest at n (omega (arith, length-append xs ys))
    ∙ part-second xs ys at n h k

-- a record passes every check, and is read again
pub record ReadsAgain (limit : ℕ) (value : RecordValue) (bytes : List ℕ) : Type 0 where
  pub passes : Passed limit bytes
  pub length_is : record_length bytes ≡ length bytes
  pub value_is : record_of bytes ≡ value

pub reads_again : (limit : ℕ) (value : RecordValue) (bytes : List ℕ) → IsRecord value bytes → length bytes ≤ limit → ReadsAgain limit value bytes
unfolding record_of misplaced
reads_again limit value bytes is fits =
    let n = length value.sections in
    let front = joined (header value.head n (length bytes)) in
    let rest = is.spelling.0 in
    let e : bytes ≡ front ++ (descriptors value.sections ++ rest) = is.spelling.1 ∙ append_assoc front (descriptors value.sections) rest in
    let reads = header_reads value.head n (length bytes) bytes (descriptors value.sections ++ rest) is.head is.few is.short e in
    let size = length-header value.head n (length bytes) is.head in
    let sizes = length-descriptors (bodies_from n) bytes value.sections is.sections in
    let whole : length bytes ≡ 128 + (72 * n + length rest) =
    ap length e ∙ length-append front (descriptors value.sections ++ rest) ∙ ap (λ (k : ℕ). length front + k) (length-append (descriptors value.sections) rest) ∙ omega (arith, size, sizes) in
    let behind : part bytes 128 (72 * n) ≡ descriptors value.sections = behind_is bytes front (descriptors value.sections) rest 128 (72 * n) size sizes is.spelling.1 in
    let again = all_again bytes (bodies_from n) 0 value.sections is.sections is.short behind in
    let count = reads.count in
    let len = reads.length in
    let head = reads.head_is in
    let sections : sections_from bytes (section_count bytes) 0 ≡ value.sections = ap (λ (k : ℕ). sections_from bytes k 0) count ∙ again.read in
    record {
      passes = record {
        header = omega arith;
        start = reads.start;
        end = reads.end;
        heads = subst (λ (k : ℕ). bodies_from k ≤ record_length bytes) (sym count) (omega arith);
        within = omega arith;
        there = omega arith;
        sections =
            ap (λ (k : ℕ). misplaced_from bytes (bodies_from k) (record_length bytes) k 0) count
            ∙ ap (λ (k : ℕ). misplaced_from bytes (bodies_from n) k n 0) len
            ∙ again.in_place;
      };
      length_is = len;
      value_is = rw (head, sections) refl;
    }

-- a record passes the checks also among more bytes
pub passed-more : (limit : ℕ) (front more : List ℕ) → Passed limit front → record_length front ≡ length front → Passed limit (front ++ more) × (record_length (front ++ more) ≡ length front)
passed-more limit front more p e =
    let long = p.header in
    let fits : bodies_from (section_count front) ≤ length front = let heads = p.heads in omega arith in
    let start = number_at-front front more 0 4 (omega arith) in
    let end = number_at-front front more 6 4 (omega arith) in
    let count = number_at-front front more 10 2 (omega arith) in
    let len = number_at-front front more 20 4 (omega arith) in
    let size = length-append front more in
    let within = p.within in
    let heads = p.heads in (
      record {
        header = omega arith;
        start = start ∙ p.start;
        end = end ∙ p.end;
        heads = subst (λ (n : ℕ). bodies_from n ≤ record_length (front ++ more)) (sym count) (omega arith);
        within = omega arith;
        there = omega arith;
        sections = misplaced-front front more long fits ∙ p.sections;
      },
      len ∙ e,
    )

-- a record at the front is found
pub found_again : (limit : ℕ) (value : RecordValue) (front more : List ℕ) → IsRecord value front → length front ≤ limit → checked limit (front ++ more) ≡ Ok (length front)
found_again limit value front more is fits =
    let again = reads_again limit value front is fits in
    let p = passed-more limit front more again.passes again.length_is in
    passes limit (front ++ more) p.0 ∙ ap (λ (n : ℕ). Ok n) p.1

-- no record begins another
pub no_prefix : (value other : RecordValue) (bytes more : List ℕ) → IsRecord value bytes → IsRecord other (bytes ++ more) → more ≡ []
no_prefix value other bytes more is longer =
    let limit = length (bytes ++ more) in
    let short = reads_again (length bytes) value bytes is (omega arith) in
    let long = reads_again limit other (bytes ++ more) longer (omega arith) in
    let p = passed-more (length bytes) bytes more short.passes short.length_is in
    let a = long.length_is in
    let b = p.1 in
    let c = length-append bytes more in
    nil_from_length more (omega arith)
