-- What passes the checks is a record, and the checks see its own bytes alone.
use Rattle.std.proofs.Common.{◌≡◌, ℕ, zero, suc, ◌+◌, ◌-◌, ◌*◌, ◌<◌, ◌≤◌, ◌^◌, Bool, true, false, cond, List, ◌++◌, length, drop, Option, Some, None, refl, sym, ap, subst, ◌∙◌, arith}
use Rattle.std.specs.Prelude.{All, codes, nat_lt, ◌||◌}
use Rattle.std.proofs.lemmas.Bool.{ltb-false, or_parts}
use Rattle.std.proofs.lemmas.List.Elements.{All-nil, All-cons}
use Rattle.base_model.specs.Bytes.{part, number_at, spelled, joined, AreBytes}
use Rattle.base_model.proofs.BytesLemmas.{spelled-number_at, number_at-lt, length-part, part-append, part-append_left, part-whole, AreBytes-part}
use Rattle.cper_frame.specs.Grammar.{header, descriptors, bodies_from, IsRecordHead, IsSectionHead, IsSectionOf, IsRecord}
use Rattle.cper_frame.specs.Reading.{head_at, section_head_at, descriptor_at, section_at, sections_from, record_of, is_misplaced, misplaced_from, misplaced}
use Rattle.apei_bytes.proofs.Parts.{parts, joined-parts, number_at-front, part-append-drop}
use Rattle.cper_frame.proofs.Checks.{Passed}
use Rattle.cper_frame.proofs.Laws.{descriptor, header_sizes, descriptor_sizes}
use Rattle.cper_frame.proofs.Terms.{signature, section_count, record_length, section_in}

-- bytes that follow change no number and no test
is_misplaced-front : (bytes more : List ℕ) (first last index : ℕ) → 128 + 72 * (index + 1) ≤ length bytes → is_misplaced (bytes ++ more) first last index ≡ is_misplaced bytes first last index
unfolding is_misplaced
is_misplaced-front bytes more first last index h =
    ap (λ (d : List ℕ). nat_lt (number_at d 0 4) first || nat_lt last (number_at d 0 4 + number_at d 4 4))
    (part-append_left bytes more (128 + 72 * index) 72 (omega arith))

misplaced_from-front : (bytes more : List ℕ) (first last n index : ℕ) → 128 + 72 * (index + n) ≤ length bytes → misplaced_from (bytes ++ more) first last n
    index ≡ misplaced_from bytes first last n index
misplaced_from-front bytes more first last zero index h = refl
misplaced_from-front bytes more first last (suc n) index h =
    let here = is_misplaced-front bytes more first last index (omega arith) in
    let rest = misplaced_from-front bytes more first last n (index + 1) (omega arith) in
    rw (here, rest) refl

pub misplaced-front : (bytes more : List ℕ) → 128 ≤ length bytes → bodies_from (section_count bytes) ≤ length bytes → misplaced (bytes ++ more) ≡ misplaced bytes
unfolding misplaced
misplaced-front bytes more h k =
    let count = number_at-front bytes more 10 2 (omega arith) in
    let len = number_at-front bytes more 20 4 (omega arith) in
    ap (λ (n : ℕ). misplaced_from (bytes ++ more) (bodies_from n) (record_length (bytes ++ more)) n 0) count
    ∙ ap (λ (m : ℕ). misplaced_from (bytes ++ more) (bodies_from (section_count bytes)) m (section_count bytes) 0) len
    ∙ misplaced_from-front bytes more (bodies_from (section_count bytes)) (record_length bytes) (section_count bytes) 0 (omega arith)

-- a record that passes among more bytes passes alone
pub passed-front : (limit : ℕ) (front more : List ℕ) → Passed limit (front ++ more) → record_length (front ++ more) ≡ length front → Passed limit front × (record_length front ≡ length front)
passed-front limit front more p e =
    let heads : bodies_from (section_count (front ++ more)) ≤ length front = subst (λ (n : ℕ). bodies_from (section_count (front ++ more)) ≤ n) e p.heads in
    let long : 128 ≤ length front = omega arith in
    let start = number_at-front front more 0 4 (omega arith) in
    let end = number_at-front front more 6 4 (omega arith) in
    let count = number_at-front front more 10 2 (omega arith) in
    let len = number_at-front front more 20 4 (omega arith) in
    let fits : bodies_from (section_count front) ≤ length front = subst (λ (n : ℕ). bodies_from n ≤ length front) count heads in
    let length_is : record_length front ≡ length front = sym len ∙ e in (
      record {
        header = long;
        start = sym start ∙ p.start;
        end = sym end ∙ p.end;
        heads = omega arith;
        within = let w = p.within in omega arith;
        there = omega arith;
        sections = sym (misplaced-front front more long fits) ∙ p.sections;
      },
      length_is,
    )

-- the fields of a header, spelled again
spelled_signature : spelled 4 signature ≡ codes "CPER"
unfolding spelled
spelled_signature = refl

header_again : (bytes : List ℕ) → AreBytes bytes → 128 ≤ length bytes → number_at bytes 0 4 ≡ signature → number_at bytes 6 4 ≡ 2 ^ 32 - 1
    → header (head_at bytes) (section_count bytes) (record_length bytes) ≡ parts header_sizes 0 bytes
header_again bytes h k start end =
    let again = λ (at n : ℕ) (within : at + n ≤ 128). spelled-number_at bytes at n h (omega arith) in
    let first : part bytes 0 4 ≡ codes "CPER" = sym (again 0 4 (omega arith)) ∙ ap (spelled 4) start ∙ spelled_signature in
    let last : part bytes 6 4 ≡ spelled 4 (2 ^ 32 - 1) = sym (again 6 4 (omega arith)) ∙ ap (spelled 4) end in
    rw (
      first,
      last,
      again 4 2 (omega arith),
      again 10 2 (omega arith),
      again 12 4 (omega arith),
      again 16 4 (omega arith),
      again 20 4 (omega arith),
      again 24 8 (omega arith),
      again 96 8 (omega arith),
      again 104 4 (omega arith),
    ) refl

pub header_part : (bytes : List ℕ) → AreBytes bytes → 128 ≤ length bytes → number_at bytes 0 4 ≡ signature → number_at bytes 6 4 ≡ 2 ^ 32 - 1
    → joined (header (head_at bytes) (section_count bytes) (record_length bytes)) ≡ part bytes 0 128
header_part bytes h k start end = ap joined (header_again bytes h k start end) ∙ joined-parts header_sizes 0 bytes

pub is_record_head : (bytes : List ℕ) → AreBytes bytes → 128 ≤ length bytes → IsRecordHead (head_at bytes)
is_record_head bytes h k = record {
  revision = number_at-lt bytes 4 2 h (omega arith);
  severity = number_at-lt bytes 12 4 h (omega arith);
  validation = number_at-lt bytes 16 4 h (omega arith);
  timestamp = number_at-lt bytes 24 8 h (omega arith);
  platform = length-part bytes 32 16 (omega arith);
  partition = length-part bytes 48 16 (omega arith);
  creator = length-part bytes 64 16 (omega arith);
  notification = length-part bytes 80 16 (omega arith);
  id = number_at-lt bytes 96 8 h (omega arith);
  flags = number_at-lt bytes 104 4 h (omega arith);
  persistence = length-part bytes 108 8 (omega arith);
  reserved = length-part bytes 116 12 (omega arith);
}

pub is_section_head : (bytes : List ℕ) → AreBytes bytes → length bytes ≡ 72 → IsSectionHead (section_head_at bytes)
is_section_head bytes h k =
    let number = λ (at n : ℕ) (within : at + n ≤ 72). number_at-lt bytes at n h (omega arith) in
    let field = λ (at n : ℕ) (within : at + n ≤ 72). length-part bytes at n (omega arith) in
    record {
      revision = number 8 2 (omega arith);
      validation = number 10 1 (omega arith);
      reserved = number 11 1 (omega arith);
      flags = number 12 4 (omega arith);
      kind = field 16 16 (omega arith);
      fru = field 32 16 (omega arith);
      severity = number 48 4 (omega arith);
      fru_text = field 52 20 (omega arith);
    }

-- the fields of a descriptor, spelled again, where its body has the length that it says
descriptor_again : (bytes d : List ℕ) → AreBytes d → length d ≡ 72 → number_at d 0 4 + number_at d 4 4 ≤ length bytes → descriptor (section_in bytes d) ≡ parts descriptor_sizes 0 d
descriptor_again bytes d h k within =
    let again = λ (at n : ℕ) (low : at + n ≤ 72). spelled-number_at d at n h (omega arith) in
    let body = length-part bytes (number_at d 0 4) (number_at d 4 4) within in
    rw (body, again 0 4 (omega arith), again 4 4 (omega arith), again 8 2 (omega arith), again 10 1 (omega arith), again 11 1 (omega arith), again 12 4 (omega arith), again 48 4 (omega arith)) refl

-- a section that isn't misplaced
pub record InPlace (bytes : List ℕ) (first last index : ℕ) : Type 0 where
  pub behind : first ≤ number_at (descriptor_at bytes index) 0 4
  pub within : number_at (descriptor_at bytes index) 0 4 + number_at (descriptor_at bytes index) 4 4 ≤ last

pub in_place : (bytes : List ℕ) (first last index : ℕ) → is_misplaced bytes first last index ≡ false → InPlace bytes first last index
unfolding is_misplaced
in_place bytes first last index h =
    let d = descriptor_at bytes index in
    let both = or_parts (nat_lt (number_at d 0 4) first) (nat_lt last (number_at d 0 4 + number_at d 4 4)) h in
    record {
      behind = ltb-false (number_at d 0 4) first both.0;
      within = ltb-false last (number_at d 0 4 + number_at d 4 4) both.1;
    }

pub none_unless : (b : Bool) (k : ℕ) (rest : Option ℕ) → cond b (Some k) rest ≡ None → (b ≡ false) × (rest ≡ None)
none_unless true k rest h = absurd (cc)
none_unless false k rest h = (refl, h)

section_of : (bytes : List ℕ) (first index : ℕ) → AreBytes bytes → 128 + 72 * (index + 1) ≤ length bytes → InPlace bytes first (length bytes) index → IsSectionOf first bytes (section_at bytes index)
unfolding section_at
section_of bytes first index h k p =
    let d = descriptor_at bytes index in
    let size : length d ≡ 72 = length-part bytes (128 + 72 * index) 72 (omega arith) in
    let body = length-part bytes (number_at d 0 4) (number_at d 4 4) p.within in
    record {
      head = is_section_head d (AreBytes-part bytes (128 + 72 * index) 72 h) size;
      behind = p.behind;
      within = subst (λ (n : ℕ). number_at d 0 4 + n ≤ length bytes) (sym body) p.within;
      body = ap (part bytes (number_at d 0 4)) (sym body);
    }

sections_are : (bytes : List ℕ) (first n index : ℕ) → AreBytes bytes → 128 + 72 * (index + n) ≤ length bytes → misplaced_from bytes first (length bytes) n index ≡ None
    → All (IsSectionOf first bytes) (sections_from bytes n index)
sections_are bytes first zero index h k e = All-nil (IsSectionOf first bytes)
sections_are bytes first (suc n) index h k e =
    let both = none_unless (is_misplaced bytes first (length bytes) index) index (misplaced_from bytes first (length bytes) n (index + 1)) e in
    All-cons (IsSectionOf first bytes) (section_at bytes index) (sections_from bytes n (index + 1))
    (section_of bytes first index h (omega arith) (in_place bytes first (length bytes) index both.0))
    (sections_are bytes first n (index + 1) h (omega arith) both.1)

joined_descriptor : (bytes : List ℕ) (first index : ℕ) → AreBytes bytes → 128 + 72 * (index + 1) ≤ length bytes → InPlace bytes first (length bytes) index
    → joined (descriptor (section_at bytes index)) ≡ part bytes (128 + 72 * index) 72
unfolding section_at
joined_descriptor bytes first index h k p =
    let d = descriptor_at bytes index in
    let size : length d ≡ 72 = length-part bytes (128 + 72 * index) 72 (omega arith) in
    ap joined (descriptor_again bytes d (AreBytes-part bytes (128 + 72 * index) 72 h) size p.within)
    ∙ joined-parts descriptor_sizes 0 d
    ∙ part-whole d 72 (omega arith)

descriptors_are : (bytes : List ℕ) (first n index : ℕ) → AreBytes bytes → 128 + 72 * (index + n) ≤ length bytes → misplaced_from bytes first (length bytes) n index ≡ None
    → descriptors (sections_from bytes n index) ≡ part bytes (128 + 72 * index) (72 * n)
unfolding descriptors part
descriptors_are bytes first zero index h k e = refl
descriptors_are bytes first (suc n) index h k e =
    let both = none_unless (is_misplaced bytes first (length bytes) index) index (misplaced_from bytes first (length bytes) n (index + 1)) e in
    let here = joined_descriptor bytes first index h (omega arith) (in_place bytes first (length bytes) index both.0) in
    let place : 128 + 72 * (index + 1) ≡ 128 + 72 * index + 72 = omega arith in
    let all : 72 + 72 * n ≡ 72 * suc n = omega arith in
    let rest = descriptors_are bytes first n (index + 1) h (omega arith) both.1 in
    ap (λ (xs : List ℕ). xs ++ descriptors (sections_from bytes n (index + 1))) here
    ∙ ap (λ (xs : List ℕ). part bytes (128 + 72 * index) 72 ++ xs) (rest ∙ ap (λ (at : ℕ). part bytes at (72 * n)) place)
    ∙ part-append bytes (128 + 72 * index) 72 (72 * n)
    ∙ ap (part bytes (128 + 72 * index)) all

pub length-sections_from : (bytes : List ℕ) (n index : ℕ) → length (sections_from bytes n index) ≡ n
length-sections_from bytes zero index = refl
length-sections_from bytes (suc n) index = let e = length-sections_from bytes n (index + 1) in omega (arith, e)

pub none_is : (bytes : List ℕ) → misplaced bytes ≡ None → record_length bytes ≡ length bytes → misplaced_from bytes (bodies_from (section_count bytes)) (length bytes) (section_count bytes) 0 ≡ None
unfolding misplaced
none_is bytes h e = subst (λ (k : ℕ). misplaced_from bytes (bodies_from (section_count bytes)) k (section_count bytes) 0 ≡ None) e h

-- a whole record
pub is_record : (limit : ℕ) (bytes : List ℕ) → AreBytes bytes → Passed limit bytes → record_length bytes ≡ length bytes → IsRecord (record_of bytes) bytes
unfolding record_of
is_record limit bytes h p e =
    let n = section_count bytes in
    let count = length-sections_from bytes n 0 in
    let fits : 128 + 72 * (0 + n) ≤ length bytes = let heads = p.heads in omega arith in
    let none : misplaced_from bytes (bodies_from n) (length bytes) n 0 ≡ None = none_is bytes p.sections e in
    let few : n < 2 ^ 16 = number_at-lt bytes 10 2 h (omega (arith, p.header)) in
    let short : record_length bytes < 2 ^ 32 = number_at-lt bytes 20 4 h (omega (arith, p.header)) in
    let front = header_part bytes h p.header p.start p.end in
    let behind = descriptors_are bytes (bodies_from n) n 0 h fits none in
    record {
      few = subst (λ (k : ℕ). k < 2 ^ 16) (sym count) few;
      short = subst (λ (k : ℕ). k < 2 ^ 32) e short;
      head = is_record_head bytes h p.header;
      sections = subst (λ (k : ℕ). All (IsSectionOf (bodies_from k) bytes) (sections_from bytes n 0)) (sym count) (sections_are bytes (bodies_from n) n 0 h fits none);
      spelling = (
        drop (128 + 72 * n) bytes,
        sym (
            ap (λ (k : ℕ). joined (header (head_at bytes) k (length bytes)) ++ descriptors (sections_from bytes n 0) ++ drop (128 + 72 * n) bytes) count
            ∙ ap (λ (k : ℕ). joined (header (head_at bytes) n k) ++ descriptors (sections_from bytes n 0) ++ drop (128 + 72 * n) bytes) (sym e)
            ∙ ap (λ (xs : List ℕ). xs ++ descriptors (sections_from bytes n 0) ++ drop (128 + 72 * n) bytes) front
            ∙ ap (λ (xs : List ℕ). part bytes 0 128 ++ xs ++ drop (128 + 72 * n) bytes) behind
            ∙ ap (λ (xs : List ℕ). xs ++ drop (128 + 72 * n) bytes) (part-append bytes 0 128 (72 * n))
            ∙ part-append-drop bytes (128 + 72 * n)),
      );
    }
