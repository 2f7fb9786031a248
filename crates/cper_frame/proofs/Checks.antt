-- What it means that a record's checks pass, and that they see the record's own bytes alone.
use Rattle.std.proofs.Common.{◌≡◌, ℕ, ◌-◌, ◌≤◌, ◌^◌, List, length, Option, Some, None, Result, Ok, Err, cond, if◌then◌else◌, refl, ap, ◌∙◌}
use Rattle.std.proofs.lemmas.Bool.{eqb-true, ltb-false, eq-eqb, le-ltb, cond-true, cond-false}
use Rattle.std.specs.Prelude.{◌==◌, nat_lt}
use Rattle.base_model.specs.Bytes.{number_at}
use Rattle.apei_bytes.proofs.Tests.{ok_if, ok_unless}
use Rattle.cper_frame.specs.declared.error.FrameError.{FrameError}
use Rattle.cper_frame.specs.declared.error.FrameError.TheVariants.{Need, Start, End, Length, Section, Limit}
use Rattle.cper_frame.specs.Grammar.{bodies_from}
use Rattle.cper_frame.specs.Reading.{misplaced, checked}
use Rattle.cper_frame.proofs.Terms.{signature, section_count, record_length}

-- all checks of a record of at most limit bytes pass
pub record Passed (limit : ℕ) (bytes : List ℕ) : Type 0 where
  pub header : 128 ≤ length bytes
  pub start : number_at bytes 0 4 ≡ signature
  pub end : number_at bytes 6 4 ≡ 2 ^ 32 - 1
  pub heads : bodies_from (section_count bytes) ≤ record_length bytes
  pub within : record_length bytes ≤ limit
  pub there : record_length bytes ≤ length bytes
  pub sections : misplaced bytes ≡ None

-- the length where every section is in its place
abbrev pub length_if_placed : ℕ → Option ℕ → Result ℕ FrameError
length_if_placed len None = Ok len
length_if_placed len (Some index) = Err (Section index)

-- the checks of a header, in their order: the greatest length that is taken, the bytes that are there, and what the header says
unfoldable pub head_verdict : ℕ → ℕ → ℕ → ℕ → ℕ → ℕ → Option ℕ → Result ℕ FrameError
head_verdict limit have start end sections len bad =
    if start == signature
    then if end == 2 ^ 32 - 1
    then if nat_lt len (bodies_from sections) then Err (Length len)
    else if nat_lt limit len then Err (Limit len)
    else if nat_lt have len then Err (Need (len - have))
    else length_if_placed len bad
    else Err End
    else Err Start

pub Ok-length_if_placed : (n len : ℕ) (bad : Option ℕ) → length_if_placed n bad ≡ Ok len → (bad ≡ None) × (n ≡ len)
Ok-length_if_placed n len None h = (refl, cc)
Ok-length_if_placed n len (Some k) h = absurd (cc)

pub record Judged (limit have s e count n : ℕ) (bad : Option ℕ) (m : ℕ) : Type 0 where
  pub start : s ≡ signature
  pub end : e ≡ 2 ^ 32 - 1
  pub heads : bodies_from count ≤ n
  pub within : n ≤ limit
  pub there : n ≤ have
  pub sections : bad ≡ None
  pub len : n ≡ m

is_judged : (limit have start end sections n : ℕ) (bad : Option ℕ) (len : ℕ) → head_verdict limit have start end sections n bad ≡ Ok len → Judged limit have start end sections n bad len
unfolding head_verdict
is_judged limit have start end sections n bad len h =
    let a = ok_if _ _ _ _ h in
    let b = ok_if _ _ _ _ a.1 in
    let d = ok_unless _ _ _ _ b.1 in
    let f = ok_unless _ _ _ _ d.1 in
    let g = ok_unless _ _ _ _ f.1 in
    let k = Ok-length_if_placed n len bad g.1 in
    record {
      start = eqb-true start signature a.0;
      end = eqb-true end (2 ^ 32 - 1) b.0;
      heads = ltb-false n (bodies_from sections) d.0;
      within = ltb-false limit n f.0;
      there = ltb-false have n g.0;
      sections = k.0;
      len = k.1;
    }

pub passed : (limit : ℕ) (bytes : List ℕ) (len : ℕ) → checked limit bytes ≡ Ok len → Passed limit bytes × (record_length bytes ≡ len)
unfolding checked head_verdict
passed limit bytes len h =
    let a = ok_unless _ _ _ _ h in
    let j = is_judged limit (length bytes) (number_at bytes 0 4) (number_at bytes 6 4) (section_count bytes) (record_length bytes) (misplaced bytes) len a.1 in
    (record { header = ltb-false (length bytes) 128 a.0; start = j.start; end = j.end; heads = j.heads; within = j.within; there = j.there; sections = j.sections }, j.len)

-- what the header says is in order, and the bytes and the sections decide
pub header_decides : (limit have start end sections len : ℕ) (bad : Option ℕ) → start ≡ signature → end ≡ 2 ^ 32 - 1 → bodies_from sections ≤ len → len ≤ limit
    → head_verdict limit have start end sections len bad ≡ cond (nat_lt have len) (Err (Need (len - have))) (length_if_placed len bad)
unfolding head_verdict
header_decides limit have start end sections len bad starts ends heads within =
    cond-true (start == signature) _ (Err Start) (eq-eqb start signature starts)
    ∙ cond-true (end == 2 ^ 32 - 1) _ (Err End) (eq-eqb end (2 ^ 32 - 1) ends)
    ∙ cond-false (nat_lt len (bodies_from sections)) (Err (Length len)) _ (le-ltb len (bodies_from sections) heads)
    ∙ cond-false (nat_lt limit len) (Err (Limit len)) _ (le-ltb limit len within)

judges : (limit have start end sections n : ℕ) (bad : Option ℕ) → Judged limit have start end sections n bad n → head_verdict limit have start end sections n bad ≡ Ok n
judges limit have start end sections n bad j =
    header_decides limit have start end sections n bad j.start j.end j.heads j.within
    ∙ cond-false (nat_lt have n) (Err (Need (n - have))) _ (le-ltb have n j.there)
    ∙ ap (length_if_placed n) j.sections

pub passes : (limit : ℕ) (bytes : List ℕ) → Passed limit bytes → checked limit bytes ≡ Ok (record_length bytes)
unfolding checked head_verdict
passes limit bytes p =
    cond-false (nat_lt (length bytes) 128) (Err (Need (128 - length bytes))) _ (le-ltb (length bytes) 128 p.header)
    ∙ judges limit (length bytes) (number_at bytes 0 4) (number_at bytes 6 4) (section_count bytes) (record_length bytes) (misplaced bytes)
    (record { start = p.start; end = p.end; heads = p.heads; within = p.within; there = p.there; sections = p.sections; len = refl })
