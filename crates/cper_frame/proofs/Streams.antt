-- How the checks of a record's beginning change as bytes are added to it.
use Rattle.std.proofs.Common.{◌≡◌, ℕ, ◌+◌, ◌-◌, ◌<◌, ◌≤◌, ◌^◌, inl, inr, Bool, true, false, cond, List, [], ◌++◌, length, Option, Some, None, Result, Ok, Err, refl, sym, ap, ◌∙◌, arith, length-append}
use Rattle.std.specs.Prelude.{◌==◌, nat_lt}
use Rattle.std.proofs.lemmas.Bool.{eqb-true, ltb-true, ltb-false, lt-ltb, le-ltb, cond-true, cond-false, cases_Bool}
use Rattle.base_model.specs.Bytes.{number_at}
use Rattle.cper_frame.specs.declared.error.FrameError.{FrameError}
use Rattle.cper_frame.specs.declared.error.FrameError.TheVariants.{Need, Start, End, Length, Limit}
use Rattle.cper_frame.specs.Grammar.{bodies_from}
use Rattle.cper_frame.specs.Reading.{misplaced, checked}
use Rattle.cper_frame.specs.Stream.{is_need}
use Rattle.cper_frame.proofs.Checks.{length_if_placed, head_verdict, passed, header_decides}
use Rattle.apei_bytes.proofs.Parts.{number_at-front}
use Rattle.cper_frame.proofs.Sound.{misplaced-front}
use Rattle.cper_frame.proofs.Terms.{signature, section_count, record_length}

-- whether more bytes could change the answer
abbrev pub waits : Result ℕ FrameError → Bool
waits (Ok len) = false
waits (Err error) = is_need error

waits-length_if_placed : (len : ℕ) (bad : Option ℕ) → waits (length_if_placed len bad) ≡ false
waits-length_if_placed len None = refl
waits-length_if_placed len (Some index) = refl

same_branch : (a b c d f f' : Bool) (n n' p p' e1 e2 e3 e4 : Result ℕ FrameError) → waits n ≡ true
    → (a ≡ true → b ≡ true → c ≡ false → d ≡ false → f ≡ false → (f' ≡ false) × (p' ≡ p))
    → waits (cond a (cond b (cond c e1 (cond d e2 (cond f n p))) e3) e4) ≡ false
    → cond a (cond b (cond c e1 (cond d e2 (cond f' n' p'))) e3) e4 ≡ cond a (cond b (cond c e1 (cond d e2 (cond f n p))) e3) e4
same_branch false b c d f f' n n' p p' e1 e2 e3 e4 w h k = refl
same_branch true false c d f f' n n' p p' e1 e2 e3 e4 w h k = refl
same_branch true true true d f f' n n' p p' e1 e2 e3 e4 w h k = refl
same_branch true true false true f f' n n' p p' e1 e2 e3 e4 w h k = refl
same_branch true true false false true f' n n' p p' e1 e2 e3 e4 w h k = absurd (cc)
same_branch true true false false false f' n n' p p' e1 e2 e3 e4 w h k =
    let both = h refl refl refl refl refl in
    ap (λ (t : Bool). cond t n' p') both.0 ∙ both.1

judged_stays : (limit have have' s e n len : ℕ) (bad bad' : Option ℕ) → have ≤ have' → (bodies_from n ≤ len → len ≤ have → bad' ≡ bad)
    → waits (head_verdict limit have s e n len bad) ≡ false → head_verdict limit have' s e n len bad' ≡ head_verdict limit have s e n len bad
unfolding head_verdict
judged_stays limit have have' s e n len bad bad' more h k =
    same_branch (s == signature) (e == 2 ^ 32 - 1) (nat_lt len (bodies_from n)) (nat_lt limit len) (nat_lt have len) (nat_lt have' len)
    (Err (Need (len - have))) (Err (Need (len - have'))) (length_if_placed len bad) (length_if_placed len bad') (Err (Length len)) (Err (Limit len)) (Err End) (Err Start)
    refl
    (λ _ _ heads _ there.
    let low = ltb-false len (bodies_from n) heads in
    let all = ltb-false have len there in
    (le-ltb have' len (omega arith), ap (length_if_placed len) (h low all)))
    k

first_test : (b : Bool) (e : FrameError) (x : Result ℕ FrameError) → is_need e ≡ true → waits (cond b (Err e) x) ≡ false → b ≡ false
first_test true e x h k = absurd (cc)
first_test false e x h k = refl

long_enough : (limit : ℕ) (bytes : List ℕ) → waits (checked limit bytes) ≡ false → 128 ≤ length bytes
unfolding checked head_verdict
long_enough limit bytes h = ltb-false (length bytes) 128 (first_test (nat_lt (length bytes) 128) (Need (128 - length bytes)) _ refl h)

-- the checks behind the first
pub checked_long : (limit : ℕ) (bytes : List ℕ) → 128 ≤ length bytes
    → checked limit bytes ≡ head_verdict limit (length bytes) (number_at bytes 0 4) (number_at bytes 6 4) (section_count bytes) (record_length bytes) (misplaced bytes)
unfolding checked head_verdict
checked_long limit bytes h = cond-false (nat_lt (length bytes) 128) (Err (Need (128 - length bytes))) _ (le-ltb (length bytes) 128 h)

-- those of a longer list, by the numbers of its front
checked_front : (limit : ℕ) (front more : List ℕ) → 128 ≤ length front
    → checked limit (front ++ more) ≡ head_verdict limit (length (front ++ more)) (number_at front 0 4) (number_at front 6 4) (section_count front) (record_length front) (misplaced (front ++ more))
checked_front limit front more long =
    let size = length-append front more in
    let start = number_at-front front more 0 4 (omega arith) in
    let end = number_at-front front more 6 4 (omega arith) in
    let count = number_at-front front more 10 2 (omega arith) in
    let len = number_at-front front more 20 4 (omega arith) in
    checked_long limit (front ++ more) (omega arith)
    ∙ ap (λ (x : ℕ). head_verdict limit (length (front ++ more)) x (number_at (front ++ more) 6 4) (section_count (front ++ more)) (record_length (front ++ more)) (misplaced (front ++ more))) start
    ∙ ap (λ (x : ℕ). head_verdict limit (length (front ++ more)) (number_at front 0 4) x (section_count (front ++ more)) (record_length (front ++ more)) (misplaced (front ++ more))) end
    ∙ ap (λ (x : ℕ). head_verdict limit (length (front ++ more)) (number_at front 0 4) (number_at front 6 4) x (record_length (front ++ more)) (misplaced (front ++ more))) count
    ∙ ap (λ (x : ℕ). head_verdict limit (length (front ++ more)) (number_at front 0 4) (number_at front 6 4) (section_count front) x (misplaced (front ++ more))) len

-- what is decided stays decided
pub stays : (limit : ℕ) (front more : List ℕ) → waits (checked limit front) ≡ false → checked limit (front ++ more) ≡ checked limit front
stays limit front more h =
    let long = long_enough limit front h in
    let size = length-append front more in
    let here = checked_long limit front long in
    checked_front limit front more long
    ∙ judged_stays limit (length front) (length (front ++ more)) (number_at front 0 4) (number_at front 6 4) (section_count front) (record_length front) (misplaced front) (misplaced (front ++ more))
    (omega arith)
    (λ heads there. misplaced-front front more long (omega arith))
    (ap waits (sym here) ∙ h)
    ∙ sym here

-- the test that leads to a want of bytes
need_if : (b : Bool) (x : Result ℕ FrameError) (e : FrameError) (w : ℕ) → is_need e ≡ false → cond b x (Err e) ≡ Err (Need w) → (b ≡ true) × (x ≡ Err (Need w))
need_if true x e w h k = (refl, k)
need_if false x e w h k = let same : e ≡ Need w = cc in let no_need : is_need e ≡ true = ap is_need same in absurd (cc)

need_unless : (b : Bool) (x : Result ℕ FrameError) (e : FrameError) (w : ℕ) → is_need e ≡ false → cond b (Err e) x ≡ Err (Need w) → (b ≡ false) × (x ≡ Err (Need w))
need_unless true x e w h k = let same : e ≡ Need w = cc in let no_need : is_need e ≡ true = ap is_need same in absurd (cc)
need_unless false x e w h k = (refl, k)

never_needs : (len : ℕ) (bad : Option ℕ) (w : ℕ) → length_if_placed len bad ≡ Err (Need w) → ⊥
never_needs len bad w h = let a = waits-length_if_placed len bad in let b : waits (length_if_placed len bad) ≡ true = ap waits h in cc

-- a header that is right, of a record that isn't there yet
pub record Partial (limit have s e n len : ℕ) : Type 0 where
  pub start : s ≡ signature
  pub end : e ≡ 2 ^ 32 - 1
  pub heads : bodies_from n ≤ len
  pub within : len ≤ limit
  pub less : have < len

last_test : (b : Bool) (m len : ℕ) (bad : Option ℕ) (w : ℕ) → cond b (Err (Need m)) (length_if_placed len bad) ≡ Err (Need w) → (b ≡ true) × (m ≡ w)
last_test true m len bad w h = (refl, cc)
last_test false m len bad w h = absurd (never_needs len bad w h)

is_partial : (limit have s e n len : ℕ) (bad : Option ℕ) (w : ℕ) → head_verdict limit have s e n len bad ≡ Err (Need w) → Partial limit have s e n len × (len - have ≡ w)
unfolding head_verdict
is_partial limit have s e n len bad w h =
    let a = need_if (s == signature) _ Start w refl h in
    let b = need_if (e == 2 ^ 32 - 1) _ End w refl a.1 in
    let d = need_unless (nat_lt len (bodies_from n)) _ (Length len) w refl b.1 in
    let f = need_unless (nat_lt limit len) _ (Limit len) w refl d.1 in
    let g = last_test (nat_lt have len) (len - have) len bad w f.1 in (
      record { start = eqb-true s signature a.0; end = eqb-true e (2 ^ 32 - 1) b.0; heads = ltb-false len (bodies_from n) d.0; within = ltb-false limit len f.0; less = ltb-true have len g.0 },
      g.1,
    )

partial_needs : (limit have s e n len : ℕ) (bad : Option ℕ) → Partial limit have s e n len → head_verdict limit have s e n len bad ≡ Err (Need (len - have))
partial_needs limit have s e n len bad p =
    header_decides limit have s e n len bad p.start p.end p.heads p.within
    ∙ cond-true (nat_lt have len) (Err (Need (len - have))) _ (lt-ltb have len p.less)

complete_placed : (limit have s e n len : ℕ) (bad : Option ℕ) → s ≡ signature → e ≡ 2 ^ 32 - 1 → bodies_from n ≤ len → len ≤ limit → len ≤ have →
    head_verdict limit have s e n len bad ≡ length_if_placed len bad
complete_placed limit have s e n len bad start end heads within there =
    header_decides limit have s e n len bad start end heads within
    ∙ cond-false (nat_lt have len) (Err (Need (len - have))) _ (le-ltb have len there)

-- what is missing: of the header, or of the record
pub data Missing (limit : ℕ) (bytes : List ℕ) (w : ℕ) : Type 0 where
  of_header : length bytes < 128 → w ≡ 128 - length bytes → Missing limit bytes w
  of_record : 128 ≤ length bytes → Partial limit (length bytes) (number_at bytes 0 4) (number_at bytes 6 4) (section_count bytes) (record_length bytes)
      → record_length bytes - length bytes ≡ w → Missing limit bytes w

pub missing : (limit : ℕ) (bytes : List ℕ) (w : ℕ) → checked limit bytes ≡ Err (Need w) → Missing limit bytes w
unfolding checked head_verdict
missing limit bytes w h = elim (cases_Bool (nat_lt (length bytes) 128)) [
  | inl short ↦
      let e : ◌≡◌ {A = Result ℕ FrameError} (Err (Need (128 - length bytes))) (Err (Need w)) = sym (cond-true (nat_lt (length bytes) 128) _ _ short) ∙ h in
      of_header (ltb-true (length bytes) 128 short) (cc)
  | inr long ↦
      let low = ltb-false (length bytes) 128 long in
      let p = is_partial limit (length bytes) (number_at bytes 0 4) (number_at bytes 6 4) (section_count bytes) (record_length bytes) (misplaced bytes) w
      (sym (cond-false (nat_lt (length bytes) 128) _ _ long) ∙ h) in
      of_record low p.0 p.1
]

needs_header : (limit : ℕ) (bytes : List ℕ) → length bytes < 128 → checked limit bytes ≡ Err (Need (128 - length bytes))
unfolding checked head_verdict
needs_header limit bytes h = cond-true (nat_lt (length bytes) 128) _ _ (lt-ltb (length bytes) 128 h)

-- something is missing, and there is a place for it
pub record Bounds (limit : ℕ) (bytes : List ℕ) (w : ℕ) : Type 0 where
  pub some : 0 < w
  pub fits : length bytes + w ≤ limit

bounds_of : (limit : ℕ) (bytes : List ℕ) (w : ℕ) → 128 ≤ limit → Missing limit bytes w → Bounds limit bytes w
bounds_of limit bytes w h (of_header short e) = record { some = omega arith; fits = omega arith }
bounds_of limit bytes w h (of_record long p e) = let less = p.less in let within = p.within in record { some = omega arith; fits = omega arith }

pub bounds : (limit : ℕ) (bytes : List ℕ) (w : ℕ) → 128 ≤ limit → checked limit bytes ≡ Err (Need w) → Bounds limit bytes w
bounds limit bytes w h e = bounds_of limit bytes w h (missing limit bytes w e)

-- fewer bytes than are missing
still_missing : (limit : ℕ) (front more : List ℕ) (w : ℕ) → length more < w → Missing limit front w → checked limit (front ++ more) ≡ Err (Need (w - length more))
still_missing limit front more w h (of_header short e) =
    let size = length-append front more in
    needs_header limit (front ++ more) (omega arith) ∙ ap (λ (k : ℕ). Err (Need k)) (omega arith)
still_missing limit front more w h (of_record long p e) =
    let size = length-append front more in
    let less = p.less in
    checked_front limit front more long
    ∙ partial_needs limit (length (front ++ more)) (number_at front 0 4) (number_at front 6 4) (section_count front) (record_length front) (misplaced (front ++ more))
    (record { start = p.start; end = p.end; heads = p.heads; within = p.within; less = omega arith })
    ∙ ap (λ (k : ℕ). Err (Need k)) (omega arith)

pub needs_less : (limit : ℕ) (front more : List ℕ) (w : ℕ) → checked limit front ≡ Err (Need w) → length more < w → checked limit (front ++ more) ≡ Err (Need (w - length more))
needs_less limit front more w e h = still_missing limit front more w h (missing limit front w e)

-- all that was missing: the header is whole, and where the record is, it ends there
pub record Reached (limit : ℕ) (bytes : List ℕ) : Type 0 where
  pub header : 128 ≤ length bytes
  pub whole : (n : ℕ) → checked limit bytes ≡ Ok n → n ≡ length bytes

reached_of : (limit : ℕ) (front more : List ℕ) (w : ℕ) → length more ≡ w → Missing limit front w → Reached limit (front ++ more)
reached_of limit front more w h (of_header short e) =
    let size = length-append front more in
    let all : length (front ++ more) ≡ 128 = omega arith in
    record {
      header = omega arith;
      whole = λ n k.
          let p = passed limit (front ++ more) n k in
          let a = p.0.heads in
          let b = p.0.there in
          let c = p.1 in
          omega arith;
    }
reached_of limit front more w h (of_record long p e) =
    let size = length-append front more in
    let less = p.less in
    let len = number_at-front front more 20 4 (omega arith) in
    record {
      header = omega arith;
      whole = λ n k. let q = passed limit (front ++ more) n k in let c = q.1 in omega arith;
    }

pub reached : (limit : ℕ) (front more : List ℕ) (w : ℕ) → checked limit front ≡ Err (Need w) → length more ≡ w → Reached limit (front ++ more)
reached limit front more w e h = reached_of limit front more w h (missing limit front w e)

-- a record of which all is there is decided
decided_of : (limit : ℕ) (front more : List ℕ) (w : ℕ) → 128 ≤ length front → length more ≡ w → Missing limit front w → waits (checked limit (front ++ more)) ≡ false
decided_of limit front more w long h (of_header short e) = absurd (omega arith)
decided_of limit front more w long h (of_record low p e) =
    let size = length-append front more in
    let less = p.less in
    ap waits (checked_front limit front more long
    ∙ complete_placed limit (length (front ++ more)) (number_at front 0 4) (number_at front 6 4) (section_count front) (record_length front) (misplaced (front ++ more))
    p.start p.end p.heads p.within (omega arith))
    ∙ waits-length_if_placed (record_length front) (misplaced (front ++ more))

pub decided : (limit : ℕ) (front more : List ℕ) (w : ℕ) → 128 ≤ length front → checked limit front ≡ Err (Need w) → length more ≡ w → waits (checked limit (front ++ more)) ≡ false
decided limit front more w long e h = decided_of limit front more w long h (missing limit front w e)

-- nothing is held
pub nothing : (limit : ℕ) → checked limit [] ≡ Err (Need 128)
nothing limit = needs_header limit [] (omega arith)
