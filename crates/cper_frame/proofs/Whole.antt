-- What a whole record's bytes hold: its header, and each section at its index.
use Rattle.std.proofs.Common.{◌≡◌, ℕ, zero, suc, ◌+◌, ◌-◌, ◌*◌, ◌<◌, ◌≤◌, ◌^◌, Bool, false, cond, List, ◌++◌, length, take, drop, Some, None, Result, Ok, Err, refl, sym, ap, subst, ◌∙◌, arith}
use Rattle.std.specs.Prelude.{slice_get}
use Rattle.std.proofs.lemmas.List.{take-append-drop, length-take}
use Rattle.base_model.specs.Bytes.{part, number_at, AreBytes}
use Rattle.cper_frame.specs.declared.heads.SectionHead.{SectionHead}
use Rattle.cper_frame.specs.declared.error.FrameError.{FrameError}
use Rattle.cper_frame.specs.Grammar.{SectionValue, RecordValue, bodies_from, IsRecord}
use Rattle.cper_frame.specs.Reading.{head_at, section_head_at, descriptor_at, section_at, sections_from, record_of, is_misplaced, misplaced_from, checked, IsWhole}
use Rattle.cper_frame.proofs.Checks.{Passed, passed, passes}
use Rattle.cper_frame.proofs.Sound.{none_unless, InPlace, in_place, none_is, length-sections_from, passed-front, is_record}
use Rattle.cper_frame.proofs.Complete.{found_again, reads_again}
use Rattle.cper_frame.proofs.Terms.{section_count, record_length}

-- what the methods of a record need
pub record Whole (bytes : List ℕ) : Type 0 where
  pub header : 128 ≤ length bytes
  pub heads : bodies_from (section_count bytes) ≤ length bytes
  pub head_is : (record_of bytes).head ≡ head_at bytes
  pub count : length (record_of bytes).sections ≡ section_count bytes
  pub none : misplaced_from bytes (bodies_from (section_count bytes)) (length bytes) (section_count bytes) 0 ≡ None

pub whole : (bytes : List ℕ) → IsWhole bytes → Whole bytes
unfolding record_of
whole bytes h =
    let p = passed (2 ^ 32 - 1) bytes (length bytes) h in
    let heads = p.0.heads in
    record {
      header = p.0.header;
      heads = subst (λ (n : ℕ). bodies_from (section_count bytes) ≤ n) p.1 heads;
      head_is = refl;
      count = length-sections_from bytes (section_count bytes) 0;
      none = none_is bytes p.0.sections p.1;
    }

slice_get-sections_from : (bytes : List ℕ) (n index k : ℕ) → k < n → slice_get (sections_from bytes n index) k ≡ Some (section_at bytes (index + k))
slice_get-sections_from bytes zero index k h = absurd (omega arith)
slice_get-sections_from bytes (suc n) index zero h = ap (λ (i : ℕ). Some (section_at bytes i)) (omega arith)
slice_get-sections_from bytes (suc n) index (suc k) h =
    slice_get-sections_from bytes n (index + 1) k (omega arith) ∙ ap (λ (i : ℕ). Some (section_at bytes i)) (omega arith)

in_place_from : (bytes : List ℕ) (first last n index k : ℕ) → misplaced_from bytes first last n index ≡ None → k < n → InPlace bytes first last (index + k)
in_place_from bytes first last zero index k e h = absurd (omega arith)
in_place_from bytes first last (suc n) index zero e h =
    let both = none_unless (is_misplaced bytes first last index) index (misplaced_from bytes first last n (index + 1)) e in
    subst (InPlace bytes first last) (omega arith) (in_place bytes first last index both.0)
in_place_from bytes first last (suc n) index (suc k) e h =
    let both = none_unless (is_misplaced bytes first last index) index (misplaced_from bytes first last n (index + 1)) e in
    subst (InPlace bytes first last) (omega arith) (in_place_from bytes first last n (index + 1) k both.1 (omega arith))

-- a section, at its index
pub record WholeSection (bytes : List ℕ) (index : ℕ) : Type 0 where
  pub descriptor : 128 + 72 * (index + 1) ≤ length bytes
  pub within : number_at (descriptor_at bytes index) 0 4 + number_at (descriptor_at bytes index) 4 4 ≤ length bytes
  pub read : slice_get (record_of bytes).sections index ≡ Some (section_at bytes index)

pub whole_section : (bytes : List ℕ) (index : ℕ) → IsWhole bytes → index < length (record_of bytes).sections → WholeSection bytes index
unfolding record_of
whole_section bytes index h k =
    let w = whole bytes h in
    let heads = w.heads in
    let count = length-sections_from bytes (section_count bytes) 0 in
    let low : index < section_count bytes = omega arith in
    let place = in_place_from bytes (bodies_from (section_count bytes)) (length bytes) (section_count bytes) 0 index w.none low in
    record {
      descriptor = omega arith;
      within = subst (λ (i : ℕ). number_at (descriptor_at bytes i) 0 4 + number_at (descriptor_at bytes i) 4 4 ≤ length bytes) (omega arith) place.within;
      read = slice_get-sections_from bytes (section_count bytes) 0 index low ∙ ap (λ (i : ℕ). Some (section_at bytes i)) (omega arith);
    }

-- the front that passed is a whole record
pub record Front (bytes : List ℕ) (len : ℕ) : Type 0 where
  pub within : len ≤ length bytes
  pub size : length (take len bytes) ≡ len
  pub whole : IsWhole (take len bytes)

pub front : (bytes : List ℕ) (len : ℕ) → checked (2 ^ 32 - 1) bytes ≡ Ok len → Front bytes len
front bytes len h =
    let p = passed (2 ^ 32 - 1) bytes len h in
    let len_is = p.1 in
    let there = p.0.there in
    let size : length (take len bytes) ≡ len = length-take len bytes ∙ omega arith in
    let split : take len bytes ++ drop len bytes ≡ bytes = take-append-drop len bytes in
    let again = passed-front (2 ^ 32 - 1) (take len bytes) (drop len bytes)
    (subst (Passed (2 ^ 32 - 1)) (sym split) p.0) (ap record_length split ∙ p.1 ∙ sym size) in
    record {
      within = omega arith;
      size = size;
      whole = passes (2 ^ 32 - 1) (take len bytes) again.0 ∙ ap (λ (n : ℕ). Ok n) again.1;
    }

-- a whole record is in the grammar
pub whole_record : (bytes : List ℕ) → AreBytes bytes → IsWhole bytes → IsRecord (record_of bytes) bytes
whole_record bytes h w =
    let p = passed (2 ^ 32 - 1) bytes (length bytes) w in
    is_record (2 ^ 32 - 1) bytes h p.0 p.1

-- the section that is made of what was read
pub section_is : (bytes : List ℕ) (index : ℕ) (d : List ℕ) (head : SectionHead) (offset len : ℕ) (body : List ℕ)
    → d ≡ descriptor_at bytes index → head ≡ section_head_at d → offset ≡ number_at d 0 4 → len ≡ number_at d 4 4 → body ≡ part bytes offset len
    → ◌≡◌ {A = SectionValue} (record { head = head; offset = offset; body = body }) (section_at bytes index)
unfolding section_at
section_is bytes index d head offset len body e f g h k = rw (f, k, g, h, e) refl

-- one step of the search for a misplaced section
pub misplaced_step : (bytes : List ℕ) (first last n index : ℕ) → index < n → is_misplaced bytes first last index ≡ false
    → misplaced_from bytes first last (n - (index + 1)) (index + 1) ≡ misplaced_from bytes first last (n - index) index
misplaced_step bytes first last n index h e =
    let more : n - index ≡ suc (n - (index + 1)) = omega arith in
    sym (ap (λ (m : ℕ). misplaced_from bytes first last m index) more
    ∙ ap (λ (b : Bool). cond b (Some index) (misplaced_from bytes first last (n - (index + 1)) (index + 1))) e)

-- what is a record is what was found
pub only_found : (bytes : List ℕ) (len : ℕ) (value : RecordValue) (n : ℕ) → checked (2 ^ 32 - 1) bytes ≡ Ok len → n ≤ length bytes → IsRecord value (take n bytes)
    → (record_of (take len bytes) ≡ value) × (len ≡ n)
only_found bytes len value n h k is =
    let short = is.short in
    let size : length (take n bytes) ≡ n = length-take n bytes ∙ omega arith in
    let again = found_again (2 ^ 32 - 1) value (take n bytes) (drop n bytes) is (omega arith) in
    let found : checked (2 ^ 32 - 1) bytes ≡ Ok n = ap (checked (2 ^ 32 - 1)) (sym (take-append-drop n bytes)) ∙ again ∙ ap (λ (m : ℕ). Ok m) size in
    let same : ◌≡◌ {A = Result ℕ FrameError} (Ok len) (Ok n) = sym h ∙ found in
    let len_is : len ≡ n = cc in
    (ap (λ (m : ℕ). record_of (take m bytes)) len_is ∙ (reads_again (2 ^ 32 - 1) value (take n bytes) is (omega arith)).value_is, len_is)

pub never_refused : (bytes : List ℕ) (error : FrameError) (value : RecordValue) (n : ℕ) → checked (2 ^ 32 - 1) bytes ≡ Err error → n ≤ length bytes → IsRecord value (take n bytes) → ⊥
never_refused bytes error value n h k is =
    let short = is.short in
    let again = found_again (2 ^ 32 - 1) value (take n bytes) (drop n bytes) is (omega arith) in
    let found : checked (2 ^ 32 - 1) bytes ≡ Ok (length (take n bytes)) = ap (checked (2 ^ 32 - 1)) (sym (take-append-drop n bytes)) ∙ again in
    let same : ◌≡◌ {A = Result ℕ FrameError} (Err error) (Ok (length (take n bytes))) = sym h ∙ found in
    cc
