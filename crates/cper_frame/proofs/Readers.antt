-- What a reader holds while a piece is taken.
use Rattle.std.proofs.Common.{◌≡◌, ℕ, ◌+◌, ◌-◌, ◌<◌, ◌≤◌, ◌^◌, inl, inr, Bool, true, false, cond, List, [], ◌++◌, length, take, drop, min, Option, None, Result}
use Rattle.std.proofs.Common.{Ok, Err, refl, sym, ap, subst, ◌∙◌, arith, length-append, append_assoc, nat_cmp}
use Rattle.std.specs.Prelude.{◌==◌, is_ok}
use Rattle.std.specs.Ordering.{ord_min}
use Rattle.std.proofs.lemmas.Bool.{eq-eqb, ne_eqb, cond-true, cond-false, cases_lt, cases_eq}
use Rattle.std.proofs.lemmas.Bool.Decides.{nat_tests}
use Rattle.std.proofs.lemmas.List.{append-nil, take-append-drop, length-take, length-drop, take_all, take_at, drop_all}
use Rattle.cper_frame.specs.declared.error.FrameError.{FrameError}
use Rattle.cper_frame.specs.declared.error.FrameError.TheVariants.{Need, Start, End, Length, Section, Limit}
use Rattle.cper_frame.specs.declared.fed.Fed.{Fed}
use Rattle.cper_frame.specs.Reading.{checked}
use Rattle.cper_frame.specs.Stream.{Reader, IsReader, is_need, missing_by, reader_holding, reader_failing, feed_result_by, feed_result, fill_result}
use Rattle.cper_frame.proofs.Checks.{Passed, passed, passes}
use Rattle.cper_frame.proofs.Streams.{waits, stays, bounds, needs_less, Reached, reached, decided, nothing}
use Rattle.cper_frame.proofs.Terms.{fill_result_by}

pub ord_min-min : (a b : ℕ) → ord_min nat_cmp a b ≡ min a b
ord_min-min a b = grind (arith, nat_tests)

-- the state, with something missing and with nothing
pub needs : (limit missing : ℕ) (held : List ℕ) → checked limit held ≡ cond (missing == 0) (Ok (length held)) (Err (Need missing)) → 0 < missing → checked limit held ≡ Err (Need missing)
needs limit missing held h k = h ∙ cond-false (missing == 0) (Ok (length held)) (Err (Need missing)) (ne_eqb missing 0 (λ (e : missing ≡ 0). omega arith))

pub is_whole : (limit missing : ℕ) (held : List ℕ) → checked limit held ≡ cond (missing == 0) (Ok (length held)) (Err (Need missing)) → missing ≡ 0 → checked limit held ≡ Ok (length held)
is_whole limit missing held h k = h ∙ cond-true (missing == 0) (Ok (length held)) (Err (Need missing)) (eq-eqb missing 0 k)

some_missing : (missing : ℕ) (a b : Result ℕ FrameError) → 0 < missing → b ≡ cond (missing == 0) a b
some_missing missing a b h = sym (cond-false (missing == 0) a b (ne_eqb missing 0 (λ (e : missing ≡ 0). omega arith)))

none_missing : (missing : ℕ) (a b : Result ℕ FrameError) → missing ≡ 0 → a ≡ cond (missing == 0) a b
none_missing missing a b h = sym (cond-true (missing == 0) a b (eq-eqb missing 0 h))

-- fewer bytes came than are missing
pub grown : (limit : ℕ) (held more : List ℕ) (capacity capacity' missing count : ℕ) → IsReader limit held capacity missing → length more ≡ count → count < missing → capacity ≤ capacity'
    → IsReader limit (held ++ more) capacity' (missing - count)
grown limit held more capacity capacity' missing count is e less room =
    let header = is.header in
    let old = is.room in
    let within = is.within in
    let size = length-append held more in
    record {
      header = header;
      short = is.short;
      room = omega arith;
      within = omega arith;
      state =
          needs_less limit held more missing (needs limit missing held is.state (omega arith)) (omega arith)
          ∙ ap (λ (n : ℕ). Err (Need (missing - n))) e
          ∙ some_missing (missing - count) (Ok (length (held ++ more))) (Err (Need (missing - count))) (omega arith);
    }

-- the missing bytes came, and the record is whole
pub grown_whole : (limit : ℕ) (held more : List ℕ) (capacity capacity' missing count len : ℕ) → IsReader limit held capacity missing → length more ≡ count →
    0 < count → count ≤ missing → missing - count ≡ 0 → capacity ≤ capacity'
    → checked limit (held ++ more) ≡ Ok len → IsReader limit (held ++ more) capacity' (missing - count)
grown_whole limit held more capacity capacity' missing count len is e some fits all room h =
    let old = is.room in
    let within = is.within in
    let size = length-append held more in
    let r = reached limit held more missing (needs limit missing held is.state (omega arith)) (omega arith) in
    record {
      header = is.header;
      short = is.short;
      room = omega arith;
      within = omega arith;
      state =
          h
          ∙ ap (λ (n : ℕ). Ok n) (r.whole len h)
          ∙ none_missing (missing - count) (Ok (length (held ++ more))) (Err (Need (missing - count))) all;
    }

-- the missing bytes came, and more are missing
pub grown_needs : (limit : ℕ) (held more : List ℕ) (capacity capacity' missing next : ℕ) → IsReader limit held capacity missing → capacity ≤ capacity'
    → checked limit (held ++ more) ≡ Err (Need next) → IsReader limit (held ++ more) capacity' next
grown_needs limit held more capacity capacity' missing next is room h =
    let old = is.room in
    let b = bounds limit (held ++ more) next is.header h in
    let some = b.some in
    record {
      header = is.header;
      short = is.short;
      room = omega arith;
      within = b.fits;
      state = h ∙ some_missing next (Ok (length (held ++ more))) (Err (Need next)) some;
    }

-- nothing is held
pub emptied : (limit : ℕ) (held : List ℕ) (capacity capacity' missing : ℕ) → IsReader limit held capacity missing → capacity ≤ capacity' → IsReader limit [] capacity' 128
emptied limit held capacity capacity' missing is room =
    let header = is.header in
    let old = is.room in
    record { header = header; short = is.short; room = omega arith; within = omega arith; state = nothing limit }

pub empty : (limit capacity : ℕ) → 128 ≤ limit → limit < 2 ^ 32 → capacity ≡ limit → IsReader limit [] capacity 128
empty limit capacity header short room = record { header = header; short = short; room = omega arith; within = omega arith; state = nothing limit }

-- `fill` where it leaves something missing
pub filled_less : (limit : ℕ) (held piece : List ℕ) (capacity missing count : ℕ) → IsReader limit held capacity missing → count ≡ min missing (length piece) → count < missing
    → fill_result (record { limit = limit; held = held; failed = None }) piece ≡ (record { limit = limit; held = held ++ take count piece; failed = None }, Ok count)
filled_less limit held piece capacity missing count is e less =
    let reader : Reader = record { limit = limit; held = held; failed = None } in
    let state = needs limit missing held is.state (omega arith) in
    let size : length (take count piece) ≡ count = length-take count piece ∙ omega arith in
    let after = needs_less limit held (take count piece) missing state (omega arith) in
    let count_is : min (missing_by (checked limit held)) (length piece) ≡ count = ap (λ (r : Result ℕ FrameError). min (missing_by r) (length piece)) state ∙ sym e in
    ap (λ (n : ℕ). fill_result_by reader (held ++ take n piece) n (checked limit (held ++ take n piece))) count_is
    ∙ ap (fill_result_by reader (held ++ take count piece) count) after

-- what a result can be
pub data Cases (r : Result ℕ FrameError) : Type 0 where
  at_ok : (n : ℕ) → r ≡ Ok n → Cases r
  at_need : (w : ℕ) → r ≡ Err (Need w) → Cases r
  at_err : (e : FrameError) → r ≡ Err e → is_need e ≡ false → Cases r

error_cases : (e : FrameError) → Cases (Err e)
error_cases (Need w) = at_need w refl
error_cases Start = at_err Start refl refl
error_cases End = at_err End refl refl
error_cases (Length found) = at_err (Length found) refl refl
error_cases (Section index) = at_err (Section index) refl refl
error_cases (Limit found) = at_err (Limit found) refl refl

pub cases : (r : Result ℕ FrameError) → Cases r
cases (Ok n) = at_ok n refl
cases (Err e) = error_cases e

-- a reader that holds these bytes
abbrev holds : ℕ → List ℕ → Reader
holds limit held = record { limit = limit; held = held; failed = None }

-- what a piece does, by the bytes that decide it
fed_ok : (limit : ℕ) (held piece front rest : List ℕ) (n m : ℕ) → checked limit front ≡ Ok n → n ≡ length front → held ++ piece ≡ front ++ rest → length front ≡ length held + m
    → feed_result (holds limit held) piece ≡ (holds limit front, Ok (record { taken = m; whole = true }))
fed_ok limit held piece front rest n m h e split size =
    let whole : checked limit (held ++ piece) ≡ Ok n = ap (checked limit) split ∙ stays limit front rest (ap waits h) ∙ h in
    let bytes : take n (held ++ piece) ≡ front = ap (take n) split ∙ take_at front rest n (sym e) in
    let count : n - length held ≡ m = omega arith in
    ap (feed_result_by (holds limit held) piece) whole
    ∙ ap (λ (xs : List ℕ). (holds limit xs, Ok (record { taken = n - length held; whole = true }))) bytes
    ∙ ap (λ (k : ℕ). (holds limit front, Ok (record { taken = k; whole = true }))) count

fed_err : (limit : ℕ) (held piece front rest : List ℕ) (e : FrameError) → checked limit front ≡ Err e → is_need e ≡ false → held ++ piece ≡ front ++ rest
    → feed_result (holds limit held) piece ≡ (reader_failing (holds limit held) e, Err e)
fed_err limit held piece front rest e h k split =
    let refused : checked limit (held ++ piece) ≡ Err e = ap (checked limit) split ∙ stays limit front rest (ap waits h ∙ k) ∙ h in
    ap (feed_result_by (holds limit held) piece) refused
    ∙ ap (λ (b : Bool). cond b (reader_holding (holds limit held) (held ++ piece), Ok (record { taken = length piece; whole = false })) (reader_failing (holds limit held) e, Err e)) k

fed_need : (limit : ℕ) (held piece : List ℕ) (w : ℕ) → checked limit (held ++ piece) ≡ Err (Need w)
    → feed_result (holds limit held) piece ≡ (holds limit (held ++ piece), Ok (record { taken = length piece; whole = false }))
fed_need limit held piece w h = ap (feed_result_by (holds limit held) piece) h

-- what a fill does
fill_none : (limit : ℕ) (held piece : List ℕ) → checked limit held ≡ Ok (length held) → fill_result (holds limit held) piece ≡ (holds limit held, Ok 0)
fill_none limit held piece h =
    let count : min (missing_by (checked limit held)) (length piece) ≡ 0 = ap (λ (r : Result ℕ FrameError). min (missing_by r) (length piece)) h ∙ omega arith in
    ap (λ (n : ℕ). fill_result_by (holds limit held) (held ++ take n piece) n (checked limit (held ++ take n piece))) count
    ∙ ap (λ (xs : List ℕ). fill_result_by (holds limit held) xs 0 (checked limit xs)) (append-nil held)
    ∙ ap (fill_result_by (holds limit held) held 0) h

fill_empty : (limit : ℕ) (held : List ℕ) (w : ℕ) → checked limit held ≡ Err (Need w) → fill_result (holds limit held) [] ≡ (holds limit held, Ok 0)
fill_empty limit held w h =
    let count : min (missing_by (checked limit held)) 0 ≡ 0 = omega arith in
    ap (λ (n : ℕ). fill_result_by (holds limit held) (held ++ take n []) n (checked limit (held ++ take n []))) count
    ∙ ap (λ (xs : List ℕ). fill_result_by (holds limit held) xs 0 (checked limit xs)) (append-nil held)
    ∙ ap (fill_result_by (holds limit held) held 0) h

fill_less : (limit : ℕ) (held piece : List ℕ) (w : ℕ) → checked limit held ≡ Err (Need w) → length piece < w → fill_result (holds limit held) piece ≡ (holds limit (held ++ piece), Ok (length piece))
fill_less limit held piece w h less =
    let count : min (missing_by (checked limit held)) (length piece) ≡ length piece = ap (λ (r : Result ℕ FrameError). min (missing_by r) (length piece)) h ∙ omega arith in
    ap (λ (n : ℕ). fill_result_by (holds limit held) (held ++ take n piece) n (checked limit (held ++ take n piece))) count
    ∙ ap (λ (xs : List ℕ). fill_result_by (holds limit held) (held ++ xs) (length piece) (checked limit (held ++ xs))) (take_all (length piece) piece (omega arith))
    ∙ ap (fill_result_by (holds limit held) (held ++ piece) (length piece)) (needs_less limit held piece w h less)

fill_all : (limit : ℕ) (held piece : List ℕ) (w : ℕ) → checked limit held ≡ Err (Need w) → w ≤ length piece
    → fill_result (holds limit held) piece ≡ fill_result_by (holds limit held) (held ++ take w piece) w (checked limit (held ++ take w piece))
fill_all limit held piece w h all =
    let count : min (missing_by (checked limit held)) (length piece) ≡ w = ap (λ (r : Result ℕ FrameError). min (missing_by r) (length piece)) h ∙ omega arith in
    ap (λ (n : ℕ). fill_result_by (holds limit held) (held ++ take n piece) n (checked limit (held ++ take n piece))) count

-- two fills
abbrev pub after_second : ℕ → Reader × Result ℕ FrameError → Reader × Result Fed FrameError
after_second first (reader, Ok second) = (reader, Ok (record { taken = first + second; whole = is_ok (checked reader.limit reader.held) }))
after_second first (reader, Err error) = (reader, Err error)

abbrev pub after_first : List ℕ → Reader × Result ℕ FrameError → Reader × Result Fed FrameError
after_first piece (reader, Ok first) = after_second first (fill_result reader (drop first piece))
after_first piece (reader, Err error) = (reader, Err error)

regroup : (held piece : List ℕ) (w : ℕ) → held ++ piece ≡ (held ++ take w piece) ++ drop w piece
regroup held piece w = sym (append_assoc held (take w piece) (drop w piece) ∙ ap (λ (xs : List ℕ). held ++ xs) (take-append-drop w piece))

second_end : (limit : ℕ) (held piece front last rest : List ℕ) (w k : ℕ) → waits (checked limit last) ≡ false → Reached limit last → held ++ piece ≡ last ++ rest → length last ≡ length held + (w + k)
    → Cases (checked limit last) → after_second w (fill_result_by (holds limit front) last k (checked limit last)) ≡ feed_result (holds limit held) piece
second_end limit held piece front last rest w k known end split size (at_ok n e) =
    let whole : is_ok (checked limit last) ≡ true = ap (λ (r : Result ℕ FrameError). is_ok r) e in
    ap (λ (r : Result ℕ FrameError). after_second w (fill_result_by (holds limit front) last k r)) e
    ∙ ap (λ (b : Bool). (holds limit last, Ok (record { taken = w + k; whole = b }))) whole
    ∙ sym (fed_ok limit held piece last rest n (w + k) e (end.whole n e) split size)
second_end limit held piece front last rest w k known end split size (at_need n e) =
    let waiting : waits (checked limit last) ≡ true = ap waits e in absurd (cc)
second_end limit held piece front last rest w k known end split size (at_err error e no_need) =
    ap (λ (r : Result ℕ FrameError). after_second w (fill_result_by (holds limit front) last k r)) e
    ∙ ap (λ (b : Bool). after_second w (cond b (reader_holding (holds limit front) last, Ok k) (reader_failing (holds limit front) error, Err error))) no_need
    ∙ sym (fed_err limit held piece last rest error e no_need split)

-- the second fill, behind a header that is whole
second_fill : (limit : ℕ) (held piece front rest : List ℕ) (w k : ℕ) → checked limit front ≡ Err (Need k) → 128 ≤ length front → held ++ piece ≡ front ++ rest →
    length front ≡ length held + w → length piece ≡ w + length rest
    → after_second w (fill_result (holds limit front) rest) ≡ feed_result (holds limit held) piece
second_fill limit held piece front rest w k h long split size all = elim (cases_lt (length rest) k) [
  | inl less ↦
      let needed = needs_less limit front rest k h less in
      let whole : is_ok (checked limit (front ++ rest)) ≡ false = ap (λ (r : Result ℕ FrameError). is_ok r) needed in
      ap (after_second w) (fill_less limit front rest k h less)
      ∙ ap (λ (b : Bool). (holds limit (front ++ rest), Ok (record { taken = w + length rest; whole = b }))) whole
      ∙ ap (λ (n : ℕ). (holds limit (front ++ rest), Ok (record { taken = n; whole = false }))) (sym all)
      ∙ ap (λ (xs : List ℕ). (holds limit xs, Ok (record { taken = length piece; whole = false }))) (sym split)
      ∙ sym (fed_need limit held piece (k - length rest) (ap (checked limit) split ∙ needed))
  | inr enough ↦
      let last = front ++ take k rest in
      let taken : length (take k rest) ≡ k = length-take k rest ∙ omega arith in
      let long_last : length last ≡ length held + (w + k) = length-append front (take k rest) ∙ omega arith in
      let again : held ++ piece ≡ last ++ drop k rest = split ∙ regroup front rest k in
      let known = decided limit front (take k rest) k long h taken in
      let end = reached limit front (take k rest) k h taken in
      ap (after_second w) (fill_all limit front rest k h enough)
      ∙ second_end limit held piece front last (drop k rest) w k known end again long_last (cases (checked limit last))
]

first_end : (limit : ℕ) (held piece front rest : List ℕ) (w : ℕ) → Reached limit front → held ++ piece ≡ front ++ rest → rest ≡ drop w piece →
    length front ≡ length held + w → length piece ≡ w + length rest
    → Cases (checked limit front) → after_first piece (fill_result_by (holds limit held) front w (checked limit front)) ≡ feed_result (holds limit held) piece
first_end limit held piece front rest w end split behind size all (at_ok n e) =
    let len : n ≡ length front = end.whole n e in
    let here : checked limit front ≡ Ok (length front) = e ∙ ap (λ (m : ℕ). Ok m) len in
    let whole : is_ok (checked limit front) ≡ true = ap (λ (r : Result ℕ FrameError). is_ok r) e in
    ap (λ (r : Result ℕ FrameError). after_first piece (fill_result_by (holds limit held) front w r)) e
    ∙ ap (after_second w) (fill_none limit front (drop w piece) here)
    ∙ ap (λ (b : Bool). (holds limit front, Ok (record { taken = w + 0; whole = b }))) whole
    ∙ sym (fed_ok limit held piece front rest n (w + 0) e len split (omega arith))
first_end limit held piece front rest w end split behind size all (at_need k e) =
    ap (λ (r : Result ℕ FrameError). after_first piece (fill_result_by (holds limit held) front w r)) e
    ∙ ap (λ (xs : List ℕ). after_second w (fill_result (holds limit front) xs)) (sym behind)
    ∙ second_fill limit held piece front rest w k e end.header split size all
first_end limit held piece front rest w end split behind size all (at_err error e no_need) =
    ap (λ (r : Result ℕ FrameError). after_first piece (fill_result_by (holds limit held) front w r)) e
    ∙ ap (λ (b : Bool). after_first piece (cond b (reader_holding (holds limit held) front, Ok w) (reader_failing (holds limit held) error, Err error))) no_need
    ∙ sym (fed_err limit held piece front rest error e no_need split)

-- what was taken by two fills is what the piece does
pub two_fills : (limit : ℕ) (held piece : List ℕ) (missing : ℕ) → checked limit held ≡ cond (missing == 0) (Ok (length held)) (Err (Need missing))
    → after_first piece (fill_result (holds limit held) piece) ≡ feed_result (holds limit held) piece
two_fills limit held piece missing state = elim (cases_eq missing 0) [
  | inl none ↦
      let h = is_whole limit missing held state none in
      let whole : is_ok (checked limit held) ≡ true = ap (λ (r : Result ℕ FrameError). is_ok r) h in
      ap (after_first piece) (fill_none limit held piece h)
      ∙ ap (after_second 0) (fill_none limit held piece h)
      ∙ ap (λ (b : Bool). (holds limit held, Ok (record { taken = 0 + 0; whole = b }))) whole
      ∙ sym (fed_ok limit held piece held piece (length held) (0 + 0) h refl refl (omega arith))
  | inr some ↦
      let h = needs limit missing held state (omega arith) in
      elim (cases_lt (length piece) missing) [
        | inl less ↦
            let needed = needs_less limit held piece missing h less in
            let whole : is_ok (checked limit (held ++ piece)) ≡ false = ap (λ (r : Result ℕ FrameError). is_ok r) needed in
            ap (after_first piece) (fill_less limit held piece missing h less)
            ∙ ap (λ (xs : List ℕ). after_second (length piece) (fill_result (holds limit (held ++ piece)) xs)) (drop_all (length piece) piece (omega arith))
            ∙ ap (after_second (length piece)) (fill_empty limit (held ++ piece) (missing - length piece) needed)
            ∙ ap (λ (b : Bool). (holds limit (held ++ piece), Ok (record { taken = length piece + 0; whole = b }))) whole
            ∙ ap (λ (n : ℕ). (holds limit (held ++ piece), Ok (record { taken = n; whole = false }))) (omega arith)
            ∙ sym (fed_need limit held piece (missing - length piece) needed)
        | inr enough ↦
            let taken : length (take missing piece) ≡ missing = length-take missing piece ∙ omega arith in
            let size : length (held ++ take missing piece) ≡ length held + missing = length-append held (take missing piece) ∙ omega arith in
            let rest = length-drop missing piece in
            ap (after_first piece) (fill_all limit held piece missing h enough)
            ∙ first_end limit held piece (held ++ take missing piece) (drop missing piece) missing (reached limit held (take missing piece) missing h taken)
            (regroup held piece missing) refl size (omega arith) (cases (checked limit (held ++ take missing piece)))
      ]
]

-- the same, from what the two fills answered
pub feeds_both : (r s1 s2 : Reader) (piece rest : List ℕ) (first second : ℕ) (whole : Bool) → after_first piece (fill_result r piece) ≡ feed_result r piece
    → s1 ≡ (fill_result r piece).0 → Ok first ≡ (fill_result r piece).1 → rest ≡ drop first piece → s2 ≡ (fill_result s1 rest).0 →
    Ok second ≡ (fill_result s1 rest).1 → whole ≡ is_ok (checked s2.limit s2.held)
    → ◌≡◌ {A = Reader × Result Fed FrameError} (s2, Ok (record { taken = first + second; whole = whole })) (feed_result r piece)
feeds_both r s1 s2 piece rest first second whole two a b e c d w =
    let one : ◌≡◌ {A = Reader × Result ℕ FrameError} (s1, Ok first) (fill_result r piece) = ap (λ (x : Reader). (x, Ok first)) a ∙ ap (λ (x : Result ℕ FrameError). ((fill_result r piece).0, x)) b in
    let next : ◌≡◌ {A = Reader × Result ℕ FrameError} (s2, Ok second) (fill_result s1 (drop first piece)) =
    ap (λ (x : Reader). (x, Ok second)) c ∙ ap (λ (x : Result ℕ FrameError). ((fill_result s1 rest).0, x)) d ∙ ap (fill_result s1) e in
    ap (λ (t : Bool). (s2, Ok (record { taken = first + second; whole = t }))) w
    ∙ ap (after_second first) next
    ∙ ap (after_first piece) one
    ∙ two

pub feeds_second_error : (r s1 s2 : Reader) (piece rest : List ℕ) (first : ℕ) (error : FrameError) → after_first piece (fill_result r piece) ≡ feed_result r piece
    → s1 ≡ (fill_result r piece).0 → Ok first ≡ (fill_result r piece).1 → rest ≡ drop first piece → s2 ≡ (fill_result s1 rest).0 → Err error ≡ (fill_result s1 rest).1
    → ◌≡◌ {A = Reader × Result Fed FrameError} (s2, Err error) (feed_result r piece)
feeds_second_error r s1 s2 piece rest first error two a b e c d =
    let one : ◌≡◌ {A = Reader × Result ℕ FrameError} (s1, Ok first) (fill_result r piece) = ap (λ (x : Reader). (x, Ok first)) a ∙ ap (λ (x : Result ℕ FrameError). ((fill_result r piece).0, x)) b in
    let next : ◌≡◌ {A = Reader × Result ℕ FrameError} (s2, Err error) (fill_result s1 (drop first piece)) =
    ap (λ (x : Reader). (x, Err error)) c ∙ ap (λ (x : Result ℕ FrameError). ((fill_result s1 rest).0, x)) d ∙ ap (fill_result s1) e in
    ap (after_second first) next ∙ ap (after_first piece) one ∙ two

pub feeds_first_error : (r s1 : Reader) (piece : List ℕ) (error : FrameError) → after_first piece (fill_result r piece) ≡ feed_result r piece
    → s1 ≡ (fill_result r piece).0 → Err error ≡ (fill_result r piece).1
    → ◌≡◌ {A = Reader × Result Fed FrameError} (s1, Err error) (feed_result r piece)
feeds_first_error r s1 piece error two a b =
    let one : ◌≡◌ {A = Reader × Result ℕ FrameError} (s1, Err error) (fill_result r piece) = ap (λ (x : Reader). (x, Err error)) a ∙ ap (λ (x : Result ℕ FrameError). ((fill_result r piece).0, x)) b in
    ap (after_first piece) one ∙ two

-- what two fills do to a reader that hasn't failed
pub two : (r : Reader) (limit missing : ℕ) (held : List ℕ) (failed : Option FrameError) (piece : List ℕ) → ◌≡◌ {A = Reader} (record { limit = limit; held = held; failed = failed }) r → failed ≡ None
    → checked limit held ≡ cond (missing == 0) (Ok (length held)) (Err (Need missing)) → after_first piece (fill_result r piece) ≡ feed_result r piece
two r limit missing held failed piece e none state =
    subst (λ (x : Reader). after_first piece (fill_result x piece) ≡ feed_result x piece)
    (ap (λ (f : Option FrameError). record { limit = limit; held = held; failed = f }) (sym none) ∙ e) (two_fills limit held piece missing state)

-- a record that is whole for a limit is whole for a greater one
pub whole_for_all : (limit len : ℕ) (bytes : List ℕ) → limit < 2 ^ 32 → checked limit bytes ≡ Ok len → checked (2 ^ 32 - 1) bytes ≡ Ok len
whole_for_all limit len bytes short h =
    let p = passed limit bytes len h in
    let within = p.0.within in
    let wider : Passed (2 ^ 32 - 1) bytes = record {
      header = p.0.header;
      start = p.0.start;
      end = p.0.end;
      heads = p.0.heads;
      within = omega arith;
      there = p.0.there;
      sections = p.0.sections;
    } in
    passes (2 ^ 32 - 1) bytes wider ∙ ap (λ (n : ℕ). Ok n) p.1

-- what is held is a whole record
pub whole_of : (limit missing : ℕ) (held : List ℕ) → checked limit held ≡ cond (missing == 0) (Ok (length held)) (Err (Need missing)) →
    is_ok (checked limit held) ≡ true → checked limit held ≡ Ok (length held)
whole_of limit missing held state ok = elim (cases_eq missing 0) [
  | inl none ↦ is_whole limit missing held state none
  | inr some ↦
      let h = needs limit missing held state (omega arith) in
      let no_ok : is_ok (checked limit held) ≡ false = ap (λ (r : Result ℕ FrameError). is_ok r) h in
      absurd (cc)
]
