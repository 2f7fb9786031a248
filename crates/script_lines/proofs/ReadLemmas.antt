-- Laws of reading a script line by line.
use Rattle.std.proofs.Common.{◌≡◌, ℕ, ◌+◌, ◌^◌, ◌<◌, ◌≤◌, ◌⊎◌, inl, inr, Bool, true, false, List, [], ◌∷◌, ◌++◌, length, take, drop, Result, Ok, Err}
use Rattle.std.proofs.Common.{MatchResult, MatchBool, IfOk, refl, sym, ap, subst, ◌∙◌, arith, append_assoc, length-append}
use Rattle.std.proofs.lemmas.List.{append-nil, length-take, take_at}
use Rattle.script_lines.specs.declared.lines.LineStop.{LineStop}
use Rattle.script_lines.specs.declared.lines.LineStop.TheVariants.{TooLong}
use Rattle.script_lines.specs.declared.lengths.TheConstants.{LONGEST_LINE}
use Rattle.script_lines.specs.Lines.{Line, Reading, lines_of, lines_ahead, IsOneLine, IsFirstLine, TakesMore, TakesLine, SamePlace, PastLimits, IsTooLong}
use Rattle.script_lines.specs.Lines.{with_newline, last_one, IsNextLine, IsAtEnd, NextIsTooLong}
use Rattle.script_lines.proofs.LineLemmas.{lines_of-newline, lines_of-begin, BeginsWith}

-- the same place, twice
pub SamePlace-then : (a b c : Reading) → SamePlace a b → SamePlace b c → SamePlace a c
SamePlace-then a b c p q = record { number = q.number ∙ p.number; end = q.end ∙ p.end; at_end = q.at_end ∙ p.at_end }

pub TakesMore-then : (tells : Type 0) (a b c : Reading) (r s t : List ℕ) (n m : ℕ) → TakesMore tells a b r s n → TakesMore tells b c s t m → TakesMore tells a c r t (n + m)
TakesMore-then tells a b c r s t n m p q = record {
  bytes = p.bytes ++ q.bytes;
  count = omega (arith, p.count, q.count, length-append p.bytes q.bytes);
  pending = q.pending ∙ ap (λ (bs : List ℕ). bs ++ q.bytes) p.pending ∙ append_assoc a.pending p.bytes q.bytes;
  given = λ told. p.given told ∙ ap (λ (bs : List ℕ). p.bytes ++ bs) (q.given told) ∙ sym (append_assoc p.bytes q.bytes t);
}

-- the lines ahead are the same, however many of their bytes were taken
pub lines_ahead-more : (tells : Type 0) (old mid : Reading) (rest rest_now : List ℕ) (n : ℕ) → TakesMore tells old mid rest rest_now n → SamePlace old mid → tells
    → lines_ahead old rest ≡ lines_ahead mid rest_now
lines_ahead-more tells old mid rest rest_now n more place told =
    ap (λ (bs : List ℕ). lines_of old.end (old.pending ++ bs)) (more.given told)
    ∙ ap (lines_of old.end) (sym (append_assoc old.pending more.bytes rest_now))
    ∙ ap (λ (bs : List ℕ). lines_of old.end (bs ++ rest_now)) (sym more.pending)
    ∙ ap (λ (at : ℕ). lines_of at (mid.pending ++ rest_now)) (sym place.end)

-- a line that its newline ends
pub next_line : (tells : Type 0) (old mid new : Reading) (rest rest_now : List ℕ) (n text : ℕ) → TakesMore tells old mid rest rest_now n → SamePlace old mid
    → IsFirstLine text mid.pending → (PastLimits mid.end text 1 → ⊥) → TakesLine text 1 mid new → IsNextLine tells old new rest rest_now
next_line tells old mid new rest rest_now n text more place first short takes =
    let within = first.within in
    let size : length new.line ≡ text = omega (arith, ap length takes.line, length-take text mid.pending) in
    let newline : mid.pending ≡ new.line ++ 10 ∷ new.pending =
    first.newline ∙ ap (λ (bs : List ℕ). bs ++ 10 ∷ drop (text + 1) mid.pending) (sym takes.line) ∙ ap (λ (bs : List ℕ). new.line ++ 10 ∷ bs) (sym takes.pending) in
    let end : new.end ≡ old.end + length new.line + 1 = omega (arith, takes.end, place.end, size) in
    let fits : IsTooLong (record { text = new.line; end = new.end }) → ⊥ = λ long. short (past long size takes.end) in
    record {
      number = takes.number ∙ ap (λ (k : ℕ). k + 1) place.number;
      within = fits;
      read = with_newline more.bytes (subst IsOneLine (sym takes.line) first.one_line) (sym more.pending ∙ newline) end (takes.at_end ∙ place.at_end) more.given;
    }
  where
    past : (LONGEST_LINE < length new.line) ⊎ (2 ^ 24 < new.end) → length new.line ≡ text → new.end ≡ mid.end + text + 1 → PastLimits mid.end text 1
    past (inl long) size end = inl (omega arith)
    past (inr far) size end = inr (omega arith)

pub next_is_too_long : (tells : Type 0) (old mid : Reading) (rest rest_now : List ℕ) (n text : ℕ) → TakesMore tells old mid rest rest_now n → SamePlace old mid
    → IsFirstLine text mid.pending → PastLimits mid.end text 1 → NextIsTooLong tells old mid rest
next_is_too_long tells old mid rest rest_now n text more place first past = record {
  number = place.number;
  too_long = λ told.
      let line : Line = record { text = take text mid.pending; end = mid.end + length (take text mid.pending) + 1 } in
      let behind = drop (text + 1) mid.pending ++ rest_now in
      let within = first.within in
      let size : length (take text mid.pending) ≡ text = omega (arith, length-take text mid.pending) in
      let script : mid.pending ++ rest_now ≡ take text mid.pending ++ 10 ∷ behind =
      ap (λ (bs : List ℕ). bs ++ rest_now) first.newline ∙ append_assoc (take text mid.pending) (10 ∷ drop (text + 1) mid.pending) rest_now in (
        line,
        lines_of (mid.end + length (take text mid.pending) + 1) behind,
        lines_ahead-more tells old mid rest rest_now n more place told
            ∙ ap (lines_of mid.end) script ∙ lines_of-newline mid.end (take text mid.pending) behind first.one_line,
        long past size,
      );
}
  where
    long : PastLimits mid.end text 1 → length (take text mid.pending) ≡ text → (LONGEST_LINE < length (take text mid.pending)) ⊎ (2 ^ 24 < mid.end + length (take text mid.pending) + 1)
    long (inl past) size = inl (omega arith)
    long (inr past) size = inr (omega arith)

pub pending_is_too_long : (tells : Type 0) (old mid : Reading) (rest rest_now : List ℕ) (n : ℕ) → TakesMore tells old mid rest rest_now n → SamePlace old mid
    → IsOneLine mid.pending → mid.end ≤ 2 ^ 24 → PastLimits mid.end (length mid.pending) 0 → NextIsTooLong tells old mid rest
pending_is_too_long tells old mid rest rest_now n more place one small past = record {
  number = place.number;
  too_long = λ told.
      let first : BeginsWith mid.end mid.pending (mid.pending ++ rest_now) = lines_of-begin mid.end mid.pending rest_now one (some past) in
      (first.line, first.more, lines_ahead-more tells old mid rest rest_now n more place told ∙ first.lines, long past first.line first.longer first.later);
}
  where
    some : PastLimits mid.end (length mid.pending) 0 → 0 < length mid.pending
    some (inl past) = omega arith
    some (inr past) = omega arith

    long : PastLimits mid.end (length mid.pending) 0 → (line : Line) → length mid.pending ≤ length line.text → mid.end + length mid.pending ≤ line.end → IsTooLong line
    long (inl past) line longer later = inl (omega arith)
    long (inr past) line longer later = inr (omega arith)

-- what is behind the last newline
abbrev pub LastRead : Reading → Reading → Bool → Type 0
LastRead mid new more =
    MatchBool more
    ((PastLimits mid.end (length mid.pending) 0 → ⊥) × (0 < length mid.pending)
    × (new.line ≡ mid.pending) × (new.pending ≡ []) × (new.number ≡ mid.number + 1)
    × (new.end ≡ mid.end + length mid.pending))
    ((mid.pending ≡ []) × (new.number ≡ mid.number))

pub next_is_last : (tells : Type 0) (old mid new : Reading) (rest rest_now : List ℕ) (n : ℕ) → TakesMore tells old mid rest rest_now n → SamePlace old mid
    → IsOneLine mid.pending → (tells → rest_now ≡ []) → (Z : LineStop → Type 0) (r : Result Bool LineStop) → IfOk r (λ _. new.at_end ≡ true) → MatchResult r (LastRead mid new) Z
    → IfOk r (λ more. MatchBool more (IsNextLine tells old new rest rest_now) (IsAtEnd tells old new rest rest_now))
next_is_last tells old mid new rest rest_now n more place one empty Z (Err e) at_end read = tt
next_is_last tells old mid new rest rest_now n more place one empty Z (Ok true) at_end read = record {
  number = read.4 ∙ ap (λ (k : ℕ). k + 1) place.number;
  within = λ long. read.0 (past long);
  read = last_one more.bytes (subst IsOneLine (sym read.2) one) (subst (λ (bs : List ℕ). 0 < length bs) (sym read.2) read.1) (sym more.pending ∙ sym read.2) read.3
      (omega (arith, read.5, place.end, ap length read.2)) at_end (λ told. more.given told ∙ ap (λ (bs : List ℕ). more.bytes ++ bs) (empty told) ∙ append-nil more.bytes) empty;
}
  where
    past : (LONGEST_LINE < length new.line) ⊎ (2 ^ 24 < new.end) → PastLimits mid.end (length mid.pending) 0
    past (inl long) = inl (omega (arith, ap length read.2))
    past (inr far) = inr (omega (arith, read.5))
next_is_last tells old mid new rest rest_now n more place one empty Z (Ok false) at_end read = record {
  number = read.1 ∙ place.number;
  pending = nothing_before old.pending more.bytes (sym more.pending ∙ read.0);
  nothing_left = λ told. (
    more.given told ∙ ap (λ (bs : List ℕ). more.bytes ++ bs) (empty told) ∙ append-nil more.bytes ∙ nothing_behind old.pending more.bytes
        (sym more.pending ∙ read.0),
    empty told,
  );
}
  where
    nothing_before : (xs ys : List ℕ) → xs ++ ys ≡ [] → xs ≡ []
    nothing_before [] ys e = refl
    nothing_before (x ∷ xs) ys e = absurd (cc)

    nothing_behind : (xs ys : List ℕ) → xs ++ ys ≡ [] → ys ≡ []
    nothing_behind [] ys e = e
    nothing_behind (x ∷ xs) ys e = absurd (cc)

-- a line that its newline ends, read or too long
abbrev pub LineRead : ℕ → Reading → Reading → Result Bool LineStop → Type 0
LineRead text mid new r =
    MatchResult r
    (λ more. (more ≡ true) × (PastLimits mid.end text 1 → ⊥) × TakesLine text 1 mid new)
    (λ stop. (stop ≡ TooLong) × PastLimits mid.end text 1 × (new ≡ mid))

pub next_is_ended : (tells : Type 0) (old mid new : Reading) (rest rest_now : List ℕ) (n text : ℕ) → TakesMore tells old mid rest rest_now n → SamePlace old mid
    → IsFirstLine text mid.pending → (r : Result Bool LineStop) → LineRead text mid new r
    → IfOk r (λ more. MatchBool more (IsNextLine tells old new rest rest_now) (IsAtEnd tells old new rest rest_now))
next_is_ended tells old mid new rest rest_now n text more place first (Err e) read = tt
next_is_ended tells old mid new rest rest_now n text more place first (Ok true) read = next_line tells old mid new rest rest_now n text more place first read.1 read.2
next_is_ended tells old mid new rest rest_now n text more place first (Ok false) read = absurd (cc read.0)

pub ended_is_too_long : (tells : Type 0) (old mid new : Reading) (rest rest_now : List ℕ) (n text : ℕ) → TakesMore tells old mid rest rest_now n → SamePlace old mid
    → IsFirstLine text mid.pending → (r : Result Bool LineStop) → LineRead text mid new r → r ≡ Err TooLong → NextIsTooLong tells old new rest
ended_is_too_long tells old mid new rest rest_now n text more place first (Err e) read is =
    subst (λ (reading : Reading). NextIsTooLong tells old reading rest) (sym read.2) (next_is_too_long tells old mid rest rest_now n text more place first read.1)
ended_is_too_long tells old mid new rest rest_now n text more place first (Ok b) read is = absurd (cc is)

-- bytes that were scanned before more of them were taken
pub scanned_before : (tells : Type 0) (a b : Reading) (r s : List ℕ) (n scanned : ℕ) → scanned ≡ length a.pending → IsOneLine a.pending → TakesMore tells a b r s n → IsOneLine (take scanned b.pending)
scanned_before tells a b r s n scanned size one more =
    subst IsOneLine (sym (ap (take scanned) more.pending ∙ take_at a.pending more.bytes scanned (sym size))) one

-- the end of the source: nothing was left, and nothing is
pub nothing_left : (tells : Type 0) (a b : Reading) (r s : List ℕ) → TakesMore tells a b r s 0 → (tells → r ≡ []) → tells → s ≡ []
nothing_left tells a b r s more end told = behind more.bytes s (sym (more.given told) ∙ end told)
  where
    behind : (xs ys : List ℕ) → xs ++ ys ≡ [] → ys ≡ []
    behind [] ys e = e
    behind (x ∷ xs) ys e = absurd (cc)

-- no more bytes were taken
pub all_scanned : (tells : Type 0) (a b : Reading) (r s : List ℕ) → IsOneLine a.pending → TakesMore tells a b r s 0 → IsOneLine b.pending
all_scanned tells a b r s one more = subst IsOneLine (sym (more.pending ∙ ap (λ (bs : List ℕ). a.pending ++ bs) (none more.bytes more.count) ∙ append-nil a.pending)) one
  where
    none : (xs : List ℕ) → length xs ≡ 0 → xs ≡ []
    none [] e = refl
    none (x ∷ xs) e = absurd (omega arith)
