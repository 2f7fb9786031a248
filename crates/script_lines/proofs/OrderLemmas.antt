-- A script that is read line by line.
use Rattle.std.proofs.Common.{◌≡◌, ℕ, ◌+◌, ◌^◌, ◌<◌, ◌≤◌, inl, inr, true, false, List, [], ◌∷◌, ◌++◌, refl, sym, ap, ◌∙◌, arith, append_assoc, length-append}
use Rattle.std.proofs.lemmas.Bool.{cases_lt}
use Rattle.std.proofs.lemmas.List.{append-nil}
use Rattle.script_lines.specs.Lines.{Line, Reading, lines_of, ended_lines_of, lines_ahead, IsTooLong, ReadsLine, with_newline, last_one, IsNextLine, IsAtEnd, NextIsTooLong, HasNoLine}
use Rattle.script_lines.specs.Reads.{HasRead, TakesEnded, StandsAt, AreTaken, first_reading, last_line}
use Rattle.script_lines.proofs.LineLemmas.{lines_of-newline, lines_of-nil, lines_of-last, ended_lines_of-newline, ended_lines_of-one_line}

-- the line that was read is the first of those ahead
next_ahead : (tells : Type 0) (a b : Reading) (rest rest_now : List ℕ) → IsNextLine tells a b rest rest_now → tells
    → lines_ahead a rest ≡ last_line b ∷ lines_ahead b rest_now
next_ahead tells a b rest rest_now next told = by_kind next.read
  where
    by_kind : ReadsLine tells a b rest rest_now → lines_of a.end (a.pending ++ rest) ≡ last_line b ∷ lines_of b.end (b.pending ++ rest_now)
    by_kind (with_newline bytes one text end at_end given) =
        ap (λ (bs : List ℕ). lines_of a.end (a.pending ++ bs)) (given told)
        ∙ ap (lines_of a.end) (sym (append_assoc a.pending bytes rest_now) ∙ ap (λ (bs : List ℕ). bs ++ rest_now) text ∙ append_assoc b.line (10 ∷ b.pending) rest_now)
        ∙ lines_of-newline a.end b.line (b.pending ++ rest_now) one
        ∙ ap (λ (n : ℕ). record { text = b.line; end = n } ∷ lines_of n (b.pending ++ rest_now)) (sym end)
    by_kind (last_one bytes one some text pending end at_end given empty) =
        ap (λ (bs : List ℕ). lines_of a.end (a.pending ++ bs)) (given told)
        ∙ ap (lines_of a.end) text
        ∙ lines_of-last a.end b.line one some
        ∙ ap (λ (n : ℕ). record { text = b.line; end = n } ∷ []) (sym end)
        ∙ ap (λ (ls : List Line). last_line b ∷ ls) (sym (ap (lines_of b.end) (ap (λ (bs : List ℕ). bs ++ rest_now) pending ∙ empty told) ∙ lines_of-nil b.end))

next_taken : (tells : Type 0) (a b : Reading) (script rest rest_now : List ℕ) (lines : List Line) → IsNextLine tells a b rest rest_now → tells
    → (a.at_end ≡ false → TakesEnded script rest lines a) → b.at_end ≡ false → TakesEnded script rest_now (lines ++ last_line b ∷ []) b
next_taken tells a b script rest rest_now lines next told so_far not_end = by_kind next.read
  where
    by_kind : ReadsLine tells a b rest rest_now → TakesEnded script rest_now (lines ++ last_line b ∷ []) b
    by_kind (with_newline bytes one text end at_end given) =
        let before = so_far (sym at_end ∙ not_end) in
        let read : a.pending ++ rest ≡ b.line ++ 10 ∷ (b.pending ++ rest_now) =
        ap (λ (bs : List ℕ). a.pending ++ bs) (given told) ∙ sym (append_assoc a.pending bytes rest_now) ∙ ap (λ (bs : List ℕ). bs ++ rest_now) text ∙ append_assoc b.line (10 ∷ b.pending) rest_now in
        record {
          taken = before.taken ++ (b.line ++ 10 ∷ []);
          source = before.source ∙ ap (λ (bs : List ℕ). before.taken ++ bs) (read ∙ sym (append_assoc b.line (10 ∷ []) (b.pending ++ rest_now)))
              ∙ sym (append_assoc before.taken (b.line ++ 10 ∷ []) (b.pending ++ rest_now));
          ended = λ more.
              ap (ended_lines_of 0) (append_assoc before.taken (b.line ++ 10 ∷ []) more ∙ ap (λ (bs : List ℕ). before.taken ++ bs) (append_assoc b.line (10 ∷ []) more))
              ∙ before.ended (b.line ++ 10 ∷ more)
              ∙ ap (λ (ls : List Line). lines ++ ls) (ended_lines_of-newline a.end b.line more one ∙ ap (λ (n : ℕ). record { text = b.line; end = n } ∷ ended_lines_of n more) (sym end))
              ∙ sym (append_assoc lines (last_line b ∷ []) (ended_lines_of b.end more));
        }
    by_kind (last_one bytes one some text pending end at_end given empty) = let clash : true ≡ false = sym at_end ∙ not_end in absurd (cc clash)

module _ (tells : Type 0) where
  pub reads_none : (script : List ℕ) → HasRead tells script script [] first_reading
  reads_none script = record {
    number = refl;
    ahead = λ told. refl;
    taken = λ told e. record { taken = []; source = refl; ended = λ more. refl };
  }

  -- with one more line
  pub reads_next : (script rest rest_now : List ℕ) (lines : List Line) (old new : Reading) → HasRead tells script rest lines old
      → IsNextLine tells old new rest rest_now → HasRead tells script rest_now (lines ++ last_line new ∷ []) new
  reads_next script rest rest_now lines old new read next = record {
    number = omega (arith, next.number, read.number, length-append lines (last_line new ∷ []));
    ahead = λ told.
        read.ahead told ∙ ap (λ (ls : List Line). lines ++ ls) (next_ahead tells old new rest rest_now next told) ∙ sym (append_assoc lines (last_line new ∷ []) (lines_ahead new rest_now));
    taken = λ told e. next_taken tells old new script rest rest_now lines next told (read.taken told) e;
  }

  -- where the line that was read stands
  pub stands : (script rest rest_now : List ℕ) (lines : List Line) (old new : Reading) → HasRead tells script rest lines old
      → IsNextLine tells old new rest rest_now → tells → StandsAt script lines new.number (last_line new)
  stands script rest rest_now lines old new read next told = record {
    behind = lines_ahead new rest_now;
    lines = read.ahead told ∙ ap (λ (ls : List Line). lines ++ ls) (next_ahead tells old new rest rest_now next told);
    numbered = omega (arith, next.number, read.number);
  }

  -- all lines were read
  pub reads_all : (script rest rest_now : List ℕ) (lines : List Line) (old new : Reading) → HasRead tells script rest lines old
      → IsAtEnd tells old new rest rest_now → tells → (lines_of 0 script ≡ lines) × (rest_now ≡ [])
  reads_all script rest rest_now lines old new read end told =
      let left = end.nothing_left told in
      let none : lines_ahead old rest ≡ [] = ap (lines_of old.end) (ap (λ (bs : List ℕ). bs ++ rest) end.pending ∙ left.0) ∙ lines_of-nil old.end in
      (read.ahead told ∙ ap (λ (ls : List Line). lines ++ ls) none ∙ append-nil lines, left.1)

  -- where a line stands that is too long
  pub stands_long : (script rest : List ℕ) (lines : List Line) (old new : Reading) → HasRead tells script rest lines old
      → NextIsTooLong tells old new rest → tells → (line : Line) × StandsAt script lines (new.number + 1) line × IsTooLong line
  stands_long script rest lines old new read next told =
      let ahead = next.too_long told in (
        ahead.0,
        record {
          behind = ahead.1;
          lines = read.ahead told ∙ ap (λ (ls : List Line). lines ++ ls) ahead.2;
          numbered = omega (arith, next.number, read.number);
        },
        ahead.3,
      )

  -- the lines whose newline was taken
  pub reads_taken : (script rest rest_now : List ℕ) (lines : List Line) (old new : Reading) → HasRead tells script rest lines old
      → HasNoLine tells old new rest rest_now → tells → AreTaken script rest_now lines
  reads_taken script rest rest_now lines old new read failed told =
      let before = read.taken told failed.not_at_end in
      let none : ended_lines_of old.end (old.pending ++ failed.bytes) ≡ [] = ended_lines_of-one_line old.end (old.pending ++ failed.bytes) failed.one_line in
      record {
        taken = before.taken ++ (old.pending ++ failed.bytes);
        source =
            before.source
            ∙ ap (λ (bs : List ℕ). before.taken ++ bs) (ap (λ (bs : List ℕ). old.pending ++ bs) (failed.given told) ∙ sym (append_assoc old.pending failed.bytes rest_now))
            ∙ sym (append_assoc before.taken (old.pending ++ failed.bytes) rest_now);
        are = before.ended (old.pending ++ failed.bytes) ∙ ap (λ (ls : List Line). lines ++ ls) none ∙ append-nil lines;
      }

  pub goes_on : (rest rest_now : List ℕ) (old new : Reading) → IsNextLine tells old new rest rest_now → (old.end < new.end) × (new.end ≤ 2 ^ 24)
  goes_on rest rest_now old new next = (later next.read, elim (cases_lt (2 ^ 24) new.end) [ inl far ↦ absurd (next.within (inr far)) | inr near ↦ near ])
    where
      later : ReadsLine tells old new rest rest_now → old.end < new.end
      later (with_newline bytes one text end at_end given) = omega (arith, end)
      later (last_one bytes one some text pending end at_end given empty) = omega (arith, end, some)
