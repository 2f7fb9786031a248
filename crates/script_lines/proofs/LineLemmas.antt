-- Laws of the lines of a script.
use Rattle.std.proofs.Common.{◌≡◌, ℕ, zero, suc, ◌+◌, ◌-◌, ◌<◌, ◌≤◌, ◌⊎◌, inl, inr, Bool, true, false, cond, List, [], ◌∷◌, ◌++◌, length, take, drop, get_or}
use Rattle.std.proofs.Common.{refl, sym, ap, subst, ◌∙◌, arith, append_assoc, length-append, length-drop, eqb-true}
use Rattle.std.proofs.lemmas.List.{take-append-drop, drop-drop, drop-take, length-take}
use Rattle.std.proofs.Math.Seq.{take-add}
use Rattle.std.specs.List.{onto_first, slice_split}
use Rattle.script_lines.specs.Lines.{IsOneLine, IsFirstLine, Line, lines_in, lines_of, ended_lines_of}
use Rattle.std.specs.Prelude.{◌==◌}

-- a script cut at its newlines
abbrev pub parts_of : List ℕ → List (List ℕ)
parts_of script = slice_split (λ byte. byte == 10) script

-- a test that doesn't pass
fails : (b : Bool) → (b ≡ true → ⊥) → b ≡ false
fails true h = absurd (h refl)
fails false h = refl

-- a search that found no newline, and one that found the first
pub IsOneLine-each : (text : List ℕ) → ((k : ℕ) → k < length text → ((get_or text k 0) == 10) ≡ true → ⊥) → IsOneLine text
IsOneLine-each [] each = tt
IsOneLine-each (byte ∷ text) each = (fails (byte == 10) (each 0 (omega arith)), IsOneLine-each text (λ k h. each (suc k) (omega arith)))

pub IsFirstLine-found : (bytes : List ℕ) (at : ℕ) → at < length bytes → ((k : ℕ) → k < at → ((get_or bytes k 0) == 10) ≡ true → ⊥) → ((get_or bytes at 0) == 10) ≡ true → IsFirstLine at bytes
IsFirstLine-found [] at h none found = absurd (omega arith)
IsFirstLine-found (byte ∷ bytes) zero h none found = record {
  within = h;
  one_line = tt;
  newline = ap (λ (b : ℕ). b ∷ bytes) (eqb-true byte 10 found);
}
IsFirstLine-found (byte ∷ bytes) (suc at) h none found =
    let later = IsFirstLine-found bytes at (omega arith) (λ k below. none (suc k) (omega arith)) found in
    let place : suc (at + 1) ≡ suc at + 1 = omega arith in
    record {
      within = h;
      one_line = (fails (byte == 10) (none 0 (omega arith)), later.one_line);
      newline = ap (λ (bs : List ℕ). byte ∷ bs) (later.newline ∙ ap (λ (n : ℕ). take at bytes ++ 10 ∷ drop n (byte ∷ bytes)) place);
    }

pub IsOneLine-append : (text more : List ℕ) → IsOneLine text → IsOneLine more → IsOneLine (text ++ more)
IsOneLine-append [] more h k = k
IsOneLine-append (byte ∷ text) more h k = (h.0, IsOneLine-append text more h.1 k)

-- bytes of which the first ones have no newline
pub IsOneLine-scanned : (scanned : ℕ) (bytes : List ℕ) → IsOneLine (take scanned bytes) → IsOneLine (drop scanned bytes) → IsOneLine bytes
IsOneLine-scanned scanned bytes h k = subst IsOneLine (take-append-drop scanned bytes) (IsOneLine-append (take scanned bytes) (drop scanned bytes) h k)

pub IsFirstLine-scanned : (scanned at : ℕ) (bytes : List ℕ) → IsOneLine (take scanned bytes) → IsFirstLine at (drop scanned bytes) → IsFirstLine (scanned + at) bytes
IsFirstLine-scanned scanned at bytes h first =
    let front : take (scanned + at) bytes ≡ take scanned bytes ++ take at (drop scanned bytes) = take-add scanned at bytes in
    let back : drop (at + 1) (drop scanned bytes) ≡ drop (scanned + at + 1) bytes = drop-drop (at + 1) scanned bytes ∙ ap (λ (n : ℕ). drop n bytes) (omega arith) in
    record {
      within = let w = first.within in omega (arith, length-drop scanned bytes);
      one_line = subst IsOneLine (sym front) (IsOneLine-append (take scanned bytes) (take at (drop scanned bytes)) h first.one_line);
      newline =
          sym (take-append-drop scanned bytes)
          ∙ ap (λ (bs : List ℕ). take scanned bytes ++ bs) first.newline
          ∙ sym (append_assoc (take scanned bytes) (take at (drop scanned bytes)) (10 ∷ drop (at + 1) (drop scanned bytes)))
          ∙ ap (λ (bs : List ℕ). bs ++ 10 ∷ drop (at + 1) (drop scanned bytes)) (sym front)
          ∙ ap (λ (bs : List ℕ). take (scanned + at) bytes ++ 10 ∷ bs) back;
    }

-- a script has no newline, or a first one
pub first_newline : (script : List ℕ) → IsOneLine script ⊎ ((text : List ℕ) × (rest : List ℕ) × (script ≡ text ++ 10 ∷ rest) × IsOneLine text)
first_newline [] = inl tt
first_newline (byte ∷ script) = by_byte (byte == 10) refl (first_newline script)
  where
    by_byte : (b : Bool) → (byte == 10) ≡ b → IsOneLine script ⊎ ((text : List ℕ) × (rest : List ℕ) × (script ≡ text ++ 10 ∷ rest) × IsOneLine text)
        → IsOneLine (byte ∷ script) ⊎ ((text : List ℕ) × (rest : List ℕ) × (byte ∷ script ≡ text ++ 10 ∷ rest) × IsOneLine text)
    by_byte true e later = inr ([], script, ap (λ (b : ℕ). b ∷ script) (grind arith), tt)
    by_byte false e (inl h) = inl (e, h)
    by_byte false e (inr (text, rest, is, h)) = inr (byte ∷ text, rest, ap (λ (bs : List ℕ). byte ∷ bs) is, (e, h))

-- the first part ends at the first newline
pub parts_of-newline : (text rest : List ℕ) → IsOneLine text → parts_of (text ++ 10 ∷ rest) ≡ text ∷ parts_of rest
parts_of-newline [] rest h = refl
parts_of-newline (byte ∷ text) rest h = rw (h.0, parts_of-newline text rest h.1) refl

pub parts_of-one_line : (text : List ℕ) → IsOneLine text → parts_of text ≡ text ∷ []
parts_of-one_line [] h = refl
parts_of-one_line (byte ∷ text) h = rw (h.0, parts_of-one_line text h.1) refl

-- there is a part
pub parts_of-some : (script : List ℕ) → (part : List ℕ) × (parts : List (List ℕ)) × (parts_of script ≡ part ∷ parts)
parts_of-some [] = ([], [], refl)
parts_of-some (byte ∷ script) =
    let later = parts_of-some script in
    by_byte (byte == 10) later.0 later.1 later.2
  where
    by_byte : (b : Bool) (part : List ℕ) (parts : List (List ℕ)) → parts_of script ≡ part ∷ parts
        → (first : List ℕ) × (others : List (List ℕ)) × (cond b ([] ∷ parts_of script) (onto_first byte (parts_of script)) ≡ first ∷ others)
    by_byte true part parts e = ([], parts_of script, refl)
    by_byte false part parts e = (byte ∷ part, parts, rw e refl)

-- a script that begins with a line and its newline
pub lines_of-newline : (at : ℕ) (text rest : List ℕ) → IsOneLine text
    → lines_of at (text ++ 10 ∷ rest) ≡ record { text = text; end = at + length text + 1 } ∷ lines_of (at + length text + 1) rest
unfolding lines_of
lines_of-newline at text rest h = rw (parts_of-newline text rest h) (before text)
  where
    before : (line : List ℕ) → lines_in at (line ∷ parts_of rest) ≡ record { text = line; end = at + length line + 1 } ∷ lines_in (at + length line + 1) (parts_of rest)
    before [] = let some = parts_of-some rest in rw some.2 refl
    before (byte ∷ line) = let some = parts_of-some rest in rw some.2 refl

pub ended_lines_of-newline : (at : ℕ) (text rest : List ℕ) → IsOneLine text
    → ended_lines_of at (text ++ 10 ∷ rest) ≡ record { text = text; end = at + length text + 1 } ∷ ended_lines_of (at + length text + 1) rest
unfolding ended_lines_of
ended_lines_of-newline at text rest h =
    rw (parts_of-newline text rest h) (let some = parts_of-some rest in rw some.2 refl)

-- a script without a newline
pub lines_of-nil : (at : ℕ) → lines_of at [] ≡ []
unfolding lines_of
lines_of-nil at = refl

pub lines_of-last : (at : ℕ) (text : List ℕ) → IsOneLine text → 0 < length text → lines_of at text ≡ record { text = text; end = at + length text } ∷ []
unfolding lines_of
lines_of-last at [] h k = absurd (omega arith)
lines_of-last at (byte ∷ text) h k = rw (parts_of-one_line (byte ∷ text) h) refl

pub ended_lines_of-one_line : (at : ℕ) (text : List ℕ) → IsOneLine text → ended_lines_of at text ≡ []
unfolding ended_lines_of
ended_lines_of-one_line at text h = rw (parts_of-one_line text h) refl

-- a script begins with bytes without a newline: its first line is no shorter, and ends no earlier
pub record BeginsWith (at : ℕ) (text script : List ℕ) : Type 0 where
  pub line : Line
  pub more : List Line
  pub lines : lines_of at script ≡ line ∷ more
  pub longer : length text ≤ length line.text
  pub later : at + length text ≤ line.end

pub lines_of-begin : (at : ℕ) (text rest : List ℕ) → IsOneLine text → 0 < length text → BeginsWith at text (text ++ rest)
lines_of-begin at text rest h some = by_rest (first_newline rest)
  where
    by_rest : IsOneLine rest ⊎ ((end : List ℕ) × (behind : List ℕ) × (rest ≡ end ++ 10 ∷ behind) × IsOneLine end) → BeginsWith at text (text ++ rest)
    by_rest (inl one) = record {
      line = record { text = text ++ rest; end = at + length (text ++ rest) };
      more = [];
      lines = lines_of-last at (text ++ rest) (IsOneLine-append text rest h one) (omega (arith, length-append text rest));
      longer = omega (arith, length-append text rest);
      later = omega (arith, length-append text rest);
    }
    by_rest (inr (end, behind, is, one)) = record {
      line = record { text = text ++ end; end = at + length (text ++ end) + 1 };
      more = lines_of (at + length (text ++ end) + 1) behind;
      lines = ap (λ (bytes : List ℕ). lines_of at (text ++ bytes)) is ∙ ap (lines_of at) (sym (append_assoc text end (10 ∷ behind))) ∙ lines_of-newline at
          (text ++ end) behind (IsOneLine-append text end h one);
      longer = omega (arith, length-append text end);
      later = omega (arith, length-append text end);
    }

-- bytes of a buffer without the first ones of them
pub drop-pending : (start scanned end : ℕ) (buffer read pending : List ℕ) → read ≡ buffer → take (end - start) (drop start buffer) ≡ pending → scanned ≤ length pending → start ≤ end
    → take (end - (start + scanned)) (drop (start + scanned) read) ≡ drop scanned pending
drop-pending start scanned end buffer read pending same is h k =
    let small : scanned ≤ end - start = omega (arith, ap length is, length-take (end - start) (drop start buffer)) in
    let width : end - start ≡ scanned + (end - (start + scanned)) = omega arith in
    ap (λ (bs : List ℕ). take (end - (start + scanned)) (drop (start + scanned) bs)) same
    ∙ ap (take (end - (start + scanned))) (sym (drop-drop scanned start buffer))
    ∙ sym (drop-take scanned (end - (start + scanned)) (drop start buffer))
    ∙ ap (λ (n : ℕ). drop scanned (take n (drop start buffer))) (sym width)
    ∙ ap (drop scanned) is
