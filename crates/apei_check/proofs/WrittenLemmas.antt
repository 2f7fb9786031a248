-- Lines that are written one after another.
use Rattle.std.proofs.Common.{◌≡◌, ℕ, ◌+◌, ◌-◌, ◌<◌, List, [], ◌∷◌, ◌++◌, length, take, drop, get_or, min, refl, sym, ap, subst, ◌∙◌, arith, append_assoc, length-append, Bool, true, false}
use Rattle.std.specs.Prelude.{if◌then◌else◌, ◌==◌}
use Rattle.std.proofs.lemmas.List.{take-append-drop, take-append-le, take_more, take_min, length-take, append-nil}
use Rattle.std.proofs.Math.Seq.{take-append-add}
use Rattle.apei_check.specs.Shown.{lines_text, lines_shown}
use Rattle.apei_check.specs.declared.text.show.Show.{Show}
use Rattle.apei_check.specs.Written.{Writes, WritesPart}
use Rattle.std.specs.Int.RustNames.{bit_and}

pub lines_text_none : lines_text [] ≡ []
unfolding lines_text
lines_text_none = refl

pub lines_text_one : (line : List ℕ) → lines_text (line ∷ []) ≡ line ++ 10 ∷ []
unfolding lines_text
lines_text_one line = refl

pub lines_text_append : (xs ys : List (List ℕ)) → lines_text (xs ++ ys) ≡ lines_text xs ++ lines_text ys
unfolding lines_text
lines_text_append [] ys = refl
lines_text_append (x ∷ xs) ys =
    ap (λ (t : List ℕ). x ++ 10 ∷ t) (lines_text_append xs ys) ∙ sym (append_assoc x (10 ∷ lines_text xs) (lines_text ys))

-- no line is written by writing nothing
pub wrote_nothing : (told : Type 0) (written : List ℕ) → Writes told [] written written
wrote_nothing told written t = sym (append-nil written) ∙ ap (λ (x : List ℕ). written ++ x) (sym lines_text_none)

pub wrote_more : (told : Type 0) (xs ys : List (List ℕ)) (a b c : List ℕ) → Writes told xs a b → Writes told ys b c → Writes told (xs ++ ys) a c
wrote_more told xs ys a b c first second t =
    second t ∙ ap (λ (x : List ℕ). x ++ lines_text ys) (first t) ∙ append_assoc a (lines_text xs) (lines_text ys) ∙ ap (λ (x : List ℕ). a ++ x) (sym (lines_text_append xs ys))

-- lines were written, and then a beginning of more
pub wrote_and_part : (told : Type 0) (xs ys : List (List ℕ)) (a b c : List ℕ) → Writes told xs a b → WritesPart told ys b c → WritesPart told (xs ++ ys) a c
wrote_and_part told xs ys a b c first second = record {
  count = length (lines_text xs) + second.count;
  text = λ t.
      second.text t
      ∙ ap (λ (x : List ℕ). x ++ take second.count (lines_text ys)) (first t)
      ∙ append_assoc a (lines_text xs) (take second.count (lines_text ys))
      ∙ ap (λ (x : List ℕ). a ++ x) (sym (take-append-add (lines_text xs) (lines_text ys) second.count))
      ∙ ap (λ (x : List ℕ). a ++ take (length (lines_text xs) + second.count) x) (sym (lines_text_append xs ys));
}

-- a beginning of some lines is one of these with more behind them
pub wrote_part_of_more : (told : Type 0) (xs ys : List (List ℕ)) (a b : List ℕ) → WritesPart told xs a b → WritesPart told (xs ++ ys) a b
wrote_part_of_more told xs ys a b part = record {
  count = min part.count (length (lines_text xs));
  text = λ t. part.text t ∙ ap (λ (x : List ℕ). a ++ x) (same ∙ ap (take (min part.count (length (lines_text xs)))) (sym (lines_text_append xs ys)));
}
  where
    same : take part.count (lines_text xs) ≡ take (min part.count (length (lines_text xs))) (lines_text xs ++ lines_text ys)
    same = sym (take_min part.count (lines_text xs)) ∙ sym (take-append-le (min part.count (length (lines_text xs))) (lines_text xs) (lines_text ys) (omega arith))

-- how much of a text was appended is told by the lengths
pub appended_count : (a b text : List ℕ) → (n : ℕ) × (b ≡ a ++ take n text) → b ≡ a ++ take (length b - length a) text
appended_count a b text (n, e) = e ∙ ap (λ (x : List ℕ). a ++ x) (sym (take_min n text) ∙ ap (λ (k : ℕ). take k text) many)
  where
    long : length b ≡ length a + min n (length text)
    long = ap (λ (x : List ℕ). length x) e ∙ length-append a (take n text) ∙ ap (λ (k : ℕ). length a + k) (length-take n text)

    many : min n (length text) ≡ length b - length a
    many = omega (arith, long)

one_more : (lines : List (List ℕ)) (i : ℕ) (line : List ℕ) → i < length lines → line ≡ get_or lines i [] → take (i + 1) lines ≡ take i lines ++ line ∷ []
one_more lines i line within is = take_more lines i [] within ∙ ap (λ (x : List ℕ). take i lines ++ x ∷ []) (sym is)

-- the next of some lines was written behind those before it
pub wrote_next : (told : Type 0) (lines : List (List ℕ)) (i : ℕ) (line a b c : List ℕ) → i < length lines → line ≡ get_or lines i []
    → Writes told (take i lines) a b → Writes told (line ∷ []) b c → Writes told (take (i + 1) lines) a c
wrote_next told lines i line a b c within is first second =
    subst (λ (xs : List (List ℕ)). Writes told xs a c) (sym (one_more lines i line within is)) (wrote_more told (take i lines) (line ∷ []) a b c first second)

-- a beginning of it
pub wrote_part_of_next : (told : Type 0) (lines : List (List ℕ)) (i : ℕ) (line a b c : List ℕ) → i < length lines → line ≡ get_or lines i []
    → Writes told (take i lines) a b → WritesPart told (line ∷ []) b c → WritesPart told lines a c
wrote_part_of_next told lines i line a b c within is first second =
    subst (λ (xs : List (List ℕ)). WritesPart told xs a c) (take-append-drop (i + 1) lines)
    (wrote_part_of_more told (take (i + 1) lines) (drop (i + 1) lines) a c
    (subst (λ (xs : List (List ℕ)). WritesPart told xs a c) (sym (one_more lines i line within is)) (wrote_and_part told (take i lines) (line ∷ []) a b c first second)))

-- what is not asked for is written by writing nothing
pub wrote_unasked : (told : Type 0) (lines : List (List ℕ)) (a : List ℕ) (asked is : Bool) → asked ≡ is → asked ≡ false → Writes told (if is then lines else []) a a
wrote_unasked told lines a asked is same off = subst (λ (b : Bool). Writes told (if b then lines else []) a a) (sym off ∙ same) (wrote_nothing told a)

-- the line on the whole, and then those on the parts
pub wrote_shown : (told : Type 0) (show : Show) (line head : List ℕ) (parts : List (List ℕ)) (a b c : List ℕ) → line ≡ head
    → Writes told (if (bit_and show.0 1 == 1) then line ∷ [] else []) a b → Writes told (if (bit_and show.0 2 == 2) then parts else []) b c → Writes told (lines_shown show head parts) a c
wrote_shown told show line head parts a b c is first second =
    wrote_more told (if (bit_and show.0 1 == 1) then head ∷ [] else []) (if (bit_and show.0 2 == 2) then parts else []) a b c
    (subst (λ (x : List ℕ). Writes told (if (bit_and show.0 1 == 1) then x ∷ [] else []) a b) is first) second

-- the line on the whole, and then a beginning of those on the parts
pub wrote_parts_broken : (told : Type 0) (show : Show) (line head : List ℕ) (parts : List (List ℕ)) (a b c : List ℕ) → line ≡ head
    → Writes told (if (bit_and show.0 1 == 1) then line ∷ [] else []) a b → WritesPart told (if (bit_and show.0 2 == 2) then parts else []) b c → WritesPart told (lines_shown show head parts) a c
wrote_parts_broken told show line head parts a b c is first second =
    wrote_and_part told (if (bit_and show.0 1 == 1) then head ∷ [] else []) (if (bit_and show.0 2 == 2) then parts else []) a b c
    (subst (λ (x : List ℕ). Writes told (if (bit_and show.0 1 == 1) then x ∷ [] else []) a b) is first) second

-- a beginning of the line on the whole
pub wrote_head_broken : (told : Type 0) (show : Show) (line head : List ℕ) (parts : List (List ℕ)) (a b : List ℕ) → line ≡ head
    → WritesPart told (if (bit_and show.0 1 == 1) then line ∷ [] else []) a b → WritesPart told (lines_shown show head parts) a b
wrote_head_broken told show line head parts a b is first =
    wrote_part_of_more told (if (bit_and show.0 1 == 1) then head ∷ [] else []) (if (bit_and show.0 2 == 2) then parts else []) a b
    (subst (λ (x : List ℕ). WritesPart told (if (bit_and show.0 1 == 1) then x ∷ [] else []) a b) is first)

-- the same where those on the parts are asked for
pub wrote_item : (told : Type 0) (show : Show) (line : List ℕ) (parts : List (List ℕ)) (a b c : List ℕ) (asked : Bool) → asked ≡ (bit_and show.0 2 == 2) → asked ≡ true
    → Writes told (if (bit_and show.0 1 == 1) then line ∷ [] else []) a b → Writes told parts b c → Writes told (lines_shown show line parts) a c
wrote_item told show line parts a b c asked is on first second =
    wrote_shown told show line line parts a b c refl first (subst (λ (x : Bool). Writes told (if x then parts else []) b c) (sym on ∙ is) second)

pub wrote_item_part : (told : Type 0) (show : Show) (line : List ℕ) (parts : List (List ℕ)) (a b c : List ℕ) (asked : Bool) → asked ≡ (bit_and show.0 2 == 2) → asked ≡ true
    → Writes told (if (bit_and show.0 1 == 1) then line ∷ [] else []) a b → WritesPart told parts b c → WritesPart told (lines_shown show line parts) a c
wrote_item_part told show line parts a b c asked is on first second =
    wrote_parts_broken told show line line parts a b c refl first (subst (λ (x : Bool). WritesPart told (if x then parts else []) b c) (sym on ∙ is) second)

-- the line on an item without parts
pub wrote_head_alone : (told : Type 0) (show : Show) (line head : List ℕ) (a b : List ℕ) → line ≡ head
    → Writes told (if (bit_and show.0 1 == 1) then line ∷ [] else []) a b → Writes told (lines_shown show head []) a b
wrote_head_alone told show line head a b is first =
    wrote_shown told show line head [] a b b is first (none (bit_and show.0 2 == 2))
  where
    none : (shown : Bool) → Writes told (if shown then [] else []) b b
    none true = wrote_nothing told b
    none false = wrote_nothing told b
