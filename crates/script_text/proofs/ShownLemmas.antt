-- Words that are written in pieces.
use Rattle.std.proofs.Common.{◌≡◌, ◌∙◌, ℕ, ◌+◌, min, suc, List, [], ◌∷◌, ◌++◌, length, take, map, refl, sym, ap, append_assoc, arith, add-one, zero, ◌<◌}
use Rattle.std.specs.Prelude.{codes, decimal, IfSome, slice_get}
use Rattle.std.specs.List.{flat_map}
use Rattle.std.proofs.lemmas.List.{append-nil, flat_map_more, take_min, take-append-le}
use Rattle.script_text.specs.ReplyWords.{words_of_heard}
use Rattle.script_text.specs.Shown.{AreShown, IsPartWritten}

pub shown_none : (told_sink : Type 0) (written reply words : List ℕ) → reply ≡ words → AreShown told_sink written written reply words
shown_none told_sink written reply words is = record { shown = []; text = λ _. sym (append-nil written); words_are = is }

-- a part, and then a part of what was in hand
pub shown_then : (told_sink : Type 0) (written middle now reply held words : List ℕ) → AreShown told_sink written middle held words →
    AreShown told_sink middle now reply held → AreShown told_sink written now reply words
shown_then told_sink written middle now reply held words first then = record {
  shown = first.shown ++ then.shown;
  text = λ t. then.text t ∙ ap (λ (xs : List ℕ). xs ++ then.shown) (first.text t) ∙ append_assoc written first.shown then.shown;
  words_are = append_assoc first.shown then.shown reply ∙ ap (λ (xs : List ℕ). first.shown ++ xs) then.words_are ∙ first.words_are;
}

-- more words
pub shown_more : (told_sink : Type 0) (written written_now reply reply_now words words_now more : List ℕ) → AreShown told_sink written written_now reply words → reply_now ≡ reply ++ more
    → words_now ≡ words ++ more → AreShown told_sink written written_now reply_now words_now
shown_more told_sink written written_now reply reply_now words words_now more so is are = record {
  shown = so.shown;
  text = so.text;
  words_are = ap (λ (xs : List ℕ). so.shown ++ xs) is ∙ sym (append_assoc so.shown reply more) ∙ ap (λ (xs : List ℕ). xs ++ more) so.words_are ∙ sym are;
}

-- all of it was written
pub shown_all : (told_sink : Type 0) (written written_now written_then reply words : List ℕ) → AreShown told_sink written written_now reply words → (told_sink → written_then ≡ written_now ++ reply)
    → told_sink → written_then ≡ written ++ words
shown_all told_sink written written_now written_then reply words so text t =
    text t ∙ ap (λ (xs : List ℕ). xs ++ reply) (so.text t) ∙ append_assoc written so.shown reply ∙ ap (λ (xs : List ℕ). written ++ xs) so.words_are

take_behind : (xs ys : List ℕ) (n : ℕ) → take (length xs + n) (xs ++ ys) ≡ xs ++ take n ys
take_behind [] ys n = let e : 0 + n ≡ n = omega arith in ap (λ (k : ℕ). take k ys) e
take_behind (x ∷ xs) ys n = let e : suc (length xs) + n ≡ suc (length xs + n) = omega arith in ap (λ (k : ℕ). take k (x ∷ (xs ++ ys))) e ∙ ap (λ (zs : List ℕ). x ∷ zs) (take_behind xs ys n)

-- a part of the reply in hand is a part of all words that there will be
pub shown_part : (told_sink : Type 0) (written written_now written_then reply words rest whole : List ℕ) → AreShown told_sink written written_now reply words → whole ≡ words ++ rest
    → (told_sink → IsPartWritten reply written_now written_then) → told_sink → IsPartWritten whole written written_then
shown_part told_sink written written_now written_then reply words rest whole so is text t =
    let part = text t in
    let m = min part.0 (length reply) in
    let cut : take m (reply ++ rest) ≡ take part.0 reply = take-append-le m reply rest (omega arith) ∙ take_min part.0 reply in
    let split : whole ≡ so.shown ++ (reply ++ rest) = is ∙ ap (λ (xs : List ℕ). xs ++ rest) (sym so.words_are) ∙ append_assoc so.shown reply rest in (
      length so.shown + m,
      part.1 ∙ ap (λ (xs : List ℕ). xs ++ take part.0 reply) (so.text t) ∙ append_assoc written so.shown (take part.0 reply)
          ∙ ap (λ (xs : List ℕ). written ++ xs) (ap (λ (xs : List ℕ). so.shown ++ xs) (sym cut) ∙ sym (take_behind so.shown (reply ++ rest) m) ∙ ap (take (length so.shown + m)) (sym split)),
    )

-- one count more
counts-suc : {X : Type 0} (f : X → ℕ) (xs : List X) (k n : ℕ) → k < length xs → IfSome (slice_get xs k) (λ b. n ≡ f b) → map f (take (suc k) xs) ≡ map f (take k xs) ++ n ∷ []
counts-suc f [] k n h is = absurd (omega (arith, h))
counts-suc f (x ∷ xs) zero n h is = ap (λ (m : ℕ). m ∷ []) (sym is)
counts-suc f (x ∷ xs) (suc k) n h is = ap (λ (ys : List ℕ). f x ∷ ys) (counts-suc f xs k n (omega (arith, h)) is)

pub heard-more : {X : Type 0} (f : X → ℕ) (xs : List X) (k n : ℕ) → k < length xs → IfSome (slice_get xs k) (λ b. n ≡ f b)
    → words_of_heard (map f (take (k + 1) xs)) ≡ words_of_heard (map f (take k xs)) ++ (codes " " ++ decimal n)
heard-more {X} f xs k n h is =
    let e : map f (take (k + 1) xs) ≡ map f (take k xs) ++ n ∷ [] = ap (λ (j : ℕ). map f (take j xs)) (add-one k) ∙ counts-suc f xs k n h is in
    ap words_of_heard e ∙ sym (flat_map_more (λ (m : ℕ). codes " " ++ decimal m) (codes "heard") (map f (take k xs)) n)

pub flat_map-append : {X A : Type 0} (f : X → List A) (xs ys : List X) → flat_map f (xs ++ ys) ≡ flat_map f xs ++ flat_map f ys
flat_map-append f [] ys = refl
flat_map-append {X} {A} f (x ∷ xs) ys = ap (λ (zs : List A). f x ++ zs) (flat_map-append f xs ys) ∙ sym (append_assoc (f x) (flat_map f xs) (flat_map f ys))
