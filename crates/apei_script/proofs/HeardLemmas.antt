-- Counts of listeners that are written in pieces.
use Rattle.std.proofs.Common.{◌≡◌, ◌∙◌, ℕ, ◌≤◌, List, ◌∷◌, [], ◌++◌, length, take, drop, map, sym, ap, append_assoc}
use Rattle.std.specs.Prelude.{codes, decimal}
use Rattle.std.specs.List.{flat_map}
use Rattle.std.proofs.lemmas.List.{map-append, take-append-drop, take_all}
use Rattle.script_text.specs.Shown.{AreShown}
use Rattle.script_text.proofs.ShownLemmas.{shown_more, flat_map-append}
use Rattle.apei_script.specs.Words.{words_of_heard, reply_at}

-- the words of all counts begin with those of the first
pub heard-rest : {X : Type 0} (f : X → ℕ) (xs : List X) (k : ℕ)
    → words_of_heard (map f xs) ≡ words_of_heard (map f (take k xs)) ++ flat_map (λ (n : ℕ). codes " " ++ decimal n) (map f (drop k xs))
heard-rest {X} f xs k =
    let g : ℕ → List ℕ = λ n. codes " " ++ decimal n in
    let e : map f xs ≡ map f (take k xs) ++ map f (drop k xs) = ap (λ (ys : List X). map f ys) (sym (take-append-drop k xs)) ∙ map-append f (take k xs) (drop k xs) in
    ap words_of_heard e
    ∙ ap (λ (ys : List ℕ). codes "heard" ++ ys) (flat_map-append g (map f (take k xs)) (map f (drop k xs)))
    ∙ sym (append_assoc (codes "heard") (flat_map g (map f (take k xs))) (flat_map g (map f (drop k xs))))

-- the line of all counts
pub heard_line : {X : Type 0} (f : X → ℕ) (told : Type 0) (members : List X) (written middle held reply : List ℕ) (k step : ℕ)
    → AreShown told written middle held (words_of_heard (map f (take k members))) → length members ≤ k → reply ≡ reply_at step held
    → AreShown told written middle reply (reply_at step (words_of_heard (map f members)))
heard_line {X} f told members written middle held reply k step so few is =
    shown_more told written middle held reply (words_of_heard (map f (take k members))) (reply_at step (words_of_heard (map f members))) (codes " @" ++ (decimal step ++ 10 ∷ [])) so is
    (ap (λ (xs : List X). reply_at step (words_of_heard (map f xs))) (sym (take_all k members few)))
