-- Laws of what was written of the lines of a script.
use Rattle.std.proofs.Common.{◌≡◌, ℕ, List, [], ◌∷◌, ◌++◌, refl, sym, ap, ◌∙◌, append_assoc}
use Rattle.std.proofs.lemmas.List.{append-nil}
use Rattle.std.specs.List.{flat_map}
use Rattle.apei_check.specs.Shown.{Shows, lines_text}

-- nothing was shown
pub shows_none : (told : Type 0) (written : List ℕ) → Shows told (λ shown. shown ≡ []) written written
unfolding lines_text
shows_none told written = record { lines = []; are = refl; text = λ t. sym (append-nil written) }

-- the text of one more line
pub text-push : (some : List (List (List ℕ))) (one : List (List ℕ)) → flat_map lines_text (some ++ one ∷ []) ≡ flat_map lines_text some ++ lines_text one
text-push [] one = append-nil (lines_text one)
text-push (first ∷ some) one =
    ap (λ (bs : List ℕ). lines_text first ++ bs) (text-push some one) ∙ sym (append_assoc (lines_text first) (flat_map lines_text some) (lines_text one))
