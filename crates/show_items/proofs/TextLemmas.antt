-- Texts, each behind the one before it.
use Rattle.std.proofs.Common.{◌≡◌, ◌∙◌, ℕ, List, [], ◌++◌, ap, sym, append_assoc, append-nil}

three_texts : (old a b c : List ℕ) → ((old ++ a) ++ b) ++ c ≡ old ++ ((a ++ b) ++ c)
three_texts old a b c = simp append_assoc

pub three_added : (old a b c one two three : List ℕ) → one ≡ old ++ a → two ≡ one ++ b → three ≡ two ++ c → three ≡ old ++ ((a ++ b) ++ c)
three_added old a b c one two three first second third = third ∙ ap (λ (t : List ℕ). t ++ c) (second ∙ ap (λ (t : List ℕ). t ++ b) first) ∙ three_texts old a b c

-- one group, behind its comma
pub one_group : (old comma group one two : List ℕ) → one ≡ old ++ comma → two ≡ one ++ group → two ≡ old ++ ((comma ++ group) ++ [])
one_group old comma group one two first second =
    second ∙ ap (λ (t : List ℕ). t ++ group) first ∙ append_assoc old comma group ∙ ap (λ (t : List ℕ). old ++ t) (sym (append-nil (comma ++ group)))
