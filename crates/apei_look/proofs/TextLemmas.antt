-- Texts one after another.
use Rattle.std.proofs.Common.{◌≡◌, ◌∙◌, ℕ, ◌+◌, List, ◌++◌, append_assoc}

-- two labels with what stands behind each, and an end
pub behind_one_another : (old label said label' said' end : List ℕ)
    → ((old ++ (label ++ said)) ++ (label' ++ said')) ++ end ≡ old ++ ((((label ++ said) ++ label') ++ said') ++ end)
behind_one_another old label said label' said' end = simp append_assoc

-- the pieces of one `write!`
pub four_pieces : (old a b c d : List ℕ) → old ++ (a ++ (b ++ (c ++ d))) ≡ old ++ (((a ++ b) ++ c) ++ d)
four_pieces old a b c d = simp append_assoc

pub five_pieces : (old a b c d e : List ℕ) → old ++ (a ++ (b ++ (c ++ (d ++ e)))) ≡ old ++ ((((a ++ b) ++ c) ++ d) ++ e)
five_pieces old a b c d e = simp append_assoc

pub six_pieces : (old a b c d e f : List ℕ) → old ++ (a ++ (b ++ (c ++ (d ++ (e ++ f))))) ≡ old ++ (((((a ++ b) ++ c) ++ d) ++ e) ++ f)
six_pieces old a b c d e f = simp append_assoc

-- three pieces, and a text behind them
pub pieces_and_text : (old a b c said : List ℕ) → (old ++ (a ++ (b ++ c))) ++ said ≡ old ++ (((a ++ b) ++ c) ++ said)
pieces_and_text old a b c said = simp append_assoc

pub three_pieces : (old a b c : List ℕ) → old ++ (a ++ (b ++ c)) ≡ old ++ ((a ++ b) ++ c)
three_pieces old a b c = simp append_assoc

-- three texts, each behind the one before it
pub three_texts : (old a b c : List ℕ) → ((old ++ a) ++ b) ++ c ≡ old ++ ((a ++ b) ++ c)
three_texts old a b c = simp append_assoc
