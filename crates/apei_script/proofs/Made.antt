-- Replies that are made of a word and a number, or of a word and digits.
use Rattle.std.proofs.Common.{◌≡◌, ℕ, ◌+◌, ◌*◌, ◌≤◌, List, ◌++◌, length, decimal, ap, ◌∙◌, arith}
use Rattle.apei_script.specs.Replies.{IsMade}

-- a word alone
pub made_word : (reply word : List ℕ) → length word ≤ 64 → reply ≡ word → IsMade reply word
made_word reply word short text = let len = ap length text in record { text = text; room = omega (arith, len) }

-- a word and a number
pub made_number : (begun reply word : List ℕ) (n : ℕ) → length word ≤ 64 → begun ≡ word → reply ≡ begun ++ decimal n → length reply ≤ length begun + 20 → IsMade reply (word ++ decimal n)
made_number begun reply word n short begins text longer =
    let len = ap length begins in
    record { text = text ∙ ap (λ (front : List ℕ). front ++ decimal n) begins; room = omega (arith, len) }

-- a word and some digits
pub made_digits : (begun reply word digits : List ℕ) (n : ℕ) → length word ≤ 64 → begun ≡ word → reply ≡ begun ++ digits → length reply ≡ length begun + 2 * n →
    n ≤ 4096 → IsMade reply (word ++ digits)
made_digits begun reply word digits n short begins text longer few =
    let len = ap length begins in
    record { text = text ∙ ap (λ (front : List ℕ). front ++ digits) begins; room = omega (arith, len) }
