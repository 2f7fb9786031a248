-- Sums of words of 32 bits.
use Rattle.std.specs.Prelude.{ℕ, zero, suc, ◌+◌, ◌*◌, List}
use Rattle.base_model.specs.Bytes.{number_at}

-- what the first n words add to
unfoldable pub word_sum : ℕ → List ℕ → ℕ
word_sum zero bytes = 0
word_sum (suc n) bytes = word_sum n bytes + number_at bytes (4 * n) 4
