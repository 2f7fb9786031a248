-- Sums of words.
use Rattle.std.proofs.Common.{◌≡◌, ℕ, zero, suc, ◌+◌, ◌*◌, ◌≤◌, List, ◌++◌, length, refl, arith, add-one}
use Rattle.base_model.specs.Bytes.{number_at}
use Rattle.apei_bytes.proofs.Parts.{number_at-front}
use Rattle.image_survey.specs.Checksums.{word_sum}

pub word_sum-next : (bytes : List ℕ) (n : ℕ) → word_sum (n + 1) bytes ≡ word_sum n bytes + number_at bytes (4 * n) 4
unfolding word_sum
word_sum-next bytes n = rw (add-one n) refl

-- the words of a front
pub word_sum-front : (bytes more : List ℕ) (n : ℕ) → 4 * n ≤ length bytes → word_sum n (bytes ++ more) ≡ word_sum n bytes
unfolding word_sum
word_sum-front bytes more zero fits = refl
word_sum-front bytes more (suc n) fits =
    let before : word_sum n (bytes ++ more) ≡ word_sum n bytes = word_sum-front bytes more n (omega arith) in
    let last : number_at (bytes ++ more) (4 * n) 4 ≡ number_at bytes (4 * n) 4 = number_at-front bytes more (4 * n) 4 (omega arith) in
    cc
