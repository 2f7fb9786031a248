-- Numbers with zeros behind them, and bits above a number.
use Rattle.std.proofs.Common.{◌≡◌, ℕ, zero, suc, ◌-◌, ◌^◌, ◌==◌, ◌<◌, ◌≤◌, List, [], ◌∷◌, ◌++◌, length, take, drop, replicate, false, refl, ap, ◌∙◌, arith, length-append, length-drop}
use Rattle.std.proofs.lemmas.List.{take_all, drop-replicate}
use Rattle.std.proofs.lemmas.Nat.Bits.{bit_at_above}
use Rattle.std.proofs.lemmas.Fmt.{length-decimal-le}
use Rattle.std.specs.Prelude.{decimal}
use Rattle.base_model.specs.Bytes.{part, number_at, little}
use Rattle.field_lines.specs.Numbers.{has_bit}

-- what stands for 0 behind bytes adds nothing
little_padded : (bytes more : List ℕ) → little more ≡ 0 → little (bytes ++ more) ≡ little bytes
little_padded [] more none = none
little_padded (byte ∷ bytes) more none = let others = little_padded bytes more none in omega (arith, others)

little_of_zeros : (n : ℕ) → little (replicate n 0) ≡ 0
little_of_zeros zero = refl
little_of_zeros (suc n) = let others = little_of_zeros n in omega (arith, others)

-- bytes that were copied over the first of eight zeros stand for the same number
pub padded_number : (bytes copied : List ℕ) → length bytes ≤ 8 → copied ≡ bytes → number_at (copied ++ drop (length bytes) (replicate 8 0)) 0 8 ≡ little bytes
unfolding number_at part
padded_number bytes copied few same =
    let zeros : List ℕ = drop (length bytes) (replicate 8 0) in
    let are_zeros : zeros ≡ replicate (8 - length bytes) 0 = drop-replicate (length bytes) 8 0 in
    let nothing : little zeros ≡ 0 = ap little are_zeros ∙ little_of_zeros (8 - length bytes) in
    let whole : length (bytes ++ zeros) ≤ 8 = omega (arith, length-append {A = ℕ} bytes zeros, length-drop {A = ℕ} (length bytes) (replicate 8 0)) in
    ap (λ (front : List ℕ). little (take 8 (front ++ zeros))) same
    ∙ ap little (take_all 8 (bytes ++ zeros) whole)
    ∙ little_padded bytes zeros nothing

pub few_digits : (number : ℕ) → number < 2 ^ 64 → length (decimal number) ≤ 20
few_digits number small = length-decimal-le 20 number (omega arith) (omega (arith, small)) small

pub no_such_bit : (number bit : ℕ) → number < 2 ^ 64 → 64 ≤ bit → has_bit number bit ≡ false
no_such_bit number bit small above = ap (λ (b : ℕ). b == 1) (bit_at_above number 64 bit small above)

-- all bytes are a part
pub whole_part : (bytes : List ℕ) (n : ℕ) → length bytes ≡ n → part bytes 0 n ≡ bytes
unfolding part
whole_part bytes n all = take_all n bytes (omega arith)

pub whole_number : (bytes : List ℕ) → length bytes ≡ 8 → number_at bytes 0 8 ≡ little bytes
unfolding number_at
whole_number bytes all = ap little (whole_part bytes 8 all)
