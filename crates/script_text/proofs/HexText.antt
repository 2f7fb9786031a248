-- Pairs of hexadecimal digits stand for bytes.
use Rattle.std.proofs.Common.{◌≡◌, ℕ, ◌+◌, ◌*◌, ◌%◌, ◌<◌, ◌≤◌, true, List, [], ◌∷◌, length, take, drop, get_or, Option, Some, None, Ok, Err, is_some, refl, sym, ap, ◌∙◌, arith}
use Rattle.std.specs.Char.{is_ascii_hexdigit}
use Rattle.std.proofs.lemmas.Bool.Decides.{nat_tests}
use Rattle.std.proofs.lemmas.List.{append-nil, drop_all}
use Rattle.std.proofs.lemmas.List.Elements.{All-get_or}
use Rattle.hex.specs.Hex.{decode_of, decode_pairs, decode_sized, digit_or_error, hex_digit_value, is_hex_digit, pair_value, value_at, ◌>>=◌}
use Rattle.hex.specs.declared.error.FromHexError.{FromHexError}
use Rattle.hex.proofs.HexLemmas.{decode_of-even}
use Rattle.hex.proofs.Pairs.{prepend}
use Rattle.script_lines.specs.Parts.{IsPairs}

-- a digit of either case is one
is_digit : (c : ℕ) → is_ascii_hexdigit c ≡ true → is_hex_digit c ≡ true
is_digit c h = grind (arith, nat_tests)

-- each byte of pairs of digits is one
pub digit_at : (hex : List ℕ) (k : ℕ) → IsPairs hex → k < length hex → is_hex_digit (get_or hex k 0) ≡ true
digit_at hex k pairs within = is_digit (get_or hex k 0) (All-get_or (λ c. is_ascii_hexdigit c ≡ true) hex k 0 within pairs.digits)

-- what a zero and a digit decode to is the digit's value
value_of : (digit : ℕ) (value : Option ℕ) (bytes : List ℕ) → (digit_or_error digit 1 value >>= (λ v. Ok (v ∷ []))) ≡ Ok bytes → value ≡ Some (get_or bytes 0 0)
value_of digit (Some v) bytes is = let e : v ∷ [] ≡ bytes = cc in rw (← e) refl
value_of digit None bytes is = cc is

with_zero : (digit : ℕ) (value : Option ℕ)
    → ((digit_or_error digit 1 value >>= (λ v. Ok (0 * 16 + v))) >>= (λ byte. Ok (byte ∷ []))) ≡ (digit_or_error digit 1 value >>= (λ v. Ok (v ∷ [])))
with_zero digit (Some v) = ap (λ (n : ℕ). Ok (n ∷ [])) (let e : 0 + v ≡ v = omega arith in e)
with_zero digit None = refl

zero_first : (digit : ℕ) → decode_sized (48 ∷ digit ∷ []) 1 ≡ (digit_or_error digit 1 (hex_digit_value digit) >>= (λ v. Ok (v ∷ [])))
unfolding decode_pairs
zero_first digit = with_zero digit (hex_digit_value digit)

pub value_read : (digit : ℕ) (bytes : List ℕ) → decode_sized (48 ∷ digit ∷ []) 1 ≡ Ok bytes → hex_digit_value digit ≡ Some (get_or bytes 0 0)
value_read digit bytes is = value_of digit (hex_digit_value digit) bytes (sym (zero_first digit) ∙ is)

-- a digit is not refused
taken : (digit : ℕ) (value : Option ℕ) (error : FromHexError) → is_some value ≡ true → (digit_or_error digit 1 value >>= (λ v. Ok (v ∷ []))) ≡ Err error → ⊥
taken digit (Some v) error some is = cc is
taken digit None error some is = cc some

pub value_taken : (digit : ℕ) (error : FromHexError) → is_hex_digit digit ≡ true → decode_sized (48 ∷ digit ∷ []) 1 ≡ Err error → ⊥
value_taken digit error some is = taken digit (hex_digit_value digit) error some (sym (zero_first digit) ∙ is)

pub value_small : (digit value : ℕ) → hex_digit_value digit ≡ Some value → value < 16
value_small digit value is = grind (arith)

-- the byte of two values
pub byte_of : (high low h l i : ℕ) → hex_digit_value high ≡ Some h → hex_digit_value low ≡ Some l → pair_value high low i ≡ Ok (h * 16 + l)
byte_of high low h l i first second =
    let high_is : value_at high i ≡ Ok h = ap (digit_or_error high i) first in
    let low_is : value_at low (i + 1) ≡ Ok l = ap (digit_or_error low (i + 1)) second in
    rw (high_is, low_is) refl

-- all pairs are read
pub all_read : (hex out : List ℕ) (n : ℕ) → length hex % 2 ≡ 0 → length hex ≤ 2 * n
    → decode_pairs 0 hex ≡ prepend (take n out) (decode_pairs (2 * n) (drop (2 * n) hex)) → decode_of hex ≡ Ok (take n out)
unfolding decode_pairs
all_read hex out n even all so_far =
    decode_of-even hex even ∙ so_far ∙ ap (prepend (take n out)) (ap (decode_pairs (2 * n)) (drop_all (2 * n) hex all)) ∙ ap Ok (append-nil (take n out))
