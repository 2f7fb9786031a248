-- Numbers of an access, and what is read after they are written.
use Rattle.std.proofs.Common.{◌≡◌, ◌∙◌, ℕ, zero, suc, ◌+◌, ◌-◌, ◌*◌, ◌/◌, ◌%◌, ◌<◌, ◌^◌, inl, inr, List, ◌∷◌, length, bit_and, bit_or, refl, sym, ap, subst, arith}
use Rattle.std.proofs.Math.Nat.{mod-eq_of_lt, mul_assoc, pow-suc}
use Rattle.std.proofs.lemmas.Grind.{and-not_self}
use Rattle.std.proofs.lemmas.Nat.{and_le_r, or_mod, and_or_self}
use Rattle.base_model.specs.Bytes.{little, spelled}
use Rattle.base_model.proofs.BytesLemmas.{length-spelled, little-spelled}
use Rattle.apei_tables.specs.declared.widths.Width.{Width}
use Rattle.apei_tables.specs.declared.widths.Width.TheVariants.{B8, B16, B32, B64}
use Rattle.apei_tables.specs.Access.{bits}
use Rattle.ghes_port.specs.Places.{octets}
use Rattle.ghes_port.specs.Memories.{bytes_from, with_bytes}
use Rattle.ghes_port.specs.Readers.{AreOff}
use Rattle.ghes_port.proofs.MemoryLemmas.{exact}

pub octets_fit : (access : Width) → 256 ^ octets access ≡ 2 ^ bits access
octets_fit B8 = refl
octets_fit B16 = refl
octets_fit B32 = refl
octets_fit B64 = refl

-- a mask that is cleared has no bit left
pub no_bits : (access : Width) (read mask : ℕ) → mask < 2 ^ bits access → bit_and (bit_and read (2 ^ bits access - 1 - mask)) mask ≡ 0
no_bits B8 read mask small = and-not_self read (2 ^ 8 - 1) mask mask refl (omega (arith, small)) refl
no_bits B16 read mask small = and-not_self read (2 ^ 16 - 1) mask mask refl (omega (arith, small)) refl
no_bits B32 read mask small = and-not_self read (2 ^ 32 - 1) mask mask refl (omega (arith, small)) refl
no_bits B64 read mask small = and-not_self read (2 ^ 64 - 1) mask mask refl (omega (arith, small)) refl

pub cleared_small : (access : Width) (read mask : ℕ) → mask < 2 ^ bits access → bit_and read (2 ^ bits access - 1 - mask) < 2 ^ bits access
cleared_small access read mask small = let low = and_le_r read (2 ^ bits access - 1 - mask) in omega (arith, low, small)

-- bytes that are spelled, beside others
pub spelled_off : (at n other m value : ℕ) → AreOff at n other m → AreOff at n other (length (spelled m value))
spelled_off at n other m value off = subst (λ (k : ℕ). AreOff at n other k) (sym (length-spelled m value)) off

pub spelled_from : (at n other m value : ℕ) → AreOff at n other m → AreOff at (length (spelled n value)) other m
spelled_from at n other m value off = subst (λ (k : ℕ). AreOff at k other m) (sym (length-spelled n value)) off

pub swapped : (at n other m : ℕ) → AreOff at n other m → AreOff other m at n
swapped at n other m (inl before) = inr before
swapped at n other m (inr after) = inl after

-- a number that was written is read back
pub read_back : (memory : ℕ → ℕ) (at n value : ℕ) → value < 256 ^ n → little (bytes_from (with_bytes memory at (spelled n value)) at n) ≡ value
read_back memory at n value small =
    let bytes : List ℕ = spelled n value in
    let there : bytes_from (with_bytes memory at bytes) at n ≡ bytes = subst (λ (k : ℕ). bytes_from (with_bytes memory at bytes) at k ≡ bytes) (length-spelled n value) (exact memory at bytes) in
    ap little there ∙ little-spelled n value small

-- of a longer number the low bytes are
spelled_same : (n value low high : ℕ) → value ≡ low + high * 256 ^ n → spelled n value ≡ spelled n low
unfolding spelled
spelled_same zero value low high is = refl
spelled_same (suc n) value low high is =
    let p : ℕ = high * 256 ^ n in
    let wide : value ≡ low + p * 256 = is ∙ ap (λ (x : ℕ). low + high * x) (pow-suc 256 n) ∙ ap (λ (x : ℕ). low + x) (sym (mul_assoc high (256 ^ n) 256)) in
    let first : value % 256 ≡ low % 256 = omega (arith, wide) in
    let rest : value / 256 ≡ low / 256 + p = omega (arith, wide) in
    ap (λ (x : ℕ). x ∷ spelled n (value / 256)) first ∙ ap (λ (xs : List ℕ). low % 256 ∷ xs) (spelled_same n (value / 256) (low / 256) high rest)

read_part : (memory : ℕ → ℕ) (at n value low high : ℕ) → value ≡ low + high * 256 ^ n → low < 256 ^ n
    → little (bytes_from (with_bytes memory at (spelled n value)) at n) ≡ low
read_part memory at n value low high is small =
    ap (λ (bytes : List ℕ). little (bytes_from (with_bytes memory at bytes) at n)) (spelled_same n value low high is) ∙ read_back memory at n low small

read_low : (access : Width) (memory : ℕ → ℕ) (at value : ℕ) → little (bytes_from (with_bytes memory at (spelled (octets access) value)) at (octets access)) ≡ value % 2 ^ bits access
read_low B8 memory at value = read_part memory at 1 value (value % 2 ^ 8) (value / 2 ^ 8) (omega (arith)) (omega (arith))
read_low B16 memory at value = read_part memory at 2 value (value % 2 ^ 16) (value / 2 ^ 16) (omega (arith)) (omega (arith))
read_low B32 memory at value = read_part memory at 4 value (value % 2 ^ 32) (value / 2 ^ 32) (omega (arith)) (omega (arith))
read_low B64 memory at value = read_part memory at 8 value (value % 2 ^ 64) (value / 2 ^ 64) (omega (arith)) (omega (arith))

-- bits that were set in it are read back
pub set_back : (access : Width) (memory : ℕ → ℕ) (at value mask : ℕ) → mask < 2 ^ bits access
    → bit_and (little (bytes_from (with_bytes memory at (spelled (octets access) (bit_or value mask))) at (octets access))) mask ≡ mask
set_back access memory at value mask small =
    ap (λ (x : ℕ). bit_and x mask)
    (read_low access memory at (bit_or value mask) ∙ or_mod value mask (bits access) ∙ ap (bit_or (value % 2 ^ bits access)) (mod-eq_of_lt small))
    ∙ and_or_self mask (value % 2 ^ bits access)
