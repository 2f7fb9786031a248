-- Numbers in the fields of registers.
use Rattle.std.proofs.Common.{◌≡◌, ℕ, zero, suc, ◌+◌, ◌-◌, ◌*◌, ◌/◌, ◌%◌, ◌^◌, ◌<◌, ◌≤◌, max, nat_lt, nat_le, nat_eq, ◌==◌, ◌||◌, inl, inr, Bool, true, false}
use Rattle.std.proofs.Common.{cond, if◌then◌else◌, Result, Ok, Err, refl, sym, ap, subst, arith}
use Rattle.std.proofs.lemmas.Bool.{cases_lt}
use Rattle.std.proofs.lemmas.Bool.Decides.{nat_tests}
use Rattle.std.proofs.lemmas.Grind.{common_steps}
use Rattle.std.proofs.lemmas.Nat.{pow_pos, div_below}
use Rattle.std.proofs.Math.Nat.{pow-le-pow_right, mul-lt-mul_of_pos_right, mod-eq_of_lt, mod-eq-sub-mul-div, mod-lt}
use Rattle.std.proofs.lemmas.Nat.{pow-add}
use Rattle.apei_tables.specs.declared.structure.Gas.{Gas}
use Rattle.apei_tables.specs.declared.registers.Register.{Register}
use Rattle.apei_tables.specs.declared.registers.BadRegister.{BadRegister}
use Rattle.apei_tables.specs.declared.registers.BadRegister.TheVariants.{Space, Access, Bits}
use Rattle.apei_tables.specs.declared.widths.Width.{Width}
use Rattle.apei_tables.specs.declared.widths.Width.TheVariants.{B8, B16, B32, B64}
use Rattle.apei_tables.specs.Access.{bits, bits_of_code, narrowest}
use Rattle.apei_tables.specs.Check.{checked, register_of}
use Rattle.ghes_port.specs.Setups.{lies_within}

pub wide_enough : (number width : ℕ) → number < 2 ^ 64 → 64 ≤ width → nat_le 64 width ≡ nat_lt number (2 ^ width)
wide_enough number width small wide =
    let most : 2 ^ 64 ≤ 2 ^ width = pow-le-pow_right (omega (arith)) wide in
    let less : number < 2 ^ width = omega (arith, small, most) in
    grind (arith, nat_tests, wide, less)

pub shifted_out : (number power : ℕ) → 0 < power → nat_eq (number / power) 0 ≡ nat_lt number power
shifted_out number power some = elim (cases_lt number power) [
  | inl less ↦
      let below : number / power < 1 = div_below number power 1 some (omega (arith, less)) in
      let none : number / power ≡ 0 = omega (arith, below) in
      grind (arith, nat_tests, none, less)
  | inr more ↦ grind (arith, nat_tests, has_one number power some more, more)
]
  where
    has_one : (number power : ℕ) → 0 < power → power ≤ number → 0 < number / power
    has_one number power some more = elim (cases_lt 0 (number / power)) [
      | inl has ↦ has
      | inr none ↦
          let is : number / power ≡ 0 = omega (arith, none) in
          let times : power * (number / power) ≡ power * 0 = ap (λ (q : ℕ). power * q) is in
          let none_left : power * 0 ≡ 0 = omega (arith) in
          let left : number % power ≡ number - power * (number / power) = mod-eq-sub-mul-div number power in
          let less : number % power < power = mod-lt number some in
          absurd (omega (arith, times, none_left, left, less, more))
    ]

-- a mask that lies within an access is moved up whole, and keeps a bit
width_most : (access : Width) → 2 ^ bits access ≤ 2 ^ 64
width_most B8 = omega (arith)
width_most B16 = omega (arith)
width_most B32 = omega (arith)
width_most B64 = omega (arith)

product_some : (a b : ℕ) → 0 < a → 0 < b → 0 < a * b
product_some zero b h k = absurd (omega (arith, h))
product_some (suc a) b h k = omega (arith, k)

pub has_bits : (mask offset : ℕ) (access : Width) → 0 < mask → mask * 2 ^ offset < 2 ^ bits access
    → (0 < mask * 2 ^ offset % 2 ^ 64) × (mask * 2 ^ offset % 2 ^ 64 < 2 ^ bits access)
has_bits mask offset access some inside =
    let most = width_most access in
    let whole : mask * 2 ^ offset % 2 ^ 64 ≡ mask * 2 ^ offset = mod-eq_of_lt (omega (arith, inside, most)) in
    subst (λ (n : ℕ). (0 < n) × (n < 2 ^ bits access)) (sym whole) (product_some mask (2 ^ offset) some (pow_pos offset), inside)

-- the narrowest access of so many bits has them
reaches : (n : ℕ) → n ≤ 64 → n ≤ bits (narrowest n)
reaches n few = go (nat_le n 8) (nat_le n 16) (nat_le n 32) refl refl refl
  where
    go : (a b c : Bool) → nat_le n 8 ≡ a → nat_le n 16 ≡ b → nat_le n 32 ≡ c → n ≤ bits (if a then B8 else (if b then B16 else (if c then B32 else B64)))
    go true b c is_a is_b is_c = grind (arith, nat_tests, is_a)
    go false true c is_a is_b is_c = grind (arith, nat_tests, is_b)
    go false false true is_a is_b is_c = grind (arith, nat_tests, is_c)
    go false false false is_a is_b is_c = few

code_few : (code : ℕ) → bits_of_code code ≤ 64
code_few code = go (code == 0) (code == 1) (code == 2) (code == 3)
  where
    go : (a b c d : Bool) → (if a then 0 else (if b then 8 else (if c then 16 else (if d then 32 else 64)))) ≤ 64
    go true b c d = omega (arith)
    go false true c d = omega (arith)
    go false false true d = omega (arith)
    go false false false true = omega (arith)
    go false false false false = omega (arith)

max_few : (a b : ℕ) → a ≤ 64 → b ≤ 64 → max a b ≤ 64
max_few a b few other = omega (arith, few, other)

max_left : (a b : ℕ) → a ≤ max a b
max_left a b = omega (arith)

-- a register that is found is that of its structure, and its access reaches the field's last bit
pub record Found (gas : Gas) (register : Register) : Type 0 where
  pub is : register ≡ register_of gas
  pub offset : gas.offset < 64
  pub reach : gas.offset + gas.width ≤ bits (register_of gas).access

pub found : (gas : Gas) (register : Register) → checked gas ≡ Ok register → Found gas register
found gas register e = go (nat_lt 1 gas.space) (nat_lt 4 gas.access) (gas.width == 0) (nat_lt 64 (gas.offset + gas.width)) refl refl e
  where
    go : (a b c d : Bool) → (gas.width == 0) ≡ c → nat_lt 64 (gas.offset + gas.width) ≡ d
        → cond {A = Result Register BadRegister} a (Err (Space gas.space))
        (cond {A = Result Register BadRegister} b (Err (Access gas.access)) (cond {A = Result Register BadRegister} (c || d) (Err (Bits gas.offset gas.width)) (Ok (register_of gas))))
        ≡ Ok register
        → Found gas register
    go false false false false wide is e =
        let few : gas.offset + gas.width ≤ 64 = grind (arith, nat_tests, is) in
        let most = max_few (gas.offset + gas.width) (bits_of_code gas.access) few (code_few gas.access) in
        let low = reaches (max (gas.offset + gas.width) (bits_of_code gas.access)) most in
        let left = max_left (gas.offset + gas.width) (bits_of_code gas.access) in
        let some : 0 < gas.width = grind (arith, nat_tests, wide) in
        record { offset = omega (arith, few, some); is = (let f : register_of gas ≡ register = cc in sym f); reach = omega (arith, low, left) }
    go false false false true wide is e = absurd cc
    go false false true d wide is e = absurd cc
    go false true c d wide is e = absurd cc
    go true b c d wide is e = absurd cc

-- a number that its field has room for lies within the access
pub fits_field : (gas : Gas) (register : Register) (number : ℕ) → checked gas ≡ Ok register → number < 2 ^ gas.width → number * 2 ^ register.offset < 2 ^ bits register.access
fits_field gas register number is small =
    let f = found gas register is in
    let some = pow_pos gas.offset in
    let moved : number * 2 ^ gas.offset < 2 ^ gas.width * 2 ^ gas.offset = mul-lt-mul_of_pos_right small some in
    let both : 2 ^ (gas.width + gas.offset) ≡ 2 ^ gas.width * 2 ^ gas.offset = pow-add 2 gas.width gas.offset in
    let reach = f.reach in
    let high : 2 ^ (gas.width + gas.offset) ≤ 2 ^ bits (register_of gas).access = pow-le-pow_right (omega (arith)) (omega (arith, reach)) in
    subst (λ (r : Register). number * 2 ^ r.offset < 2 ^ bits r.access) (sym f.is) (omega (arith, moved, both, high))

pub is_below : (n m : ℕ) → nat_lt n m ≡ true → n < m
is_below n m is = elim (cases_lt n m) [ inl below ↦ below | inr above ↦ grind (arith, common_steps, is, above) ]

pub inside_is : (number : ℕ) (register : Register) → lies_within number register ≡ true → number * 2 ^ register.offset < 2 ^ bits register.access
inside_is number register is = is_below (number * 2 ^ register.offset) (2 ^ bits register.access) is
