-- Where the registers and the log range of a port stand.
use Rattle.std.proofs.Common.{◌≡◌, ℕ, ◌+◌, ◌-◌, ◌^◌, ◌<◌, ◌≤◌, ◌⊎◌, Bool, true, false, length, Option, Some, None, refl, ap, inl, inr, ◌∙◌, arith}
use Rattle.std.specs.Prelude.{nat_le, nat_lt, ◌&&◌, ◌||◌, if◌then◌else◌}
use Rattle.std.proofs.lemmas.Bool.Decides.{nat_tests}
use Rattle.apei_tables.specs.declared.registers.Place.TheVariants.{Memory}
use Rattle.erst_machine.specs.Areas.{holds}
use Rattle.erst_port.specs.declared.windows.Addresses.{Addresses}
use Rattle.erst_port.specs.declared.windows.Location.TheVariants.{Bytes, Nowhere}
use Rattle.erst_port.specs.declared.windows.Window.{Window}
use Rattle.erst_port.specs.declared.windows.Window.TheVariants.{Registers, LogRange}
use Rattle.erst_port.specs.Places.{are_apart, range_location}
use Rattle.erst_port.specs.PortState.{PortState}
use Rattle.port_laws.specs.PortSpaces.{place_in}

abbrev either : Bool → (first second : Option (Window × ℕ)) → Option (Window × ℕ)
either held first second = if held then first else second

-- a window holds the bytes behind its begin
held_in : (base size k : ℕ) (held : Bool) → holds base size (base + k) ≡ held → k < size → (window : Window) (rest : Option (Window × ℕ)) →
    either held (Some (window, base + k - base)) rest ≡ Some (window, k)
held_in base size k true is below window rest = ap (λ (n : ℕ). Some (window, n)) (omega arith)
held_in base size k false is below window rest = grind (arith, nat_tests)

-- and no others
held_out : (base size at : ℕ) (held : Bool) → holds base size at ≡ held → (at < base) ⊎ (base + size ≤ at) → (first rest : Option (Window × ℕ)) → either held first rest ≡ rest
held_out base size at true is (inl before) first rest = grind (arith, nat_tests)
held_out base size at true is (inr behind) first rest = grind (arith, nat_tests)
held_out base size at false is out first rest = refl

-- windows that are apart
pub record AreApart (size : ℕ) (addresses : Addresses) : Type 0 where
  pub registers : addresses.registers + 16 < 2 ^ 64
  pub range : addresses.range + size < 2 ^ 64
  pub apart : (addresses.registers + 16 ≤ addresses.range) ⊎ (addresses.range + size ≤ addresses.registers)

both : (a b : Bool) → (a && b) ≡ true → (a ≡ true) × (b ≡ true)
both true true is = (refl, refl)
both true false is = absurd (cc is)
both false b is = absurd (cc is)

one_of : (a b : Bool) → (a || b) ≡ true → (a ≡ true) ⊎ (b ≡ true)
one_of true b is = inl refl
one_of false b is = inr is

one_holds : (a b c d : ℕ) → (nat_le a b ≡ true) ⊎ (nat_le c d ≡ true) → (a ≤ b) ⊎ (c ≤ d)
one_holds a b c d (inl is) = inl (grind (arith, nat_tests))
one_holds a b c d (inr is) = inr (grind (arith, nat_tests))

below : (a b : ℕ) → nat_lt a b ≡ true → a < b
below a b is = grind (arith, nat_tests)

pub apart_says : (size : ℕ) (addresses : Addresses) → are_apart size addresses ≡ true → AreApart size addresses
unfolding are_apart
apart_says size addresses is =
    let first = both _ _ is in
    let second = both _ _ first.0 in
    record {
      registers = below (addresses.registers + 16) (2 ^ 64) second.0;
      range = below (addresses.range + size) (2 ^ 64) second.1;
      apart = one_holds (addresses.registers + 16) addresses.range (addresses.range + size) addresses.registers (one_of _ _ first.1);
    }

pub place-register : (port : PortState) (k : ℕ) → k < 16 → place_in port (Memory (port.addresses.registers + k)) ≡ Some (Registers, k)
place-register port k small = held_in port.addresses.registers 16 k (holds port.addresses.registers 16 (port.addresses.registers + k)) refl small Registers _

out_of : (registers range size k : ℕ) → (registers + 16 ≤ range) ⊎ (range + size ≤ registers) → k < size → (range + k < registers) ⊎ (registers + 16 ≤ range + k)
out_of registers range size k (inl before) small = inr (omega (arith, before))
out_of registers range size k (inr behind) small = inl (omega (arith, behind, small))

pub place-range : (port : PortState) (k : ℕ) → are_apart (length port.range) port.addresses ≡ true → k < length port.range → place_in port (Memory (port.addresses.range + k)) ≡ Some (LogRange, k)
place-range port k apart small =
    held_out port.addresses.registers 16 (port.addresses.range + k) (holds port.addresses.registers 16 (port.addresses.range + k)) refl
    (out_of port.addresses.registers port.addresses.range (length port.range) k (apart_says (length port.range) port.addresses apart).apart small) _ _
    ∙ held_in port.addresses.range (length port.range) k (holds port.addresses.range (length port.range) (port.addresses.range + k)) refl small LogRange None

-- bytes that are in the log range
pub range-bytes : (size k n : ℕ) → k + n ≤ size → range_location size k n ≡ Bytes k
range-bytes size k n fits = by_test (nat_le (k + n) size) refl
  where
    by_test : (test : Bool) → nat_le (k + n) size ≡ test → (if test then Bytes k else Nowhere) ≡ Bytes k
    by_test true is = refl
    by_test false is = grind (arith, nat_tests)
