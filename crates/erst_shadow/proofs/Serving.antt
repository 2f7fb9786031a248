-- What a move needs of a space: that no call on its four registers or on the two memories is refused, and what each does.
use Rattle.std.specs.Prelude.{◌≡◌, ℕ, zero, suc, ◌+◌, ◌*◌, ◌<◌, ◌^◌, Result, Ok}
use Rattle.apei_tables.specs.declared.registers.Place.TheVariants.{Memory}
use Rattle.apei_tables.specs.declared.widths.Width.TheVariants.{B64}
use Rattle.apei_space.specs.declared.faults.SpaceFault.{SpaceFault}
use Rattle.apei_space.specs.Calls.{Call, Read, Write, Copy}
use Rattle.erst_shadow.specs.MoveEntries.{MoveRegister, Offset, Source, Target, Length, address_of}

-- `fits` says from which states; it may name the one in which the move began, and what stays as it was there. A piece is 128 bytes
pub record ServesMove {W : Type 0} (allows : W → Call → W → Type 0) (fits : W → Type 0) (from target count : ℕ) : Type 0 where
  -- the number in a register, the space with a number put into one, and the space with a piece copied
  pub value : MoveRegister → W → ℕ
  pub put : MoveRegister → ℕ → W → W
  pub copied : ℕ → W → W
  pub reads : (w v : W) (r : MoveRegister) (answer : Result ℕ SpaceFault) → fits w → allows w (Read (Memory (address_of r)) B64 answer) v → (answer ≡ Ok (value r w)) × (v ≡ w)
  pub writes : (w v : W) (r : MoveRegister) (n : ℕ) (answer : Result (Unit {0}) SpaceFault) → fits w → allows w (Write (Memory (address_of r)) B64 n answer) v → (answer ≡ Ok tt) × (v ≡ put r n w)
  pub copies : (w v : W) (i : ℕ) (answer : Result (Unit {0}) SpaceFault) → fits w → i < count → allows w (Copy (from + 128 * i) (target + 128 * i) 128 answer) v → (answer ≡ Ok tt) × (v ≡ copied i w)
  pub put_fits : (w : W) (r : MoveRegister) (n : ℕ) → fits w → fits (put r n w)
  pub copied_fits : (w : W) (i : ℕ) → fits w → i < count → fits (copied i w)
  pub value_put : (w : W) (r : MoveRegister) (n : ℕ) → fits w → n < 2 ^ 64 → value r (put r n w) ≡ n
  pub value_beside : (w : W) (r other : MoveRegister) (n : ℕ) → fits w → (address_of r ≡ address_of other → ⊥) → value other (put r n w) ≡ value other w
  pub value_behind : (w : W) (r : MoveRegister) (i : ℕ) → fits w → i < count → value r (copied i w) ≡ value r w

module _ {W : Type 0} {allows : W → Call → W → Type 0} {fits : W → Type 0} {from target count : ℕ} (space : ServesMove allows fits from target count) where
  -- the space with the first numbers in the four registers
  abbrev pub prepared : W → W
  prepared w = space.put Offset 0 (space.put Length 128 (space.put Target target (space.put Source from w)))

  -- and behind so many rounds, each of which copies a piece and puts the offset of the next one
  abbrev pub after_rounds : ℕ → W → W
  after_rounds zero w = prepared w
  after_rounds (suc i) w = space.put Offset (128 * suc i) (space.copied i (after_rounds i w))
