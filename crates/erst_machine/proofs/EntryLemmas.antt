-- An instruction has one code.
use Rattle.std.proofs.Common.{◌≡◌, ℕ, zero, suc, ◌+◌, List, [], ◌∷◌, Some, refl, ap, arith}
use Rattle.std.specs.Prelude.{slice_get}
use Rattle.std.proofs.lemmas.Option.{none-some, same_Some}
use Rattle.erst_entries.specs.declared.instructions.Instruction.{Instruction}
use Rattle.erst_entries.specs.declared.instructions.Instruction.TheVariants.{ReadRegister, ReadRegisterValue, WriteRegister, WriteRegisterValue, Noop, LoadVar1}
use Rattle.erst_entries.specs.declared.instructions.Instruction.TheVariants.{LoadVar2, StoreVar1, Add, Subtract, AddValue, SubtractValue, Stall, StallWhileTrue}
use Rattle.erst_entries.specs.declared.instructions.Instruction.TheVariants.{SkipNextIfTrue, Goto, SetSourceBase, SetTargetBase, MoveData}
use Rattle.erst_entries.specs.Instructions.{instruction_of}
use Rattle.erst_entries.proofs.Terms.{instructions}

abbrev place_of : Instruction → ℕ
place_of ReadRegister = 0
place_of ReadRegisterValue = 1
place_of WriteRegister = 2
place_of WriteRegisterValue = 3
place_of Noop = 4
place_of LoadVar1 = 5
place_of LoadVar2 = 6
place_of StoreVar1 = 7
place_of Add = 8
place_of Subtract = 9
place_of AddValue = 10
place_of SubtractValue = 11
place_of Stall = 12
place_of StallWhileTrue = 13
place_of SkipNextIfTrue = 14
place_of Goto = 15
place_of SetSourceBase = 16
place_of SetTargetBase = 17
place_of MoveData = 18

-- each stands at its place in a list that begins at this one
abbrev AreAt : ℕ → List Instruction → Type 0
AreAt k [] = Unit {0}
AreAt k (i ∷ rest) = (place_of i ≡ k) × AreAt (suc k) rest

at_place : (xs : List Instruction) (k : ℕ) → AreAt k xs → (n : ℕ) (i : Instruction) → slice_get xs n ≡ Some i → n + k ≡ place_of i
at_place [] k are n i is = absurd (none-some i is)
at_place (x ∷ xs) k are zero i is = omega (arith, are.0, ap place_of (same_Some _ _ is))
at_place (x ∷ xs) k are (suc n) i is = omega (arith, at_place xs (suc k) are.1 n i is)

all_at : AreAt 0 instructions
all_at = (refl, (refl, (refl, (refl, (refl, (refl, (refl, (refl, (refl, (refl, (refl, (refl, (refl, (refl, (refl, (refl, (refl, (refl, (refl, tt)))))))))))))))))))

pub one_code : (n k : ℕ) (i : Instruction) → instruction_of n ≡ Some i → instruction_of k ≡ Some i → n ≡ k
one_code n k i one other = omega (arith, at_place instructions 0 all_at n i one, at_place instructions 0 all_at k i other)
