-- Identifiers from 1 on: of the numbers of 64 bits only the last is none.
use Rattle.std.proofs.Common.{◌≡◌, ℕ, ◌-◌, ◌^◌, ◌<◌, true, false, arith}
use Rattle.std.proofs.lemmas.Bool.Decides.{nat_tests}
use Rattle.record_model.specs.Records.{is_reserved}

pub from_one : (id : ℕ) → is_reserved id ≡ false → 0 < id
unfolding is_reserved
from_one id free = grind (arith, nat_tests)

pub is_last : (id : ℕ) → 0 < id → is_reserved id ≡ true → id ≡ 2 ^ 64 - 1
unfolding is_reserved
is_last id some reserved = grind (arith, nat_tests)

pub below_last : (id : ℕ) → id < 2 ^ 64 → is_reserved id ≡ false → id < 2 ^ 64 - 1
unfolding is_reserved
below_last id fits free = grind (arith, nat_tests)
