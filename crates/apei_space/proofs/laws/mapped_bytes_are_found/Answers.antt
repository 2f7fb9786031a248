use Rattle.std.proofs.Common.{◌≡◌, cond, ℕ, Ok, Bool, Result, inl, inr, ap, arith}
use Rattle.std.proofs.lemmas.Bool.{cases_eq, eq-eqb}
use Rattle.apei_space.specs.Windows.{address_of, location}
use Rattle.apei_space.specs.RamState.{found, refused}
use Rattle.apei_space.proofs.Placed.{placed, placed_fits}
use Rattle.apei_space.proofs.Terms.{within}
use Rattle.apei_space.proofs.laws.mapped_bytes_are_found.Goals as goal

pub returns : goal.returns
returns c windows at n apart mapped = elim (cases_eq n 0) [
  | inl none ↦
      let nothing : found windows at n ≡ Ok 0 = ap (λ (b : Bool). cond {A = Result ℕ ℕ} b (Ok 0) (within (location windows 0 at) (address_of at) n)) (eq-eqb n 0 none) in
      (0, (ap refused nothing, omega arith))
  | inr some ↦
      let found = placed windows at n apart (omega arith) mapped in
      (found.0, (found.1.found_at, placed_fits windows at n found.0 apart found.1))
]
