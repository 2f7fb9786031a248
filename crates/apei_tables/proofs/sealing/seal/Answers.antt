use Rattle.std.proofs.Common.{◌≡◌, ℕ, ◌<◌, length, get_or, arith}
use Rattle.std.proofs.Common.{get_or-set_same}
use Rattle.std.proofs.Math.ListN.{set, length-set}
use Rattle.std.proofs.lemmas.List.Sums.{sum_by-set}
use Rattle.apei_tables.proofs.sealing.seal.Goals as goal

pub returns-clause-sum : goal.returns-clause-sum
returns-clause-sum c =
    let table = c.args.table.now in
    let within : 9 < length table = omega arith in
    let inner : 9 < length (set table 9 0) = omega (arith, length-set table 9 0) in
    let zero : get_or (set table 9 0) 9 0 ≡ 0 = get_or-set_same table 9 0 0 within in
    let total = sum_by-set (λ (x : ℕ). x) (set table 9 0) 9 c.wrapping_neg.result 0 inner in
    omega (arith, total, zero, c.sum_of.ensures, c.wrapping_neg.ensures)
