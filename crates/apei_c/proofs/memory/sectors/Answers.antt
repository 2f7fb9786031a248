use Rattle.std.proofs.Common.{◌*◌, ◌≤◌, arith}
use Rattle.std.proofs.Math.Nat.{mul-le-mul_left}
use Rattle.apei_c.proofs.memory.sectors.Goals as goal

pub returns-clause-few : goal.returns-clause-few
returns-clause-few c =
    let few : c.slots.result ≤ 1024 = (let most = c.args.geometry.now.many_slots in let is = c.slots.ensures in omega (arith, most, is)) in
    let many : c.per_slot.result ≤ 16 = (let most = c.args.geometry.now.many_sectors in let is = c.per_slot.ensures in omega (arith, most, is)) in
    let product : c.per_slot.result * c.slots.result ≤ c.per_slot.result * 1024 = mul-le-mul_left c.per_slot.result few in
    omega (arith, product, many)
