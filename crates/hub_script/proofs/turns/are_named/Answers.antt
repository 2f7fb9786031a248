use Rattle.std.proofs.Common.{arith}
use Rattle.hub_script.proofs.turns.are_named.Goals as goal

pub returns : goal.returns
returns g c = λ at within.
    let even = c.requires.even in
    let n = even.1 in
    let done = c.naming-test.false in
    c.naming.invariant at (omega (arith, within, n, done))
