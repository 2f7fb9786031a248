use Rattle.std.proofs.Common.{◌≡◌, ◌≤◌, ◌<◌, ◌+◌, length, None, sym, subst, arith}
use Rattle.std.proofs.lemmas.Bool.Decides.{nat_tests}
use Rattle.erst_interp.specs.Told.{Turns, IsPaid}
use Rattle.erst_interp.proofs.turns.end_at.Goals as goal

pub returns : goal.returns
returns c =
    let enough : 1 ≤ c.args.budget.now = grind (arith, nat_tests) in
    let paid : c.args.budget.now ≡ c.take.new.self + 1 = omega arith in
    let within : c.args.at.now.place < length c.args.program.now.entries = omega arith in
    subst (λ (n : _). Turns c.args.program.now c.args.given c.args.at.now n None c.take.new.self) (sym paid) (IsPaid c.take.new.self within)
