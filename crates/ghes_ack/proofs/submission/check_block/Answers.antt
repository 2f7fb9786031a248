use Rattle.std.proofs.Common.{arith}
use Rattle.ghes_ack.proofs.StartLemmas.{full, checked_fits}
use Rattle.ghes_ack.proofs.submission.check_block.Goals as goal

pub returns-then-waiting-ge-WAITING-clause-exact : goal.returns-then-waiting-ge-WAITING-clause-exact
returns-then-waiting-ge-WAITING-clause-exact c =
    let from = c.from.ensures in
    let short = c.if-len-from.false in
    let many = c.if-waiting-ge-WAITING.true in
    full c.args.window c.args.waiting c.args.block.now c.in-Ok.size (omega (arith, from, short)) c.in-Ok.ensures.exact c.if-size-block.false (omega (arith, many))

pub returns-clause-fits : goal.returns-clause-fits
returns-clause-fits c =
    let from = c.from.ensures in
    let short = c.if-len-from.false in
    checked_fits c.args.block.now c.in-Ok.size c.args.window c.in-Ok.ensures.exact (omega (arith, from, short))
