use Rattle.std.proofs.Common.{arith, ◌∙◌, ◌+◌, ◌-◌, ℕ, List, ◌++◌, ap}
use Rattle.show_items.specs.Dumps.{pairs}
use Rattle.show_items.proofs.DumpLemmas.{no_count_left, no_pair, pair_added}
use Rattle.show_items.proofs.dumps.add_pairs.Goals as goal

pub returns-in_default : goal.returns-in_default
returns-in_default c =
    no_pair c.args.most c.loop-count._count c.loop-count.table.items c.loop-count.rest.now c.args.table.now.items (pairs c.args.most c.args.text.now)
    c.loop-count-test.true c.in_default.ensures c.loop-count.invariant

pub loop-count-preserved : goal.loop-count-preserved
loop-count-preserved c =
    ap (λ (t : List ℕ). t ++ pairs (c.args.most - (c.loop-count._count + 1)) c.in-Some.more.now) c.in_ok-push.ensures.items
    ∙ pair_added c.args.most c.loop-count._count c.in-Some.byte c.args.table.now.items c.loop-count.table.items c.loop-count.rest.now c.in-Some.more.now
    (pairs c.args.most c.args.text.now) c.loop-count-test.true c.in-Some.ensures c.loop-count.invariant

pub returns : goal.returns
returns c =
    no_count_left c.args.most c.loop-count._count c.loop-count.table.items c.loop-count.rest.now c.args.table.now.items (pairs c.args.most c.args.text.now)
    (λ below. omega (arith, below, c.loop-count-test.false)) c.loop-count.invariant
