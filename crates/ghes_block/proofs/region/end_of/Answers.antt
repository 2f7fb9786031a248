use Rattle.std.proofs.Common.{length, ap, arith, length-drop}
use Rattle.std.proofs.lemmas.List.{take_rest}
use Rattle.ghes_block.proofs.RegionLemmas.{at_next, at_end}
use Rattle.ghes_block.proofs.region.end_of.Goals as goal

pub loop-size-preserved : goal.loop-size-preserved
loop-size-preserved c =
    let rest = take_rest c.args.region.now c.loop-size.at in
    let n = ap length rest in
    let l = length-drop c.loop-size.at c.args.region.now in
    let low = c.loop-size.invariant.0 in
    let size = c.in-Some.ensures.within.1 in (
      omega (arith, n, l, low, size),
      λ blocks left h. at_next c.args.region.now _ c.loop-size.at c.in-Some.size blocks left rest c.in-Some.ensures.block
          c.in-Some.ensures.zeros (c.loop-size.invariant.1 blocks left h),
    )

pub returns-clause-place : goal.returns-clause-place
returns-clause-place c = λ blocks left h. at_end c.args.region.now _ c.loop-size.at blocks left (take_rest c.args.region.now c.loop-size.at)
    c.in_default.ensures.block (c.loop-size.invariant.1 blocks left h)
