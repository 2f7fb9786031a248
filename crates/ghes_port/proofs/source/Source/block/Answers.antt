use Rattle.std.proofs.Common.{ℕ, List, length, ap, arith}
use Rattle.ghes_port.proofs.BufferLemmas.{good_at}
use Rattle.ghes_port.proofs.source.Source.block.Goals as goal

pub returns-in-Some-clause-small : goal.returns-in-Some-clause-small
returns-in-Some-clause-small c =
    let source = c.self.invariant.0 in
    let room = c.self.invariant.1 in
    let within = c.in-Some.ensures.item.3.0 in
    let count = room.count in
    let counted = room.counted in
    let few = room.few in
    let good = good_at c.self.inside.map.len c.self.inside.queue.items c.args.index c.in-Some.block.now source.good within c.in-Some.ensures.lookup in
    let fits = good.fits.fits in
    let short = room.short in
    let size = ap (λ (xs : List ℕ). length xs) c.as_slice.ensures.value in
    (omega (arith, within, count, counted, few), omega (arith, fits, short, size))
