use Rattle.std.proofs.Common.{◌<◌, length, sym, arith}
use Rattle.std.proofs.lemmas.Bool.{eqb-false}
use Rattle.ghes_block.proofs.EntryLaws.{entry_size-le}
use Rattle.ghes_block.proofs.block.Block.entry_at.Goals as goal

pub returns-clause-on : goal.returns-clause-on
returns-clause-on c =
    let rest = c.rest_at-rest.result.now in
    let nonzero = eqb-false (length rest) 0 (sym c.if-is_empty.ensures) in
    let some : 0 < length rest = omega arith in
    let fits = (c.rest_at-rest.ensures.rest.some some).1 in
    let within = c.rest_at-rest.ensures.within in
    let low = entry_size-le rest in
    let size = c.read-entry.ensures.size in
    (omega arith, omega arith)
