use Rattle.std.proofs.Common.{arith}
use Rattle.base_model.proofs.BytesLemmas.{AreBytes-each}
use Rattle.hest_sources.proofs.Hests.{small_table, found_is}
use Rattle.hest_sources.proofs.tables.Hest.find.Goals as goal

pub read_sources-requires-clause-high : goal.read_sources-requires-clause-high
read_sources-requires-clause-high c =
    (small_table c.args.bytes.now c.in-Ok.ensures.found.header c.in-Ok.found.0.now (AreBytes-each c.args.bytes.now (λ k. omega (arith, c.type_inv.bytes k))) c.in-Ok.ensures.found.finds).0

pub returns-clause-found : goal.returns-clause-found
returns-clause-found c =
    found_is c.args.bytes.now c.in-Ok.found.0.now c.in-Ok.found.1 c.in-Ok-read_sources.sources.items
    (AreBytes-each c.args.bytes.now (λ k. omega (arith, c.type_inv.bytes k))) c.in-Ok.ensures.found c.in-Ok-read_sources.ensures
