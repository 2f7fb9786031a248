use Rattle.std.proofs.Common.{arith}
use Rattle.base_model.proofs.BytesLemmas.{AreBytes-each}
use Rattle.apei_tables.proofs.Spelling.{spelling-found}
use Rattle.apei_tables.proofs.headers.Header.read.Goals as goal

pub returns-clause-spelled : goal.returns-clause-spelled
returns-clause-spelled c =
    let each = AreBytes-each c.args.bytes.now (λ k. omega (arith, c.type_inv.bytes k)) in
    rw (c.array_at.ensures, c.get_u32.ensures, c.array_at-2.ensures, c.array_at-3.ensures, c.get_u32-2.ensures, c.array_at-4.ensures, c.get_u32-3.ensures)
    (spelling-found c.args.bytes.now each c.requires)
