use Rattle.std.proofs.Common.{◌∙◌, ◌≡◌, sym, arith}
use Rattle.base_model.proofs.BytesLemmas.{AreBytes-each}
use Rattle.apei_tables.specs.GasLayout.{spelling}
use Rattle.base_model.specs.Bytes.{part}
use Rattle.erst_entries.proofs.EntryBytes.{read-spelling}
use Rattle.erst_entries.proofs.entries.Entry.read.Goals as goal

pub returns-clause-spelled : goal.returns-clause-spelled
returns-clause-spelled c =
    let each = AreBytes-each c.args.bytes.now (λ k. omega (arith, c.type_inv.bytes k)) in
    let region : part c.args.bytes.now 4 12 ≡ spelling c.decode-region.result = sym c.array_at.ensures ∙ c.decode-region.ensures.found in
    rw (c.get_u64.ensures, c.get_u64-2.ensures) (read-spelling c.args.bytes.now c.decode-region.result each c.requires region)
