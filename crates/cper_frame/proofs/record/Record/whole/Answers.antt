use Rattle.std.proofs.Common.{arith}
use Rattle.base_model.proofs.BytesLemmas.{AreBytes-each}
use Rattle.cper_frame.proofs.Whole.{whole_record}
use Rattle.cper_frame.proofs.record.Record.whole.Goals as goal

pub returns-clause-record : goal.returns-clause-record
returns-clause-record c = whole_record c.args.bytes.now (AreBytes-each c.args.bytes.now (λ k. omega (arith, c.type_inv.bytes k))) c.requires
