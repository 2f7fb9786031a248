use Rattle.apei_bytes.proofs.Puts.{wrote_number}
use Rattle.apei_bytes.proofs.write.write_u64.Goals as goal

pub returns-clause-wrote : goal.returns-clause-wrote
returns-clause-wrote c = wrote_number c.args.out.now _ c.args.at 8 c.args.value c.requires c.put_u64.ensures.written
