use Rattle.apei_bytes.proofs.Puts.{wrote_number}
use Rattle.apei_bytes.proofs.write.write_u16.Goals as goal

pub returns-clause-wrote : goal.returns-clause-wrote
returns-clause-wrote c = wrote_number c.args.out.now _ c.args.at 2 c.args.value c.requires c.put_u16.ensures.written
