use Rattle.apei_bytes.proofs.Puts.{wrote_bytes}
use Rattle.apei_bytes.proofs.write.write_bytes.Goals as goal

pub returns-clause-wrote : goal.returns-clause-wrote
returns-clause-wrote c = wrote_bytes c.args.out.now c.args.bytes.now c.copy_from_slice.new.self c.args.at c.requires c.copy_from_slice.ensures.after
