use Rattle.std.proofs.Common.{refl}
use Rattle.cper_frame.proofs.Writes.{begins}
use Rattle.cper_frame.proofs.writer.RecordWriter.start.Goals as goal

pub returns-clause-begun : goal.returns-clause-begun
returns-clause-begun c = record {
  done = refl;
  bytes = begins c.args.out.now c.put_header.new.out c.args.head.now c.args.sections c.put_header.ensures.fits c.requires c.put_header.ensures.wrote;
}
