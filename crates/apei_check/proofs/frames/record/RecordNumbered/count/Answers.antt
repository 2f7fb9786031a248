use Rattle.std.proofs.Common.{arith}
use Rattle.apei_check.specs.Frames.{section_line}
use Rattle.apei_check.proofs.PartLemmas.{length_numbered}
use Rattle.apei_check.proofs.frames.record.RecordNumbered.count.Goals as goal

pub returns : goal.returns
returns c = omega (arith, length_numbered section_line c.args.self.now.sections)
