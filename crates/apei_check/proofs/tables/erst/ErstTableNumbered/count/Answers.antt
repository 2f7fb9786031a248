use Rattle.std.proofs.Common.{arith}
use Rattle.apei_check.specs.TableLines.{entry_line}
use Rattle.apei_check.proofs.PartLemmas.{length_numbered}
use Rattle.apei_check.proofs.tables.erst.ErstTableNumbered.count.Goals as goal

pub returns : goal.returns
returns c = omega (arith, length_numbered entry_line c.args.self.now.entries)
