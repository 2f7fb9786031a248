use Rattle.std.proofs.Common.{◌∙◌, arith}
use Rattle.apei_check.specs.TableLines.{entry_line}
use Rattle.apei_check.proofs.PartLemmas.{length_numbered, numbered_of}
use Rattle.apei_check.proofs.tables.erst.ErstTableNumbered.part_line.Goals as goal

pub entry-requires : goal.entry-requires
entry-requires c = omega (arith, length_numbered entry_line c.args.self.now.entries)

pub returns-clause-text : goal.returns-clause-text
returns-clause-text c = c.entry_line.ensures.text ∙ numbered_of entry_line c.args.self.now.entries c.args.index c.entry.result
    (omega (arith, length_numbered entry_line c.args.self.now.entries)) c.entry.ensures
