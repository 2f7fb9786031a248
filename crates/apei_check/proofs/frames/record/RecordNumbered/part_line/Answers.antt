use Rattle.std.proofs.Common.{◌∙◌, arith}
use Rattle.cper_frame.specs.Sections.{value_of}
use Rattle.apei_check.specs.Frames.{section_line}
use Rattle.apei_check.proofs.PartLemmas.{length_numbered, section_line_at}
use Rattle.apei_check.proofs.frames.record.RecordNumbered.part_line.Goals as goal

pub overflow_cast-index : goal.overflow_cast-index
overflow_cast-index c = omega (arith, length_numbered section_line c.args.self.now.sections)

pub section-requires : goal.section-requires
section-requires c = omega (arith, length_numbered section_line c.args.self.now.sections)

pub returns-clause-text : goal.returns-clause-text
returns-clause-text c = c.section_line.ensures.text ∙ section_line_at c.args.self.now.sections c.args.index (value_of c.section.result) c.section.ensures
