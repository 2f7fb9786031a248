use Rattle.std.proofs.Common.{◌++◌, refl, string_bytes}
use Rattle.cper_frame.specs.Sections.{value_of}
use Rattle.apei_look.specs.Frames.{section_text, sections_text}
use Rattle.apei_look.proofs.RecordTextLemmas.{next_section}
use Rattle.apei_look.proofs.records.add_sections.Goals as goal

pub loop-index-preserved : goal.loop-index-preserved
loop-index-preserved c =
    next_section section_text sections_text (λ k section rest. refl) c.args.frame.now.sections c.loop-index.index (value_of c.section.result)
    (string_bytes c.args.out.now ++ sections_text 0 c.args.frame.now.sections)
    (string_bytes c.loop-index.out) (string_bytes c.add_section.new.out) c.section.ensures c.in_ok-add_section.ensures c.loop-index.invariant
