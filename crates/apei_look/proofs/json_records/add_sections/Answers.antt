use Rattle.std.proofs.Common.{◌++◌, refl, string_bytes}
use Rattle.cper_frame.specs.Sections.{value_of}
use Rattle.apei_look.specs.RecordObjects.{section_item, sections_json}
use Rattle.apei_look.proofs.RecordTextLemmas.{next_section}
use Rattle.apei_look.proofs.json_records.add_sections.Goals as goal

pub loop-index-preserved : goal.loop-index-preserved
loop-index-preserved c =
    next_section section_item sections_json (λ k section rest. refl) c.args.frame.now.sections c.loop-index.index (value_of c.section.result)
    (string_bytes c.args.out.now ++ sections_json 0 c.args.frame.now.sections)
    (string_bytes c.loop-index.out) (string_bytes c.add_item.new.out) c.section.ensures c.in_ok-add_item.ensures c.loop-index.invariant
