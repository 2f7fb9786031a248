use Rattle.std.proofs.Common.{Some, sym, ap, ◌∙◌, arith}
use Rattle.std.proofs.lemmas.Option.{slice_get_past}
use Rattle.cper_frame.specs.Sections.{value_of}
use Rattle.item_parts.specs.declared.parts.Part.{Part}
use Rattle.item_parts.specs.Parts.{section_parts}
use Rattle.item_parts.proofs.PartLemmas.{length-section_parts, section_at}
use Rattle.item_parts.proofs.records.part_of.Goals as goal

pub returns-then-index-from : goal.returns-then-index-from
returns-then-index-from c =
    let sections = c.args.framed.now.sections in
    let many = length-section_parts 128 sections in
    let count = c.sections.ensures in
    let from = c.from.ensures in
    sym (slice_get_past (section_parts 128 sections) c.args.index (omega arith))

pub returns : goal.returns
returns c =
    ap (λ (part : Part). Some part) c.section_part.ensures
    ∙ sym (section_at 128 c.args.framed.now.sections c.args.index (value_of c.section.result) c.section.ensures)
