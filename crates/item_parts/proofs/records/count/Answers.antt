use Rattle.std.proofs.Common.{length, refl, sym, ap, ◌∙◌}
use Rattle.cper_frame.specs.Grammar.{RecordValue}
use Rattle.item_parts.specs.Parts.{section_parts}
use Rattle.item_parts.proofs.PartLemmas.{length-section_parts}
use Rattle.item_parts.proofs.records.count.Goals as goal

pub returns-in-Ok-clause-found : goal.returns-in-Ok-clause-found
returns-in-Ok-clause-found c =
    let record_is = c.in-Ok.record in
    let found = c.in-Ok.ensures.found in
    (section_parts 128 record_is.sections, (c.in-Ok._size, found.0, (record_is, found.1, refl)), c.from.ensures ∙ c.sections.ensures ∙ sym (length-section_parts 128 record_is.sections))

pub returns-in-Ok-clause-only : goal.returns-in-Ok-clause-only
returns-in-Ok-clause-only c = λ parts begins.
    let same = (c.in-Ok.ensures.only begins.2.0 begins.0 begins.1 begins.2.1).0 in
    c.from.ensures
    ∙ c.sections.ensures
    ∙ ap (λ (value : RecordValue). length value.sections) same
    ∙ sym (length-section_parts 128 begins.2.0.sections)
    ∙ ap length (sym begins.2.2)

pub returns-in-Err-clause-only : goal.returns-in-Err-clause-only
returns-in-Err-clause-only c = λ parts begins. absurd (c.in-Err.ensures.only begins.2.0 begins.0 begins.1 begins.2.1)
