use Rattle.std.proofs.Common.{List, refl, sym, ap, ◌∙◌}
use Rattle.std.specs.Prelude.{slice_get}
use Rattle.cper_frame.specs.Grammar.{RecordValue}
use Rattle.item_parts.specs.declared.parts.Part.{Part}
use Rattle.item_parts.specs.Parts.{section_parts}
use Rattle.item_parts.proofs.records.part.Goals as goal

pub returns-in-Ok-clause-found : goal.returns-in-Ok-clause-found
returns-in-Ok-clause-found c =
    let record_is = c.in-Ok.record in
    let found = c.in-Ok.ensures.found in
    (section_parts 128 record_is.sections, (c.in-Ok._size, found.0, (record_is, found.1, refl)), c.part_of.ensures)

pub returns-in-Ok-clause-only : goal.returns-in-Ok-clause-only
returns-in-Ok-clause-only c = λ parts begins.
    let same = (c.in-Ok.ensures.only begins.2.0 begins.0 begins.1 begins.2.1).0 in
    c.part_of.ensures
    ∙ ap (λ (value : RecordValue). slice_get (section_parts 128 value.sections) c.args.index) same
    ∙ ap (λ (parts : List Part). slice_get parts c.args.index) (sym begins.2.2)

pub returns-in-Err-clause-only : goal.returns-in-Err-clause-only
returns-in-Err-clause-only c = λ parts begins. absurd (c.in-Err.ensures.only begins.2.0 begins.0 begins.1 begins.2.1)
