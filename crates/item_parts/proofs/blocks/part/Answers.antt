use Rattle.std.proofs.Common.{List, refl, sym, ap, ◌∙◌}
use Rattle.std.specs.Prelude.{slice_get}
use Rattle.ghes_block.specs.Grammar.{BlockValue}
use Rattle.item_parts.specs.declared.parts.Part.{Part}
use Rattle.item_parts.specs.Parts.{data_parts}
use Rattle.item_parts.proofs.blocks.part.Goals as goal

pub returns-in-Ok-clause-found : goal.returns-in-Ok-clause-found
returns-in-Ok-clause-found c =
    let block = c.in-Ok.block in
    let found = c.in-Ok.ensures.found in
    (data_parts 20 block.entries, (c.in-Ok._size, found.0, (block, found.1, refl)), c.part_of.ensures)

pub returns-in-Ok-clause-only : goal.returns-in-Ok-clause-only
returns-in-Ok-clause-only c = λ parts begins.
    let same = (c.in-Ok.ensures.only begins.2.0 begins.0 begins.1 begins.2.1).0 in
    c.part_of.ensures
    ∙ ap (λ (value : BlockValue). slice_get (data_parts 20 value.entries) c.args.index) same
    ∙ ap (λ (parts : List Part). slice_get parts c.args.index) (sym begins.2.2)

pub returns-in-Err-clause-only : goal.returns-in-Err-clause-only
returns-in-Err-clause-only c = λ parts begins. absurd (c.in-Err.ensures.only begins.2.0 begins.0 begins.1 begins.2.1)
