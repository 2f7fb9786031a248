use Rattle.std.proofs.Common.{List, refl, sym, ap, ◌∙◌}
use Rattle.std.specs.Prelude.{slice_get}
use Rattle.hest_sources.specs.declared.sources.HestSource.{HestSource}
use Rattle.item_parts.specs.declared.parts.Part.{Part}
use Rattle.item_parts.specs.Parts.{source_parts}
use Rattle.item_parts.proofs.hests.part.Goals as goal

pub returns-in-Ok-clause-found : goal.returns-in-Ok-clause-found
returns-in-Ok-clause-found c =
    let sources = c.in-Ok.hest in
    let found = c.in-Ok.ensures.found in (
      source_parts 40 sources,
      (c.in-Ok._size, found.0, (sources, found.1, refl)),
      c.part_of.ensures ∙ ap (λ (sources : List HestSource). slice_get (source_parts 40 sources) c.args.index) c.sources.ensures,
    )

pub returns-in-Ok-clause-only : goal.returns-in-Ok-clause-only
returns-in-Ok-clause-only c = λ parts begins.
    let same = (c.in-Ok.ensures.only begins.2.0 begins.0 begins.1 begins.2.1).0 in
    c.part_of.ensures
    ∙ ap (λ (sources : List HestSource). slice_get (source_parts 40 sources) c.args.index) (c.sources.ensures ∙ same)
    ∙ ap (λ (parts : List Part). slice_get parts c.args.index) (sym begins.2.2)
