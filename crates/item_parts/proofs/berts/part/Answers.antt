use Rattle.std.proofs.Common.{List, [], refl, ap, sym}
use Rattle.std.specs.Prelude.{slice_get}
use Rattle.item_parts.specs.declared.parts.Part.{Part}
use Rattle.item_parts.proofs.berts.part.Goals as goal

pub returns-in-Ok-clause-found : goal.returns-in-Ok-clause-found
returns-in-Ok-clause-found c =
    let found = c.in-Ok.ensures.found in
    ([], (c.in-Ok._size, found.0, (c.in-Ok._bert, found.1, refl)), refl)

pub returns-in-Ok-clause-only : goal.returns-in-Ok-clause-only
returns-in-Ok-clause-only c = λ parts begins. ap (λ (parts : List Part). slice_get parts c.args.index) (sym begins.2.2)

pub returns-in-Err-clause-only : goal.returns-in-Err-clause-only
returns-in-Err-clause-only c = λ parts begins. absurd (c.in-Err.ensures.only begins.2.0 begins.0 begins.1 begins.2.1)
