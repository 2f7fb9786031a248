use Rattle.std.proofs.Common.{[], length, refl, ap, sym}
use Rattle.item_parts.proofs.berts.count.Goals as goal

pub returns-in-Ok-clause-found : goal.returns-in-Ok-clause-found
returns-in-Ok-clause-found c =
    let found = c.in-Ok.ensures.found in
    ([], (c.in-Ok._size, found.0, (c.in-Ok._bert, found.1, refl)), refl)

pub returns-in-Ok-clause-only : goal.returns-in-Ok-clause-only
returns-in-Ok-clause-only c = λ parts begins. ap length (sym begins.2.2)

pub returns-in-Err-clause-only : goal.returns-in-Err-clause-only
returns-in-Err-clause-only c = λ parts begins. absurd (c.in-Err.ensures.only begins.2.0 begins.0 begins.1 begins.2.1)
