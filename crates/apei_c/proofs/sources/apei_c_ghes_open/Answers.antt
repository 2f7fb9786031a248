use Rattle.std.proofs.Common.{refl, sym, ◌∙◌}
use Rattle.apei_c.proofs.HoldingLemmas.{has_held, gets_held, stays_empty}
use Rattle.apei_c.proofs.sources.apei_c_ghes_open.Goals as goal

pub returns-then-ghes : goal.returns-then-ghes
returns-then-ghes c = has_held _ _ _ _ _ _ (sym c.args.ghes.now.open ∙ c.if-ghes.true) refl c.number.ensures refl

pub returns-in-Ok : goal.returns-in-Ok
returns-in-Ok c =
    gets_held _ _ _ _ _ _ c.in-Ok.sources.value (sym c.args.ghes.now.open ∙ c.if-ghes.false) c.put.ensures c.number-in-Ok.ensures
    (c.in-Ok.ensures.opened, c.in-Ok.ensures.untold)

pub returns-in-Err : goal.returns-in-Err
returns-in-Err c = stays_empty _ _ _ _ _ _ c.in-Err.status (sym c.args.ghes.now.open ∙ c.if-ghes.false) refl c.number-in-Err.ensures c.in-Err.ensures.refused
