use Rattle.std.proofs.Common.{refl, sym, ◌∙◌}
use Rattle.apei_c.proofs.HoldingLemmas.{has_held, gets_held, stays_empty}
use Rattle.apei_c.proofs.client.apei_c_client_open.Goals as goal

pub returns-then-client : goal.returns-then-client
returns-then-client c = has_held _ _ _ _ _ _ (sym c.args.client.now.open ∙ c.if-client.true) refl c.number.ensures refl

pub returns-in-Ok : goal.returns-in-Ok
returns-in-Ok c = gets_held _ _ _ _ _ _ c.in-Ok.session.value (sym c.args.client.now.open ∙ c.if-client.false) c.put.ensures c.number-in-Ok.ensures c.in-Ok.ensures.opened

pub returns-in-Err : goal.returns-in-Err
returns-in-Err c = stays_empty _ _ _ _ _ _ c.in-Err.status (sym c.args.client.now.open ∙ c.if-client.false) refl c.number-in-Err.ensures c.in-Err.ensures.refused
