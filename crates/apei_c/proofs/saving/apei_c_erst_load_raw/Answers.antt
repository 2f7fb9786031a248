use Rattle.std.proofs.Common.{refl, sym, ◌∙◌}
use Rattle.apei_c.proofs.HandleLemmas.{has_one, gets_one, stays_without}
use Rattle.apei_c.proofs.saving.apei_c_erst_load_raw.Goals as goal

pub returns-then-erst : goal.returns-then-erst
returns-then-erst c = has_one _ _ _ _ _ (sym c.args.erst.now.open ∙ c.if-erst.true) refl c.number.ensures

pub returns-in-Ok : goal.returns-in-Ok
returns-in-Ok c = gets_one _ _ _ _ _ c.in-Ok.port.value (sym c.args.erst.now.open ∙ c.if-erst.false) c.put.ensures c.number-in-Ok.ensures c.in-Ok.ensures.loaded

pub returns-in-Err : goal.returns-in-Err
returns-in-Err c = stays_without _ _ _ _ _ c.in-Err.status (sym c.args.erst.now.open ∙ c.if-erst.false) refl c.number-in-Err.ensures c.in-Err.ensures.refused
