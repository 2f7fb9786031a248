use Rattle.apei_c.proofs.HandleLemmas.{closes_one, closes_none}
use Rattle.apei_c.proofs.openings.apei_c_erst_close.Goals as goal

pub returns-in-Some : goal.returns-in-Some
returns-in-Some c = closes_one _ _ _ c.in-Some.port.value c.in-Some.ensures.some c.in-Some.ensures.left c.number.ensures

pub returns-in-None : goal.returns-in-None
returns-in-None c = closes_none _ _ _ c.in-None.ensures.none c.in-None.ensures.left c.number-in-None.ensures
