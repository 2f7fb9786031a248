use Rattle.apei_c.proofs.HoldingLemmas.{loses_held, held_nothing}
use Rattle.apei_c.proofs.sources.apei_c_ghes_close.Goals as goal

pub returns-in-Some : goal.returns-in-Some
returns-in-Some c = loses_held _ _ _ c.in-Some.sources.value c.in-Some.ensures.some c.in-Some.ensures.left c.number.ensures

pub returns-in-None : goal.returns-in-None
returns-in-None c = held_nothing _ _ _ c.in-None.ensures.none c.in-None.ensures.left c.number-in-None.ensures
