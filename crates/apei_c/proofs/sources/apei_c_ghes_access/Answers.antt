use Rattle.apei_c.proofs.HoldingLemmas.{looks_at_held}
use Rattle.apei_c.proofs.sources.apei_c_ghes_access.Goals as goal

pub returns : goal.returns
returns c =
    let after = rw c.in-Some.is at c.sources.follows.holds c.in-Some.sources.now in
    looks_at_held _ _ _ _ _ c.in-Some.sources.now c.access.result c.in-Some.ensures.some after c.number-2.ensures c.access.ensures
