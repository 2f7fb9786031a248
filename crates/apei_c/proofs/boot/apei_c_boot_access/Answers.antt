use Rattle.apei_c.proofs.HoldingLemmas.{looks_at_held}
use Rattle.apei_c.proofs.boot.apei_c_boot_access.Goals as goal

pub returns : goal.returns
returns c =
    let after = rw c.in-Some.is at c.region.follows.holds c.in-Some.region.now in
    looks_at_held _ _ _ _ _ c.in-Some.region.now c.tell_access.result c.in-Some.ensures.some after c.number-2.ensures c.tell_access.ensures
