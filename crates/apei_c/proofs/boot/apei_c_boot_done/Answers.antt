use Rattle.apei_c.proofs.HoldingLemmas.{on_held}
use Rattle.apei_c.proofs.boot.apei_c_boot_done.Goals as goal

pub returns : goal.returns
returns c =
    let after = rw c.in-Some.is at c.region.follows.holds c.done.new.region in
    on_held _ _ _ _ c.in-Some.region.now c.done.new.region c.done.result c.in-Some.ensures.some after c.number-2.ensures c.done.ensures
