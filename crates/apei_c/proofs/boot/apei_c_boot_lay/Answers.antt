use Rattle.apei_c.proofs.HoldingLemmas.{on_held}
use Rattle.apei_c.proofs.boot.apei_c_boot_lay.Goals as goal

pub returns : goal.returns
returns c =
    let after = rw c.in-Some.is at c.region.follows.holds c.lay.new.region in
    on_held _ _ _ _ c.in-Some.region.now c.lay.new.region c.lay.result c.in-Some.ensures.some after c.number-2.ensures c.lay.ensures
