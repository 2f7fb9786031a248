use Rattle.apei_c.proofs.HoldingLemmas.{on_held}
use Rattle.apei_c.proofs.sources.apei_c_ghes_submit.Goals as goal

pub returns : goal.returns
returns c =
    let after = rw c.in-Some.is at c.sources.follows.holds c.submit.new.sources in
    on_held _ _ _ _ c.in-Some.sources.now c.submit.new.sources c.submit.result c.in-Some.ensures.some after c.number-2.ensures c.submit.ensures
