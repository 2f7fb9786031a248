use Rattle.apei_c.proofs.HoldingLemmas.{on_held}
use Rattle.apei_c.proofs.sources.apei_c_ghes_done.Goals as goal

pub returns : goal.returns
returns c =
    let after = rw c.in-Some.is at c.sources.follows.holds c.done.new.sources in
    on_held _ _ _ _ c.in-Some.sources.now c.done.new.sources c.done.result c.in-Some.ensures.some after c.number-2.ensures c.done.ensures
