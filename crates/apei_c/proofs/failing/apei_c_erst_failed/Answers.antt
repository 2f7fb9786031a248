use Rattle.apei_c.proofs.PortLemmas.{on_port}
use Rattle.apei_c.proofs.failing.apei_c_erst_failed.Goals as goal

pub returns : goal.returns
returns c =
    let after = rw c.in-Some.is at c.port.follows.holds c.failed.new.port in
    on_port _ _ _ _ c.in-Some.port.now c.failed.new.port c.failed.result c.in-Some.ensures.some after c.number-2.ensures c.failed.ensures
