use Rattle.apei_c.proofs.PortLemmas.{on_port}
use Rattle.apei_c.proofs.settling.apei_c_erst_settle.Goals as goal

pub returns : goal.returns
returns c =
    let after = rw c.in-Some.is at c.port.follows.holds c.settle.new.port in
    on_port _ _ _ _ c.in-Some.port.now c.settle.new.port c.settle.result c.in-Some.ensures.some after c.number-2.ensures c.settle.ensures
