use Rattle.apei_c.proofs.PortLemmas.{on_port}
use Rattle.apei_c.proofs.devices.apei_c_erst_put.Goals as goal

pub returns : goal.returns
returns c =
    let after = rw c.in-Some.is at c.port.follows.holds c.put.new.port in
    on_port _ _ _ _ c.in-Some.port.now c.put.new.port c.put.result c.in-Some.ensures.some after c.number-2.ensures c.put.ensures
