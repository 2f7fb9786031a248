use Rattle.apei_c.proofs.PortLemmas.{on_port}
use Rattle.apei_c.proofs.devices.apei_c_erst_done.Goals as goal

pub returns : goal.returns
returns c =
    let after = rw c.in-Some.is at c.port.follows.holds c.done.new.port in
    on_port _ _ _ _ c.in-Some.port.now c.done.new.port c.done.result c.in-Some.ensures.some after c.number-2.ensures c.done.ensures
