use Rattle.apei_c.proofs.PortLemmas.{looks_at}
use Rattle.apei_c.proofs.devices.apei_c_erst_range_size.Goals as goal

pub returns : goal.returns
returns c =
    let after = rw c.in-Some.is at c.port.follows.holds c.in-Some.port.now in
    looks_at _ _ _ _ _ c.in-Some.port.now c.range_size.result c.in-Some.ensures.some after c.number-2.ensures c.range_size.ensures
