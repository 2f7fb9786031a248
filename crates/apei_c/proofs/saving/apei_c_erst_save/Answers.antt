use Rattle.apei_c.proofs.PortLemmas.{looks_at}
use Rattle.apei_c.proofs.saving.apei_c_erst_save.Goals as goal

pub returns : goal.returns
returns c =
    let after = rw c.in-Some.is at c.port.follows.holds c.in-Some.port.now in
    looks_at _ _ _ _ _ c.in-Some.port.now c.save.result c.in-Some.ensures.some after c.number-2.ensures c.save.ensures
