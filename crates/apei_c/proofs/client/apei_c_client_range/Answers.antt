use Rattle.apei_c.proofs.HoldingLemmas.{looks_at_held}
use Rattle.apei_c.proofs.client.apei_c_client_range.Goals as goal

pub returns : goal.returns
returns c =
    let after = rw c.in-Some.is at c.session.follows.holds c.in-Some.session.now in
    looks_at_held _ _ _ _ _ c.in-Some.session.now c.tell_range.result c.in-Some.ensures.some after c.number-2.ensures c.tell_range.ensures
