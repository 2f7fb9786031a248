use Rattle.apei_c.proofs.HoldingLemmas.{on_held}
use Rattle.apei_c.proofs.client.apei_c_client_answer.Goals as goal

pub returns : goal.returns
returns c =
    let after = rw c.in-Some.is at c.session.follows.holds c.answer.new.session in
    on_held _ _ _ _ c.in-Some.session.now c.answer.new.session c.answer.result c.in-Some.ensures.some after c.number-2.ensures c.answer.ensures
