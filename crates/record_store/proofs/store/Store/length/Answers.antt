use Rattle.record_store.proofs.AnswerLemmas.{record_before, none_before}
use Rattle.record_store.proofs.StoreLemmas.{looked}
use Rattle.record_store.proofs.store.Store.length.Goals as goal

pub returns-in_default-clause-answer : goal.returns-in_default-clause-answer
returns-in_default-clause-answer g c tells =
    none_before c.args.id (looked c.self.invariant c.self.view_is c.in_ok-settle.ensures.leaves) tells c.in_default.ensures.place

pub returns-clause-answer : goal.returns-clause-answer
returns-clause-answer g c tells =
    record_before c.args.id c.in-Some.place (looked c.self.invariant c.self.view_is c.in_ok-settle.ensures.leaves) tells c.in-Some.ensures.place
