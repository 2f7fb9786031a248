use Rattle.std.proofs.Common.{◌≡◌, ◌≤◌, length, sym, subst, ◌∙◌, arith}
use Rattle.base_model.specs.Layout.{Layout}
use Rattle.record_store.proofs.AnswerLemmas.{count_before}
use Rattle.record_store.proofs.StoreLemmas.{looked}
use Rattle.record_store.proofs.store.Store.count.Goals as goal

pub returns-clause-answer : goal.returns-clause-answer
returns-clause-answer g c tells =
    let long : c.len.result ≡ length c.self.inside.found.ids.items = omega (arith, c.len.ensures) in
    long ∙ sym (count_before (looked c.self.invariant c.self.view_is c.in_ok-settle.ensures.leaves) tells)

pub returns-clause-few : goal.returns-clause-few
returns-clause-few g c =
    let is = looked c.self.invariant c.self.view_is c.in_ok-settle.ensures.leaves in
    let long : c.len.result ≡ length c.self.inside.found.ids.items = omega (arith, c.len.ensures) in
    let few : length c.self.inside.found.ids.items ≤ c.settle.new.self.layout.slots = is.listing.few in
    subst (λ (layout : Layout). c.len.result ≤ layout.slots) is.layout (omega arith)
