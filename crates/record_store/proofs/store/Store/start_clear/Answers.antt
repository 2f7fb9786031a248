use Rattle.std.proofs.Common.{refl}
use Rattle.record_model.proofs.RefusalLemmas.{clear_missing, clear_taken}
use Rattle.record_store.specs.Store.{stored}
use Rattle.record_store.proofs.AnswerLemmas.{record_before, none_before}
use Rattle.record_store.proofs.StoreLemmas.{looked, kept_map, starts_refused, clearing_store}
use Rattle.record_store.proofs.store.Store.start_clear.Goals as goal

pub returns-in_default-clause-answer : goal.returns-in_default-clause-answer
returns-in_default-clause-answer g c tells = (
  clear_missing c.args.self.now.layout c.args.id (stored c.args.self.now) c.place_of.ensures.allowed
      (none_before c.args.id (looked c.self.invariant c.self.view_is c.in_ok-settle.ensures.leaves) tells c.in_default.ensures.place),
  kept_map c.args.self.now c.settle.new.self (c.in_ok-settle.ensures.leaves.kept tells) c.in_ok-settle.ensures.leaves.equivalent,
)

pub returns-in_default-clause-leaves : goal.returns-in_default-clause-leaves
returns-in_default-clause-leaves g c = starts_refused g.F.Flash.tells c.args.self.now c.settle.new.self _ c.in_ok-settle.ensures.leaves

pub returns-clause-answer : goal.returns-clause-answer
returns-clause-answer g c tells =
    let had = record_before c.args.id c.in-Some.place (looked c.self.invariant c.self.view_is c.in_ok-settle.ensures.leaves) tells c.in-Some.ensures.place in
    (clear_taken c.args.self.now.layout c.args.id (stored c.args.self.now) (had.0, (had.1).0) c.place_of.ensures.allowed (had.1).1, refl)

pub invariant_of-self : goal.invariant_of-self
invariant_of-self g c =
    let i = c.self.inside in
    clearing_store g.F.Flash.tells i.geometry (g.F.Flash.state i.flash) i.found i.buffer.items i.in_doubt i.work c.settle.new.self c.args.id c.in-Some.place
    c.self.invariant c.self.view_is c.in_ok-settle.ensures.leaves.doubt
    (c.in-Some.ensures.within i.geometry.slots i.geometry.slot_size c.self.invariant.listing.index)
    (λ entry list. c.in-Some.ensures.place entry i.geometry.slots list)
