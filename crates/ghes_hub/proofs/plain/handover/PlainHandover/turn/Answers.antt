use Rattle.std.proofs.Common.{◌∙◌, Option, sym, subst}
use Rattle.ghes_ack.specs.declared.ends.Ends.{Ends}
use Rattle.ghes_ack.specs.Sides.{view_of}
use Rattle.ghes_ack.specs.Handovers.{over}
use Rattle.ghes_hub.specs.PlainSides.{Turns, AreConsistent}
use Rattle.ghes_hub.proofs.PlainEndLemmas.{taken_able, taken_consistent, taken_turns}
use Rattle.ghes_hub.proofs.plain.handover.PlainHandover.turn.Goals as goal

pub one_turn-event-requires : goal.one_turn-event-requires
one_turn-event-requires c =
    taken_able c.args.side c.self.inside.ends c.in-Some.ends c.self.inside.blocks c.args.self.now c.args.ram.now (sym c.take.ensures.value ∙ c.in-Some.is) c.self.invariant c.self.view_is c.requires

pub invariant_of-self : goal.invariant_of-self
invariant_of-self c =
    subst (λ (place : Option Ends). AreConsistent place c.one_turn-event.new.blocks) (sym c.put_back.ensures)
    (taken_consistent c.args.side c.self.inside.ends c.in-Some.ends c.self.inside.blocks c.args.self.now c.args.ram.now (sym c.take.ensures.value ∙ c.in-Some.is) c.self.invariant c.self.view_is
    c.one_turn-event.result.0 c.one_turn-event.new.blocks c.one_turn-event.new.ram c.one_turn-event.result.1 c.requires c.one_turn-event.ensures)

pub returns : goal.returns
returns c = record {
  turned = λ m st.
      subst (λ (place : Option Ends). Turns c.args.side c.one_turn-event.result.1 (over c.args.self.now c.args.ram.now)
      (over (view_of place c.one_turn-event.new.blocks) c.one_turn-event.new.ram) m) (sym c.put_back.ensures)
      (taken_turns c.args.side c.self.inside.ends c.in-Some.ends c.self.inside.blocks c.args.self.now c.args.ram.now (sym c.take.ensures.value ∙ c.in-Some.is) c.self.invariant c.self.view_is
      c.one_turn-event.result.0 c.one_turn-event.new.blocks c.one_turn-event.new.ram c.one_turn-event.result.1 c.requires c.one_turn-event.ensures m st);
}
