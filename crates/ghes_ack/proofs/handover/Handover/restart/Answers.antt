use Rattle.std.proofs.Common.{◌≡◌, ◌∙◌, Option, sym, ap, subst}
use Rattle.ghes_ack.specs.declared.maps.HandoverMap.{HandoverMap}
use Rattle.ghes_ack.specs.Elsewhere.{SameWhere, IsOffMap}
use Rattle.ghes_ack.specs.Maps.{HasAckBits, IsSet, window, memory_started}
use Rattle.ghes_ack.specs.Handovers.{HandoverState, StandsFor}
use Rattle.ghes_ack.specs.Machine.{started}
use Rattle.ghes_ack.specs.declared.ends.Ends.{Ends}
use Rattle.ghes_ack.specs.Sides.{handover_of, view_of}
use Rattle.ghes_ack.proofs.ElsewhereLemmas.{elsewhere_started}
use Rattle.ghes_ack.proofs.StartLemmas.{bits_of, begun}
use Rattle.ghes_ack.proofs.handover.Handover.restart.Goals as goal

pub returns-clause-stands : goal.returns-clause-stands
returns-clause-stands c =
    let inside : c.self.inside.blocks.map ≡ c.args.self.now.map = ap (λ (h : HandoverState). h.map) c.self.view_is in
    let same : c.forget.new.self.map ≡ c.args.self.now.map = c.forget.ensures.map ∙ inside in
    let bits : HasAckBits c.forget.new.self.map = subst HasAckBits (sym c.forget.ensures.map) (bits_of c.self.inside.ends c.self.inside.blocks c.self.invariant) in
    let memory : c.begin_with_register.new.ram ≡ memory_started c.args.self.now.map c.args.ram.now = c.begin_with_register.ensures.memory
    ∙ ap (λ (at : HandoverMap). memory_started at c.args.ram.now) same in
    let set : IsSet c.args.self.now.map c.begin_with_register.new.ram = subst (λ (at : HandoverMap). IsSet at c.begin_with_register.new.ram) same (c.begin_with_register.ensures.set bits) in
    subst (λ (ends : Option Ends). StandsFor (view_of ends c.forget.new.self) c.begin_with_register.new.ram (started (window c.args.self.now.map c.args.ram.now))) (sym c.put_back.ensures)
    (subst (λ (ends : Ends). StandsFor (handover_of ends c.forget.new.self) c.begin_with_register.new.ram (started (window c.args.self.now.map c.args.ram.now))) (sym c.at_start-ends.ensures)
    (begun c.args.self.now.map c.forget.new.self c.args.ram.now c.begin_with_register.new.ram same c.forget.ensures.empty c.requires memory set).stands)

pub returns-clause-elsewhere : goal.returns-clause-elsewhere
returns-clause-elsewhere c =
    let inside : c.self.inside.blocks.map ≡ c.args.self.now.map = ap (λ (h : HandoverState). h.map) c.self.view_is in
    let memory : c.begin_with_register.new.ram ≡ memory_started c.args.self.now.map c.args.ram.now = c.begin_with_register.ensures.memory
    ∙ ap (λ (at : HandoverMap). memory_started at c.args.ram.now) (c.forget.ensures.map ∙ inside) in
    subst (SameWhere (IsOffMap c.args.self.now.map) c.args.ram.now) (sym memory) (elsewhere_started c.args.self.now.map c.args.ram.now c.requires)
