use Rattle.std.proofs.Common.{◌≡◌, ◌∙◌, ℕ, ◌∷◌, [], ◌++◌, length, sym, ap, subst}
use Rattle.ghes_ack.specs.declared.maps.HandoverMap.{HandoverMap}
use Rattle.ghes_ack.specs.Machine.{Fits, submitted}
use Rattle.ghes_ack.specs.Handovers.{HandoverState, StandsFor}
use Rattle.ghes_ack.specs.Sides.{view_of}
use Rattle.ghes_ack.proofs.StartLemmas.{waiting_of, added, refused_as, submits}
use Rattle.ghes_ack.proofs.handover.Handover.submit.Goals as goal

pub returns-in-Err-clause-exact : goal.returns-in-Err-clause-exact
returns-in-Err-clause-exact c =
    let same : c.self.inside.blocks.map.len ≡ c.args.self.now.map.len = ap (λ (at : HandoverMap). at.len) (ap (λ (h : HandoverState). h.map) c.self.view_is) in
    let wait = ap (λ (h : HandoverState). length h.waiting) (sym c.self.view_is) ∙ waiting_of c.self.inside.ends c.self.inside.blocks c.self.invariant in
    refused_as c.self.inside.blocks.map.len c.args.self.now.map.len _ _ c.args.block.now _ same (wait ∙ sym c.len.ensures) c.in-Err.ensures.exact

pub returns-clause-exact : goal.returns-clause-exact
returns-clause-exact c =
    let same : c.self.inside.blocks.map.len ≡ c.args.self.now.map.len = ap (λ (at : HandoverMap). at.len) (ap (λ (h : HandoverState). h.map) c.self.view_is) in
    let wait = ap (λ (h : HandoverState). length h.waiting) (sym c.self.view_is) ∙ waiting_of c.self.inside.ends c.self.inside.blocks c.self.invariant in
    refused_as c.self.inside.blocks.map.len c.args.self.now.map.len _ _ c.args.block.now _ same (wait ∙ sym c.len.ensures) c.in_default.ensures.exact

pub returns-clause-stands : goal.returns-clause-stands
returns-clause-stands c =
    let same : c.self.inside.blocks.map.len ≡ c.args.self.now.map.len = ap (λ (at : HandoverMap). at.len) (ap (λ (h : HandoverState). h.map) c.self.view_is) in
    let good : Fits c.args.self.now.map.len c.args.block.now = subst (λ (n : ℕ). Fits n c.args.block.now) same c.in_default.ensures.fits in
    let next : view_of c.self.inside.ends c.add.new.self ≡ record c.args.self.now { waiting = c.args.self.now.waiting ++ c.args.block.now ∷ [] } =
    added c.self.inside.ends c.self.inside.blocks c.add.new.self c.args.block.now c.add.ensures
    ∙ ap (λ (h : HandoverState). record h { waiting = h.waiting ++ c.args.block.now ∷ [] }) c.self.view_is in
    λ ram m st. subst (λ (h : HandoverState). StandsFor h ram (submitted m c.args.block.now)) (sym next) (submits c.args.self.now ram m c.args.block.now good st)
