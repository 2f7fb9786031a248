use Rattle.std.proofs.Common.{◌∙◌, ℕ, List, ◌++◌, decimal, refl, ap}
use Rattle.std.specs.Prelude.{codes}
use Rattle.hub_script.specs.Replies.{reply_line}
use Rattle.hub_script.proofs.StageLemmas.{refused_waiting, at_hub, nobody_dropped, no_listener, dropped, not_below, is_below, hub_chains}
use Rattle.hub_script.proofs.player.HubPlayer.remove.Goals as goal

pub returns-in_default : goal.returns-in_default
returns-in_default g c = refused_waiting _ c.args.self.now.listeners.items c.args.self.now.hub _ _ c.in_default.is refl c.refuse.ensures

pub returns-then-source-sources : goal.returns-then-source-sources
returns-then-source-sources g c =
    at_hub _ c.args.self.now.listeners.items c.args.self.now.hub c.in-Some.hub _ _ _ c.in-Some.is
    (nobody_dropped _ _ _ _ _ (not_below _ _ _ _ c.from-sources.ensures c.sources.ensures c.if-source-sources.true) c.refuse-then-source-sources.ensures)

pub returns-then-at-listeners : goal.returns-then-at-listeners
returns-then-at-listeners g c =
    at_hub _ c.args.self.now.listeners.items c.args.self.now.hub c.in-Some.hub _ _ _ c.in-Some.is
    (no_listener _ _ _ _ c.listeners.result _ (hub_chains c.in-Some.hub) (is_below _ _ _ _ c.from-sources.ensures c.sources.ensures c.if-source-sources.false) c.listeners.ensures
    (not_below _ _ _ _ c.from-listeners.ensures refl c.if-at-listeners.true) c.refuse-then-at-listeners.ensures)

pub returns : goal.returns
returns g c =
    let front = c.add_number.ensures.text ∙ ap (λ (xs : List ℕ). xs ++ decimal c.args.source) c.begin.ensures in
    let text = c.end_line.ensures ∙ ap reply_line (c.add_number-2.ensures.text ∙ ap (λ (xs : List ℕ). xs ++ decimal c.args.at) (c.add.ensures ∙ ap (λ (xs : List ℕ). xs ++ codes " ") front)) in
    at_hub _ c.args.self.now.listeners.items c.args.self.now.hub c.in-Some.hub _ _ _ c.in-Some.is
    (dropped _ _ _ _ _ c.listeners.result _ (hub_chains c.in-Some.hub) (is_below _ _ _ _ c.from-sources.ensures c.sources.ensures c.if-source-sources.false) c.listeners.ensures
    (is_below _ _ _ _ c.from-listeners.ensures refl c.if-at-listeners.false) c.remove.ensures text)
