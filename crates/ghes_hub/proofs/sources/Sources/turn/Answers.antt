use Rattle.ghes_hub.proofs.SourceLemmas.{Moves, moves, same_layouts, of_view, served, others_stand, turns_at, stands_here}
use Rattle.ghes_hub.specs.OneSource.{layout_in}
use Rattle.ghes_hub.specs.Layouts.{layout_kind}
use Rattle.ghes_hub.proofs.HubLemmas.{took_head}
use Rattle.std.proofs.Common.{set}
use Rattle.ghes_hub.proofs.sources.Sources.turn.Goals as goal
use Rattle.ghes_hub.proofs.sources.Sources.turn.Goals.{After-turn}

-- only this source is another, and the memory off its windows is as it was
moved : (c : After-turn) → Moves c.self.inside.ram c.turn.new.ram c.self.inside.list.items c.args.source c.index_mut.result.now c.turn.new.self
moved c =
    moves c.args.self.now c.self.inside.ram c.turn.new.ram c.self.inside.list.items c.args.source c.index_mut.result.now c.turn.new.self c.self.view_is
    c.requires c.index_mut.ensures.value c.turn.ensures.places
    c.turn.ensures.elsewhere

pub invariant_of-self : goal.invariant_of-self
invariant_of-self c =
    let before = c.index_mut.result.now in
    let h = moved (goal.at.invariant_of-self c).After-turn in
    let (m, st) = c.self.invariant.stands c.args.source before h.is in
    served c.self.inside.ram c.turn.new.ram c.self.inside.list.items c.args.source before c.turn.new.self h (_, (c.turn.ensures.turned m st).stands) c.self.invariant

pub returns-clause-turned : goal.returns-clause-turned
returns-clause-turned c =
    let ram = c.self.inside.ram in
    let list = c.self.inside.list.items in
    λ kind m at. turns_at ram c.turn.new.ram list c.args.source c.index_mut.result.now c.turn.new.self c.args.side c.turn.result
    (moved (goal.at.returns-clause-turned c).After-turn) c.turn.ensures.turned kind m
    (of_view kind c.args.self.now (record { ram = ram; list = list }) c.args.source m c.self.view_is at)

pub returns-clause-others : goal.returns-clause-others
returns-clause-others c =
    let ram = c.self.inside.ram in
    let list = c.self.inside.list.items in
    λ kind j m other at. others_stand ram c.turn.new.ram list c.args.source c.index_mut.result.now c.turn.new.self (moved (goal.at.returns-clause-others c).After-turn) c.self.invariant kind j m other
    (of_view kind c.args.self.now (record { ram = ram; list = list }) j m c.self.view_is at)

pub returns-clause-took : goal.returns-clause-took
returns-clause-took c =
    let ram = c.self.inside.ram in
    let list = c.self.inside.list.items in
    let before = c.index_mut.result.now in
    let h = moved (goal.at.returns-clause-took c).After-turn in
    let (m, st) = c.self.invariant.stands c.args.source before h.is in
    let at = stands_here ram list c.args.source before m h.is st in
    λ took. took_head (layout_kind (layout_in before)) c.args.side c.turn.result c.args.source (record { ram = ram; list = list })
    (record { ram = c.turn.new.ram; list = set list c.args.source c.turn.new.self }) m at
    (turns_at ram c.turn.new.ram list c.args.source before c.turn.new.self c.args.side c.turn.result h c.turn.ensures.turned (layout_kind (layout_in before)) m at) took

pub returns-clause-layouts : goal.returns-clause-layouts
returns-clause-layouts c =
    same_layouts c.self.inside.ram c.turn.new.ram c.self.inside.list.items c.args.source c.index_mut.result.now c.turn.new.self c.args.self.now
    (moved (goal.at.returns-clause-layouts c).After-turn) c.self.view_is
