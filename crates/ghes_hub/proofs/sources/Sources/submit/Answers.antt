use Rattle.std.proofs.Common.{ap, sym, ◌∙◌, length, slice_get, ◌≡◌}
use Rattle.std.proofs.lemmas.Result.{on_ok_weaker, IfOk-weaker}
use Rattle.ghes_ack.proofs.ElsewhereLemmas.{SameWhere-refl}
use Rattle.ghes_hub.specs.Places.{IsOff, layout_windows}
use Rattle.ghes_hub.specs.OneSource.{waiting_of, layout_in}
use Rattle.ghes_hub.specs.SourcesState.{SourcesState}
use Rattle.ghes_hub.proofs.SourceLemmas.{Moves, moves, same_layouts, of_view, served, others_stand, submits_at, stands_after, slice_get-same, if_some}
use Rattle.ghes_hub.proofs.sources.Sources.submit.Goals as goal
use Rattle.ghes_hub.proofs.sources.Sources.submit.Goals.{After-submit}

-- only this source is another
moved : (c : After-submit) → Moves c.self.inside.ram c.self.inside.ram c.self.inside.list.items c.args.source c.index_mut.result.now c.submit.new.self
moved c =
    let before = c.index_mut.result.now in
    moves c.args.self.now c.self.inside.ram c.self.inside.ram c.self.inside.list.items c.args.source before c.submit.new.self c.self.view_is c.requires
    c.index_mut.ensures.value c.submit.ensures.places
    (SameWhere-refl (IsOff (layout_windows (layout_in before))) c.self.inside.ram)

pub invariant_of-self : goal.invariant_of-self
invariant_of-self c =
    let ram = c.self.inside.ram in
    let before = c.index_mut.result.now in
    let h = moved (goal.at.invariant_of-self c).After-submit in
    served ram ram c.self.inside.list.items c.args.source before c.submit.new.self h
    (stands_after c.submit.result ram before c.submit.new.self c.args.block.now c.submit.ensures.stands c.submit.ensures.refused (c.self.invariant.stands c.args.source before h.is)) c.self.invariant

pub returns-clause-submitted : goal.returns-clause-submitted
returns-clause-submitted c =
    let ram = c.self.inside.ram in
    let list = c.self.inside.list.items in
    on_ok_weaker c.submit.result (λ stands kind m at. submits_at ram list c.args.source c.index_mut.result.now c.submit.new.self c.args.block.now
    (moved (goal.at.returns-clause-submitted c).After-submit) stands kind m
    (of_view kind c.args.self.now (record { ram = ram; list = list }) c.args.source m c.self.view_is at)) c.submit.ensures.stands

pub returns-clause-others : goal.returns-clause-others
returns-clause-others c =
    let ram = c.self.inside.ram in
    let list = c.self.inside.list.items in
    λ kind j m other at. others_stand ram ram list c.args.source c.index_mut.result.now c.submit.new.self (moved (goal.at.returns-clause-others c).After-submit) c.self.invariant kind j m other
    (of_view kind c.args.self.now (record { ram = ram; list = list }) j m c.self.view_is at)

pub returns-clause-number : goal.returns-clause-number
returns-clause-number c =
    let h = moved (goal.at.returns-clause-number c).After-submit in
    IfOk-weaker c.submit.result _ _ (λ waiting e. if_some _ c.submit.new.self (λ handover. waiting ≡ length (waiting_of handover))
    (slice_get-same c.self.inside.list.items c.args.source c.submit.new.self h.within) e)
    c.submit.ensures.number

pub returns-clause-exact : goal.returns-clause-exact
returns-clause-exact c =
    let h = moved (goal.at.returns-clause-exact c).After-submit in
    if_some _ c.index_mut.result.now _ (ap (λ (s : SourcesState). slice_get s.list c.args.source) (sym c.self.view_is) ∙ h.is) c.submit.ensures.exact

pub returns-clause-layouts : goal.returns-clause-layouts
returns-clause-layouts c =
    same_layouts c.self.inside.ram c.self.inside.ram c.self.inside.list.items c.args.source c.index_mut.result.now c.submit.new.self c.args.self.now
    (moved (goal.at.returns-clause-layouts c).After-submit) c.self.view_is
