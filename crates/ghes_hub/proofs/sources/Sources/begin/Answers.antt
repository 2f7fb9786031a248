use Rattle.std.proofs.Common.{◌≡◌, ◌∙◌, List, ◌∷◌, [], length, length-append, Some, slice_get, sym, ap, subst, arith, refl}
use Rattle.std.proofs.lemmas.Option.{slice_get_read}
use Rattle.ghes_hub.specs.declared.source.Source.{Source}
use Rattle.ghes_hub.specs.Layouts.{AreBegun, layout_kind}
use Rattle.ghes_hub.proofs.BeginLemmas.{one_begun, begun_served}
use Rattle.ghes_hub.proofs.sources.Sources.begin.Goals as goal

pub loop-layout-preserved : goal.loop-layout-preserved
loop-layout-preserved c =
    let layouts = c.args.layouts.now in
    let list = c.loop-layout.list.items in
    let inv = c.loop-layout.invariant in
    let len = inv.0 in
    let layout = c.in-Some.layout.now in
    let n = c.len.ensures in
    let here : slice_get layouts (length list) ≡ Some layout =
    ap (slice_get layouts) (sym (n ∙ len)) ∙ slice_get_read layouts (length layouts) c.len.result layout refl c.in-Some.ensures.lookup.3.0 c.in-Some.ensures.lookup.1 in
    let pushed = ap length c.push_reserved.ensures.items ∙ length-append list (c.in-Ok.handover ∷ []) in
    let longer = c.push_reserved.ensures.len in (
      omega (arith, pushed, len, longer),
      c.push_reserved.ensures.capacity ∙ inv.1,
      subst (λ (xs : List Source). AreBegun layouts c.args.ram c.new.new.ram xs) (sym c.push_reserved.ensures.items)
          (one_begun layouts c.args.ram c.loop-layout.ram c.new.new.ram list layout c.in-Ok.handover c.requires here c.in-Ok.ensures.stands
          c.in-Ok.ensures.layout (ap layout_kind c.in-Ok.ensures.layout) c.in-Ok.ensures.windows c.new.ensures.elsewhere inv.2),
    )

pub invariant_of-result : goal.invariant_of-result
invariant_of-result c = begun_served c.args.layouts.now c.args.ram c.loop-layout.ram c.loop-layout.list.items c.requires c.loop-layout.invariant.2
