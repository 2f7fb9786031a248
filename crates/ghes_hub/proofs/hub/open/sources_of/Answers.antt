use Rattle.std.proofs.Common.{◌∙◌, List, [], sym, ap, subst, arith}
use Rattle.apei_space.specs.Windows.{AreApart, total}
use Rattle.apei_space.specs.Mapped.{IsMapped}
use Rattle.ghes_hub.specs.declared.layouts.Layout.{Layout}
use Rattle.ghes_hub.specs.Joins.{AreFree}
use Rattle.ghes_hub.specs.Layouts.{AreLaidOut}
use Rattle.ghes_hub.specs.Refusals.{generics, layouts_from, all_windows}
use Rattle.ghes_hub.proofs.SoundLemmas.{sound, laid_out, all_free, is_ready, covers_is, blank_is}
use Rattle.ghes_hub.proofs.hub.open.sources_of.Goals as goal

pub join_all-requires-clause-free : goal.join_all-requires-clause-free
join_all-requires-clause-free c =
    let plan = c.in_ok-plan.ensures in
    let are = c.deref.ensures.value ∙ plan.windows ∙ ap all_windows plan.planned in
    subst (AreFree []) (sym are) (all_free (generics c.args.sources.now) plan.exact)

pub join_all-requires-clause-small : goal.join_all-requires-clause-small
join_all-requires-clause-small c =
    let plan = c.in_ok-plan.ensures in
    let are = ap total (c.deref.ensures.value ∙ plan.windows ∙ ap all_windows plan.planned) in
    let few = (sound [] 0 (generics c.args.sources.now) plan.exact).few in
    let most = c.if-found-gt16.false in
    let count = c.count-found.ensures in
    omega (arith, are, few, most, count)

pub begin-requires : goal.begin-requires
begin-requires c =
    let plan = c.in_ok-plan.ensures in
    let gens = generics c.args.sources.now in
    let covers = covers_is (layouts_from 0 gens) c.in_ok-ram.ram c.deref-2.result.now c.deref.result.now 0 c.in_ok-ram.ensures
    (subst AreApart (sym c.deref-2.ensures.value) c.in_ok-windows.ensures.apart) (c.deref.ensures.value ∙ plan.windows ∙ ap all_windows plan.planned)
    (λ at h. subst (λ ws. IsMapped ws at) (sym c.deref-2.ensures.value) (c.in_ok-windows.ensures.mapped at h)) in
    subst (λ (ls : List Layout). AreLaidOut ls c.in_ok-ram.ram) (sym (c.deref-3.ensures.value ∙ plan.planned)) (laid_out gens c.in_ok-ram.ram plan.exact covers)

pub returns-clause-opened : goal.returns-clause-opened
returns-clause-opened c =
    let plan = c.in_ok-plan.ensures in
    let gens = generics c.args.sources.now in
    let covers = covers_is (layouts_from 0 gens) c.in_ok-ram.ram c.deref-2.result.now c.deref.result.now 0 c.in_ok-ram.ensures
    (subst AreApart (sym c.deref-2.ensures.value) c.in_ok-windows.ensures.apart) (c.deref.ensures.value ∙ plan.windows ∙ ap all_windows plan.planned)
    (λ at h. subst (λ ws. IsMapped ws at) (sym c.deref-2.ensures.value) (c.in_ok-windows.ensures.mapped at h)) in
    let some = c.if-found-eq0.false in
    let most = c.if-found-gt16.false in
    let count = c.count-found.ensures in
    is_ready c.args.sources.now c.in_ok-ram.ram c.in_ok-begin.field-0.ram c.in_ok-begin.field-0.list c.deref-3.result.now
    (c.deref-3.ensures.value ∙ plan.planned) plan.exact (omega (arith, some, count)) (omega (arith, most, count))
    (blank_is c.in_ok-ram.ram c.deref-2.result.now c.in_ok-ram.ensures) (laid_out gens c.in_ok-ram.ram plan.exact covers) c.in_ok-begin.ensures.0 c.in_ok-begin.ensures.1
