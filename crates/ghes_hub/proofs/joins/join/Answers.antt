use Rattle.std.proofs.Common.{◌∙◌, ◌+◌, List, ◌++◌, drop, sym, ap, subst, arith}
use Rattle.apei_space.specs.declared.windows.Window.{Window}
use Rattle.apei_space.specs.Windows.{total}
use Rattle.ghes_hub.specs.Joins.{MayJoin, joins}
use Rattle.ghes_hub.proofs.JoinLemmas.{next_at}
use Rattle.ghes_hub.proofs.joins.join.Goals as goal

pub loop-window-preserved : goal.loop-window-preserved
loop-window-preserved c =
    let windows = c.args.windows.now in
    let at = c.loop-window.at in
    let inv = c.loop-window.invariant in
    let here = next_at c.args.windows.now c.loop-window.at c.in-Some.window.now c.in-Some.ensures.lookup.3.0 c.in-Some.ensures.lookup.1 in
    let more = c.in-Some.ensures.lookup.3.0 in
    let few = inv.1 in
    let k = c.join_one.ensures.few in
    let small = inv.4 in
    let t = ap total here in
    let g = c.join_one.ensures.small in (
      omega (arith, more),
      omega (arith, few, k),
      c.join_one.ensures.room ∙ inv.2,
      c.join_one.ensures.may (drop (at + 1) windows) (subst (λ (ws : List Window). MayJoin ws c.loop-window.grown) here inv.3),
      omega (arith, small, t, g),
      c.join_one.ensures.same (drop (at + 1) windows) ∙ ap (λ (ws : List Window). c.loop-window.out.items ++ joins ws c.loop-window.grown) (sym here) ∙ inv.5,
    )

pub join_one-requires-clause-ends : goal.join_one-requires-clause-ends
join_one-requires-clause-ends c =
    let inv = c.loop-window.invariant in
    let here = next_at c.args.windows.now c.loop-window.at c.in-Some.window.now c.in-Some.ensures.lookup.3.0 c.in-Some.ensures.lookup.1 in
    (subst (λ (ws : List Window). MayJoin ws c.loop-window.grown) here inv.3).apart.0

pub join_one-requires-clause-small : goal.join_one-requires-clause-small
join_one-requires-clause-small c =
    let t = ap total (next_at c.args.windows.now c.loop-window.at c.in-Some.window.now c.in-Some.ensures.lookup.3.0 c.in-Some.ensures.lookup.1) in
    omega (arith, t, c.loop-window.invariant.4, c.requires.small)
