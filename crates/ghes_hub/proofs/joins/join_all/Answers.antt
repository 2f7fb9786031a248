use Rattle.std.proofs.Common.{◌≡◌, ◌∙◌, ◌+◌, List, ◌∷◌, drop, length, sym, ap, subst, arith}
use Rattle.apei_space.specs.declared.windows.Window.{Window}
use Rattle.apei_space.specs.Windows.{total}
use Rattle.ghes_hub.specs.Joins.{AreFree, MayJoin, joins}
use Rattle.ghes_hub.proofs.Terms.{AreJoined}
use Rattle.ghes_hub.proofs.JoinLemmas.{next_at, may_join, one_joined, joins_sums, mapped_more}
use Rattle.ghes_hub.proofs.joins.join_all.Goals as goal

pub loop-range-preserved : goal.loop-range-preserved
loop-range-preserved c =
    let ranges = c.args.ranges.now in
    let at = c.loop-range.at in
    let inv = c.loop-range.invariant in
    let range = c.in-Some.range.now in
    let windows = c.loop-range.windows.items in
    let more = c.in-Some.ensures.lookup.3.0 in
    let here = next_at c.args.ranges.now c.loop-range.at c.in-Some.range.now c.in-Some.ensures.lookup.3.0 c.in-Some.ensures.lookup.1 in
    let (earlier, (free_at, (joined_at, mapped_at))) = inv.5 in
    let free : AreFree earlier (range ∷ drop (at + 1) ranges) = subst (AreFree earlier) here free_at in
    let new_is : c.swap.new.x.items ≡ joins windows range =
    ap (λ v. v.items) c.swap.ensures.x_after ∙ c.join.ensures.joined ∙ ap (λ (ws : List Window). joins ws range) c.deref.ensures.value in
    let sums = joins_sums windows range (may_join earlier windows range (drop (at + 1) ranges) free joined_at) in
    let s0 = sums.0 in
    let s1 = sums.1 in
    let few = inv.1 in
    let n = ap length new_is in
    let t = ap total new_is in
    let th = ap total here in
    let all = inv.4 in (
      omega (arith, more),
      omega (arith, n, s1, few),
      ap (λ v. v.cap) c.swap.ensures.x_after ∙ c.join.ensures.room ∙ c.clear.ensures.capacity ∙ inv.3,
      ap (λ v. v.cap) c.swap.ensures.y_after ∙ inv.2,
      omega (arith, t, s0, th, all),
      (
        range ∷ earlier,
        (
          free.3,
          (
            subst (AreJoined (range ∷ earlier)) (sym new_is) (one_joined earlier windows range (drop (at + 1) ranges) free joined_at),
            mapped_more ranges at range earlier more c.in-Some.ensures.lookup.1 mapped_at,
          ),
        ),
      ),
    )

pub join-requires-clause-may : goal.join-requires-clause-may
join-requires-clause-may c =
    let ranges = c.args.ranges.now in
    let at = c.loop-range.at in
    let inv = c.loop-range.invariant in
    let range = c.in-Some.range.now in
    let here = next_at c.args.ranges.now c.loop-range.at c.in-Some.range.now c.in-Some.ensures.lookup.3.0 c.in-Some.ensures.lookup.1 in
    let (earlier, (free_at, (joined_at, mapped_at))) = inv.5 in
    subst (λ (ws : List Window). MayJoin ws range) (sym c.deref.ensures.value) (may_join earlier c.loop-range.windows.items range (drop (at + 1) ranges)
    (subst (AreFree earlier) here free_at) joined_at)

pub join-requires-clause-small : goal.join-requires-clause-small
join-requires-clause-small c =
    let t = ap total (next_at c.args.ranges.now c.loop-range.at c.in-Some.range.now c.in-Some.ensures.lookup.3.0 c.in-Some.ensures.lookup.1) in
    let d = ap total c.deref.ensures.value in
    omega (arith, t, c.loop-range.invariant.4, c.requires.small, d)
