use Rattle.std.proofs.Common.{◌≡◌, ◌<◌, ℕ, true, length, get_or, ap, arith}
use Rattle.erst_entries.specs.Groups.{Kept, start}
use Rattle.erst_entries.proofs.Grouping.{IsGroup, is_group}
use Rattle.erst_entries.proofs.tables.ErstTable.program.Goals as goal

pub slice_bounds-alone-end : goal.slice_bounds-alone-end
slice_bounds-alone-end c =
    let small : c.args.action < 256 = omega arith in
    let kept : Kept true c.self.inside.entries.items c.self.inside.ends c.self.inside.by_action.items = rw c.if-not-self.false at c.self.invariant.1 in
    let is : IsGroup c.args.action c.self.inside.entries.items (start c.self.inside.ends c.args.action) (get_or c.self.inside.ends c.args.action 0) c.self.inside.by_action.items =
    is_group c.args.action c.self.inside.entries.items c.self.inside.ends c.self.inside.by_action.items small kept in
    let items : length c.deref-2.result.now ≡ length c.self.inside.by_action.items = ap length c.deref-2.ensures.value in
    let end : get_or c.self.inside.ends c.from.result 0 ≡ get_or c.self.inside.ends c.args.action 0 = ap (λ (k : ℕ). get_or c.self.inside.ends k 0) c.from.ensures in
    search (arith, is.order, is.within, items, end, c.start_of-start.ensures)

pub alone-requires : goal.alone-requires
alone-requires c =
    let small : c.args.action < 256 = omega arith in
    let kept : Kept true c.self.inside.entries.items c.self.inside.ends c.self.inside.by_action.items = rw c.if-not-self.false at c.self.invariant.1 in
    let is : IsGroup c.args.action c.self.inside.entries.items (start c.self.inside.ends c.args.action) (get_or c.self.inside.ends c.args.action 0) c.self.inside.by_action.items =
    is_group c.args.action c.self.inside.entries.items c.self.inside.ends c.self.inside.by_action.items small kept in
    rw (c.deref-2.ensures.value, c.from.ensures, c.start_of-start.ensures) is.alone
