use Rattle.std.proofs.Common.{◌≡◌, ◌+◌, ◌≤◌, ◌++◌, length}
use Rattle.field_lines.specs.Layouts.{parts_text, parts_end}
use Rattle.field_lines.specs.Code.{group_of}
use Rattle.field_lines.proofs.parts.add_parts.Given as goal

abbrev pub invariant-loop-left : goal.invariant-loop-left
invariant-loop-left g l =
    (l.out.items ++ parts_text (g.S.Style.text l.style) (g.S.Style.heading l.style) l.base l.body (group_of l.group) l.left l.index l.at
    ≡ l.initial.out.items ++ parts_text (g.S.Style.text l.style) (g.S.Style.heading l.style) l.base l.body (group_of l.group) l.initial.left 0 l.initial.at)
    × (parts_end l.body (group_of l.group) l.left l.at ≡ parts_end l.body (group_of l.group) l.initial.left l.initial.at)
    × (l.at ≤ length l.body)
    × (l.index + l.left ≡ l.initial.left)

abbrev pub decreases-loop-left : goal.decreases-loop-left
decreases-loop-left g l = l.left
