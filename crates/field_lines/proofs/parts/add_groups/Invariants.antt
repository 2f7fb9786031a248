use Rattle.std.proofs.Common.{◌≡◌, ◌≤◌, ◌++◌, length, map, IsTrue}
use Rattle.field_lines.specs.Layouts.{groups_text, are_sound_groups}
use Rattle.field_lines.specs.Code.{group_of}
use Rattle.field_lines.proofs.parts.add_groups.Given as goal

abbrev pub invariant-loop-groups : goal.invariant-loop-groups
invariant-loop-groups g l =
    (l.out.items ++ groups_text (g.S.Style.text l.style) (g.S.Style.heading l.style) l.base l.body (map group_of l.groups) l.at
    ≡ l.initial.out.items ++ groups_text (g.S.Style.text l.style) (g.S.Style.heading l.style) l.base l.body (map group_of l.initial.groups) l.initial.at)
    × IsTrue (are_sound_groups (map group_of l.groups))
    × (l.at ≤ length l.body)

abbrev pub decreases-loop-groups : goal.decreases-loop-groups
decreases-loop-groups g l = length l.groups
