use Rattle.std.proofs.Common.{◌≡◌, ◌++◌, length, map, IsTrue}
use Rattle.field_lines.specs.Layouts.{all_inside_text, are_sound_inside}
use Rattle.field_lines.specs.Code.{inside_of}
use Rattle.field_lines.proofs.parts.add_all_inside.Given as goal

abbrev pub invariant-loop-inner : goal.invariant-loop-inner
invariant-loop-inner g l =
    (l.out.items ++ all_inside_text (g.S.Style.text l.style) (g.S.Style.heading l.style) l.base l.valid l.bytes (map inside_of l.inner)
    ≡ l.initial.out.items ++ all_inside_text (g.S.Style.text l.style) (g.S.Style.heading l.style) l.base l.valid l.bytes (map inside_of l.initial.inner))
    × IsTrue (are_sound_inside (map inside_of l.inner))

abbrev pub decreases-loop-inner : goal.decreases-loop-inner
decreases-loop-inner g l = length l.inner
