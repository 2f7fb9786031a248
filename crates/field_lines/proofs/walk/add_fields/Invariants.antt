use Rattle.std.proofs.Common.{◌≡◌, ◌++◌, length, map, IsTrue}
use Rattle.field_lines.specs.Numbers.{validation}
use Rattle.field_lines.specs.Fields.{are_sound}
use Rattle.field_lines.specs.Walks.{fields_text}
use Rattle.field_lines.specs.Code.{field_of}
use Rattle.field_lines.proofs.walk.add_fields.Given as goal

abbrev pub invariant-loop-fields : goal.invariant-loop-fields
invariant-loop-fields g l =
    (l.out.items ++ fields_text (g.S.Style.text l.style l.location.depth l.location.base) l.valid_at (map field_of l.fields) l.body
    ≡ l.initial.out.items ++ fields_text (g.S.Style.text l.style l.location.depth l.location.base) l.valid_at (map field_of l.initial.fields) l.body)
    × IsTrue (are_sound (map field_of l.fields))
    × (l.valid ≡ validation l.valid_at l.body)

abbrev pub decreases-loop-fields : goal.decreases-loop-fields
decreases-loop-fields g l = length l.fields
