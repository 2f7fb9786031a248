use Rattle.std.proofs.Common.{◌≡◌, ◌++◌, length, map, IsTrue}
use Rattle.field_lines.specs.Fields.{are_sound, register_fields}
use Rattle.field_lines.specs.Walks.{fields_text}
use Rattle.field_lines.proofs.walk.add_registers.Given as goal

abbrev pub invariant-loop-names : goal.invariant-loop-names
invariant-loop-names g l =
    (l.out.items ++ fields_text (g.S.Style.text l.style l.location.depth l.location.base) 0 (register_fields l.width l.at (map (λ name. name.now) l.names)) l.body
    ≡ l.initial.out.items ++ fields_text (g.S.Style.text l.style l.location.depth l.location.base) 0 (register_fields l.width l.initial.at (map (λ name. name.now) l.initial.names)) l.body)
    × IsTrue (are_sound (register_fields l.width l.at (map (λ name. name.now) l.names)))

abbrev pub decreases-loop-names : goal.decreases-loop-names
decreases-loop-names g l = length l.names
