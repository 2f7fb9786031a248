use Rattle.std.proofs.Common.{ℕ, List, ap, ◌∙◌}
use Rattle.field_lines.specs.Sections.{section_kinds, kind_in}
use Rattle.field_lines.proofs.sections.section_kind.Goals as goal

pub returns : goal.returns
returns c = c.kind_in.ensures ∙ ap (λ (text : List ℕ). kind_in section_kinds text) c.text.ensures
