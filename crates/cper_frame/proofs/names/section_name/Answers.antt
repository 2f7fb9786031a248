use Rattle.std.proofs.Common.{ℕ, List, ap, ◌∙◌}
use Rattle.cper_frame.specs.Names.{sections, name_in}
use Rattle.cper_frame.proofs.names.section_name.Goals as goal

pub returns : goal.returns
returns c = c.name_in.ensures ∙ ap (λ (text : List ℕ). name_in sections text) c.text.ensures
