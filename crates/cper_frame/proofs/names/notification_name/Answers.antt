use Rattle.std.proofs.Common.{ℕ, List, ap, ◌∙◌}
use Rattle.cper_frame.specs.Names.{notifications, name_in}
use Rattle.cper_frame.proofs.names.notification_name.Goals as goal

pub returns : goal.returns
returns c = c.name_in.ensures ∙ ap (λ (text : List ℕ). name_in notifications text) c.text.ensures
