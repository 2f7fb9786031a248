use Rattle.ghes_port.proofs.OpenedLemmas.{each_sound, pairs_apart}
use Rattle.ghes_port.proofs.laws.opened_sources_are_apart.Goals as goal

pub returns : goal.returns
returns c = record { each = each_sound; pairs = pairs_apart }
