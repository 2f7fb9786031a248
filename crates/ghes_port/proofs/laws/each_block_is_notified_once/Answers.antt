use Rattle.ghes_port.proofs.RunLemmas.{holds_last}
use Rattle.ghes_port.proofs.laws.each_block_is_notified_once.Goals as goal

pub returns : goal.returns
returns c = λ first last f runs. (holds_last first last f runs).notified
