use Rattle.ghes_port.proofs.RunLemmas.{holds_last, left_of, no_write}
use Rattle.ghes_port.proofs.laws.nothing_is_overwritten.Goals as goal

pub returns : goal.returns
returns c = λ first last f runs busy. no_write last.source.map last.source.queue (left_of last) last.memory last.source.stage last.reader busy (holds_last first last f runs).together
