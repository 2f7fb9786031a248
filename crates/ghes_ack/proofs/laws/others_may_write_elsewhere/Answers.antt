use Rattle.ghes_ack.proofs.CallLemmas.{StandsFor-others}
use Rattle.ghes_ack.proofs.laws.others_may_write_elsewhere.Goals as goal

pub returns : goal.returns
returns c = StandsFor-others
