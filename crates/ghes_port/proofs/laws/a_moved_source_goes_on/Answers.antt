use Rattle.ghes_port.proofs.MoveLemmas.{goes_on}
use Rattle.ghes_port.proofs.laws.a_moved_source_goes_on.Goals as goal

pub returns : goal.returns
returns c = goes_on
