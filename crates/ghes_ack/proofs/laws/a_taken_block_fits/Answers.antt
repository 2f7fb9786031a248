use Rattle.ghes_ack.proofs.TakenLemmas.{taken_fits}
use Rattle.ghes_ack.proofs.laws.a_taken_block_fits.Goals as goal

pub returns : goal.returns
returns c = taken_fits
