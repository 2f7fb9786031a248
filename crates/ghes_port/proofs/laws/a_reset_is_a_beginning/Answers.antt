use Rattle.ghes_port.proofs.SourceLemmas.{source_reset}
use Rattle.std.proofs.Common.{refl}
use Rattle.ghes_port.proofs.laws.a_reset_is_a_beginning.Goals as goal

pub returns : goal.returns
returns c = λ blocks source memory is apart. record {
  source = source_reset blocks source is;
  apart = apart;
  stage = refl;
  reader = refl;
  taken = refl;
  submitted = refl;
  notices = refl;
}
