use Rattle.apei_space.proofs.MappedLemmas.{finds_bytes}
use Rattle.apei_space.proofs.laws.unmapped_is_first.Goals as goal

pub returns : goal.returns
returns c windows at n apart = finds_bytes windows at n apart
