use Rattle.ghes_port.proofs.SharedLemmas.{as_if_alone}
use Rattle.ghes_port.proofs.laws.each_source_is_as_if_alone.Goals as goal

pub returns : goal.returns
returns c = as_if_alone
