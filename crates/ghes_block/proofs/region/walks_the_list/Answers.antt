use Rattle.ghes_block.proofs.RegionLemmas.{finds_next}
use Rattle.ghes_block.proofs.region.walks_the_list.Goals as goal

pub returns : goal.returns
returns c = finds_next
