use Rattle.ghes_block.proofs.RegionLemmas.{laid_is_list}
use Rattle.ghes_block.proofs.region.what_is_laid_is_the_list.Goals as goal

pub returns : goal.returns
returns c = laid_is_list
