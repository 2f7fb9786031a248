use Rattle.ghes_block.proofs.Blocks.{no_prefix}
use Rattle.ghes_block.proofs.block.one_end.Goals as goal

pub returns : goal.returns
returns c = λ value other bytes more is longer. no_prefix value other bytes more is longer
