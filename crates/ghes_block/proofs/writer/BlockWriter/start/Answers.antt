use Rattle.ghes_block.proofs.Writes.{begins}
use Rattle.ghes_block.proofs.writer.BlockWriter.start.Goals as goal

pub returns-clause-begun : goal.returns-clause-begun
returns-clause-begun c = begins c.args.out.now c.requires.room
