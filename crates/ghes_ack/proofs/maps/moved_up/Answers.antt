use Rattle.ghes_ack.proofs.MemoryLemmas.{moved_past}
use Rattle.ghes_ack.proofs.maps.moved_up.Goals as goal

pub returns-else-offset-lt64 : goal.returns-else-offset-lt64
returns-else-offset-lt64 c = moved_past c.args.mask c.args.offset c.if-offset-lt64.false
