use Rattle.std.proofs.Common.{arith}
use Rattle.apei_space.proofs.BytePlaces.{set-put_at}
use Rattle.apei_space.proofs.bytes.put_u8.Goals as goal

pub returns : goal.returns
returns c = set-put_at c.args.bytes.now c.args.at c.args.value c.requires (omega arith)
