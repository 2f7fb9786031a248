use Rattle.erst_client.specs.Commands.{NotMarked, IsPut}
use Rattle.erst_client.proofs.commands.put.Goals as goal

pub returns-in-Ok-write_bytes : goal.returns-in-Ok-write_bytes
returns-in-Ok-write_bytes g c = IsPut (g.S.Space.state c.write_bytes.new.self) _ c.in-Ok.ensures c.in-Ok-write_bytes.ensures

pub returns-in-Err-write_bytes : goal.returns-in-Err-write_bytes
returns-in-Err-write_bytes g c = NotMarked (g.S.Space.state c.write_bytes.new.self) c.in-Err-write_bytes.fault _ c.in-Ok.ensures c.in-Err-write_bytes.ensures
