use Rattle.std.proofs.Common.{sym}
use Rattle.erst_client.specs.Commands.{IsAsked}
use Rattle.erst_client.proofs.commands.write_record.Goals as goal

pub returns : goal.returns
returns g c =
    IsAsked (g.S.Space.state c.put.new.space) c.sequence.result c.sequence.new.budget (g.S.Space.state c.sequence.new.space) (sym c.in_default.ensures) c.in_ok-put.ensures c.sequence.ensures
