use Rattle.apei_script.proofs.SessionLines.{by_reset, no_reset}
use Rattle.apei_script.proofs.session.Session.reset.Goals as goal

pub returns-in_default-clause-stopped : goal.returns-in_default-clause-stopped
returns-in_default-clause-stopped g c = no_reset g.F.Flash.tells c.args.self.now.machine c.args.self.now.own c.args.self.now.steps c.args.self.now.bridge
    c.args.self.now.other c.in_default.field-0 c.warm.new.self c.in_default.ensures

pub returns-clause-made : goal.returns-clause-made
returns-clause-made g c =
    by_reset g.F.Flash.tells c.args.self.now.machine c.args.self.now.own c.args.self.now.steps c.args.self.now.bridge c.args.self.now.other c.in-Ok.records
    c.warm.new.self _ _ c.leave.ensures c.in-Ok.ensures (rw c.from.ensures at c.put_number.ensures)
