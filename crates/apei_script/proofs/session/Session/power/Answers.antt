use Rattle.apei_script.proofs.SessionLines.{by_power, no_power}
use Rattle.apei_script.proofs.session.Session.power.Goals as goal

pub returns-in_default-clause-stopped : goal.returns-in_default-clause-stopped
returns-in_default-clause-stopped g c = no_power g.F.Flash.tells c.args.self.now.machine c.args.self.now.own c.args.self.now.steps c.args.self.now.bridge
    c.args.self.now.other c.in_default.field-0 c.power.new.self c.in_default.ensures

pub returns-clause-made : goal.returns-clause-made
returns-clause-made g c =
    by_power g.F.Flash.tells c.args.self.now.machine c.args.self.now.own c.args.self.now.steps c.args.self.now.bridge c.args.self.now.other c.in-Ok.records
    c.power.new.self _ _ c.leave.ensures c.in-Ok.ensures (rw c.from.ensures at c.put_number.ensures)
