use Rattle.std.proofs.Common.{Some, ap}
use Rattle.apei_script.proofs.SessionLines.{by_other, by_own}
use Rattle.apei_script.proofs.session.Session.ask.Goals as goal

pub returns-in-Some : goal.returns-in-Some
returns-in-Some g c = by_other g.F.Flash.tells c.args.self.now.machine c.args.self.now.own c.args.self.now.steps c.args.self.now.bridge c.in-Some.client
    c.args.self.now.other _ _ _ _ c.in-Some.is (ap Some c.run_command.ensures.kept) c.run_command.ensures.answers

pub returns-in-None : goal.returns-in-None
returns-in-None g c =
    by_own g.F.Flash.tells c.args.self.now.machine c.args.self.now.own c.args.self.now.steps c.args.self.now.bridge _ c.args.self.now.other
    c.args.self.now.other _ _ _ c.in-None.is c.in-None.is c.run_command-in-None.ensures.kept c.run_command-in-None.ensures.answers
