use Rattle.script_text.specs.ScriptGrammar.{peek}
use Rattle.apei_script.proofs.SessionLines.{by_machine}
use Rattle.apei_script.proofs.session.Session.show_bytes.Goals as goal

pub returns : goal.returns
returns g c =
    let made = c.make_bytes.ensures.made in
    by_machine g.F.Flash.tells c.args.self.now.machine c.args.self.now.own c.args.self.now.steps c.args.self.now.bridge c.args.self.now.other (peek c.args.at c.args.len) made.0 _ _ tt made.1 made.2
