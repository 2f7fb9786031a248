use Rattle.apei_script.proofs.SessionLines.{by_fatal}
use Rattle.apei_script.proofs.session.Session.lay_block.Goals as goal

pub returns : goal.returns
returns g c =
    by_fatal g.F.Flash.tells c.args.self.now.machine c.args.self.now.own c.args.self.now.steps c.args.self.now.bridge c.args.self.now.other c.args.hex.now _ _ _ _ _
    c.decode_line-len.ensures.bytes c.deref.ensures.value c.lay_fatal-answer.result c.lay_fatal-answer.ensures c.put_laid.ensures
