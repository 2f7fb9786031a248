use Rattle.apei_script.proofs.SessionLines.{by_block}
use Rattle.apei_script.proofs.session.Session.give_block.Goals as goal

pub returns : goal.returns
returns g c =
    by_block g.F.Flash.tells c.args.self.now.machine c.args.self.now.own c.args.self.now.steps c.args.self.now.bridge c.args.self.now.other c.args.hex.now _ _ _ _ _
    c.decode_line-len.ensures.bytes c.deref.ensures.value c.submit-answer.result c.submit-answer.ensures c.put_submission.ensures
