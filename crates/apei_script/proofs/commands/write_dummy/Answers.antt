use Rattle.std.proofs.Common.{Ok, Err, arith}
use Rattle.apei_script.proofs.Asking.{goes_through}
use Rattle.apei_script.proofs.Made.{made_word}
use Rattle.apei_script.proofs.commands.write_dummy.Goals as goal

pub returns-in-Ok-clause-answers : goal.returns-in-Ok-clause-answers
returns-in-Ok-clause-answers g c =
    goes_through g.F.Flash.tells c.args.client.now c.args.steps c.args.machine.now (Ok tt) _ _ _ _ c.new.ensures c.in-Ok.ensures.dummy c.in-Ok.ensures.reaches
    (made_word _ _ (omega arith) c.begin.ensures)

pub returns-in-Err-clause-answers : goal.returns-in-Err-clause-answers
returns-in-Err-clause-answers g c =
    goes_through g.F.Flash.tells c.args.client.now c.args.steps c.args.machine.now (Err c.in-Err.error) _ _ _ _ c.new.ensures c.in-Err.ensures.dummy c.in-Err.ensures.reaches c.refuse.ensures
