use Rattle.std.proofs.Common.{Ok, Err}
use Rattle.apei_script.proofs.Asking.{clears}
use Rattle.apei_script.proofs.commands.clear_record.Goals as goal

pub returns-in-Ok-clause-answers : goal.returns-in-Ok-clause-answers
returns-in-Ok-clause-answers g c =
    clears g.F.Flash.tells c.args.client.now c.args.steps c.args.machine.now c.args.id (Ok tt) _ _ _ _ c.new.ensures c.in-Ok.ensures.clears c.in-Ok.ensures.reaches c.put_number.ensures

pub returns-in-Err-clause-answers : goal.returns-in-Err-clause-answers
returns-in-Err-clause-answers g c =
    clears g.F.Flash.tells c.args.client.now c.args.steps c.args.machine.now c.args.id (Err c.in-Err.error) _ _ _ _ c.new.ensures c.in-Err.ensures.clears c.in-Err.ensures.reaches c.refuse.ensures
