use Rattle.std.proofs.Common.{Ok, Err}
use Rattle.apei_script.proofs.Asking.{counts}
use Rattle.apei_script.proofs.commands.count_records.Goals as goal

pub returns-in-Ok-clause-answers : goal.returns-in-Ok-clause-answers
returns-in-Ok-clause-answers g c =
    counts g.F.Flash.tells c.args.client.now c.args.steps c.args.machine.now (Ok c.in-Ok.count) _ _ _ _ c.new.ensures c.in-Ok.ensures.counts c.in-Ok.ensures.reaches c.put_number.ensures

pub returns-in-Err-clause-answers : goal.returns-in-Err-clause-answers
returns-in-Err-clause-answers g c =
    counts g.F.Flash.tells c.args.client.now c.args.steps c.args.machine.now (Err c.in-Err.error) _ _ _ _ c.new.ensures c.in-Err.ensures.counts c.in-Err.ensures.reaches c.refuse.ensures
