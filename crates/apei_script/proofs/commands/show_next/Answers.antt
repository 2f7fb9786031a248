use Rattle.std.proofs.Common.{Some, None, Ok, Err, arith}
use Rattle.apei_script.proofs.Asking.{names}
use Rattle.apei_script.proofs.Made.{made_word}
use Rattle.apei_script.proofs.commands.show_next.Goals as goal

pub returns-in-Ok-Some-clause-answers : goal.returns-in-Ok-Some-clause-answers
returns-in-Ok-Some-clause-answers g c =
    names g.F.Flash.tells c.args.client.now c.args.steps c.args.machine.now (Ok (Some c.in-Ok-Some.id)) _ _ _ _ c.new.ensures
    (rw c.in-Ok-Some.field-0-is at c.in-Ok-Some.ensures.names) c.in-Ok-Some.ensures.reaches c.put_number.ensures

pub returns-in-Ok-None-clause-answers : goal.returns-in-Ok-None-clause-answers
returns-in-Ok-None-clause-answers g c =
    names g.F.Flash.tells c.args.client.now c.args.steps c.args.machine.now (Ok None) _ _ _ _ c.new.ensures
    (rw c.in-Ok-None.field-0-is at c.in-Ok-None.ensures.names) c.in-Ok-None.ensures.reaches (made_word _ _ (omega arith) c.begin.ensures)

pub returns-in-Err-clause-answers : goal.returns-in-Err-clause-answers
returns-in-Err-clause-answers g c =
    names g.F.Flash.tells c.args.client.now c.args.steps c.args.machine.now (Err c.in-Err.error) _ _ _ _ c.new.ensures c.in-Err.ensures.names c.in-Err.ensures.reaches c.refuse.ensures
