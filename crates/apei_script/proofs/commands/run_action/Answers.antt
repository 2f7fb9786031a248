use Rattle.std.proofs.Common.{Ok, Err}
use Rattle.apei_script.proofs.Asking.{runs}
use Rattle.apei_script.proofs.commands.run_action.Goals as goal

pub returns-in-Ok : goal.returns-in-Ok
returns-in-Ok g c = record {
  answers = runs g.F.Flash.tells c.args.client.now c.args.steps c.args.machine.now c.args.code c.args.value _ (Ok c.in-Ok.result) _ _ _ _ c.new.ensures
      (rw c.table.ensures at c.program-program.ensures) c.in-Ok.ensures.run c.in-Ok.ensures.reaches c.put_number.ensures;
}

pub returns-in-Err : goal.returns-in-Err
returns-in-Err g c = record {
  answers = runs g.F.Flash.tells c.args.client.now c.args.steps c.args.machine.now c.args.code c.args.value _ (Err c.in-Err.stop) _ _ _ _ c.new.ensures
      (rw c.table.ensures at c.program-program.ensures) c.in-Err.ensures.run c.in-Err.ensures.reaches c.refuse_behind.ensures;
}
