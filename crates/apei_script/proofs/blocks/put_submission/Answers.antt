use Rattle.apei_script.proofs.blocks.put_submission.Goals as goal

pub returns-in-Ok : goal.returns-in-Ok
returns-in-Ok c = rw c.in-Ok.is (rw c.from.ensures at c.put_number.ensures)

pub returns-in-Err : goal.returns-in-Err
returns-in-Err c = rw c.in-Err.is c.refuse.ensures
