use Rattle.std.proofs.Common.{Ok, Err}
use Rattle.apei_script.proofs.Asking.{writes}
use Rattle.apei_script.proofs.Lengths.{written_length}
use Rattle.apei_script.proofs.commands.write_record.Goals as goal

pub wrote-requires : goal.wrote-requires
wrote-requires g c = written_length _ _ _ _ _ (Ok tt) _ _ c.in-Ok.ensures.writes

pub returns-in-Ok-clause-answers : goal.returns-in-Ok-clause-answers
returns-in-Ok-clause-answers g c =
    writes g.F.Flash.tells c.args.client.now c.args.steps c.args.machine.now c.args.hex.now _ (Ok tt) _ _ _ _ c.decode-len.ensures.bytes c.new.ensures c.in-Ok.ensures.writes c.in-Ok.ensures.reaches
    c.wrote.ensures

pub returns-in-Err-clause-answers : goal.returns-in-Err-clause-answers
returns-in-Err-clause-answers g c =
    writes g.F.Flash.tells c.args.client.now c.args.steps c.args.machine.now c.args.hex.now _ (Err c.in-Err.error) _ _ _ _ c.decode-len.ensures.bytes
    c.new.ensures c.in-Err.ensures.writes c.in-Err.ensures.reaches
    c.refuse.ensures
