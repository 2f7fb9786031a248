use Rattle.std.proofs.lemmas.List.{length-take-le}
use Rattle.apei_script.proofs.Asking.{read_asked}
use Rattle.apei_script.proofs.clients.read_by.Goals as goal

pub returns-clause-asked : goal.returns-clause-asked
returns-clause-asked g c =
    read_asked g.F.Flash.tells c.args.client.now c.args.steps c.args.machine.now c.args.id _ c.read.new.out c.read.result _ _ _
    (length-take-le _ _ c.requires.room) c.read.auto.out c.new.ensures c.read.ensures.reads c.read.ensures.reaches
