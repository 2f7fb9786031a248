use Rattle.hest_sources.proofs.Structures.{wrote_nine, wrote_ten}
use Rattle.hest_sources.proofs.sources.Ghes.put.Goals as goal

pub returns-in-Some-clause-wrote : goal.returns-in-Some-clause-wrote
returns-in-Some-clause-wrote c =
    wrote_ten c.args.self.now c.in-Some.ack c.args.out.now c.put_front.new.out c.put.new.out c.put.result c.in-Some.is c.put.ensures.end c.put_front.ensures c.put.ensures.wrote

pub returns-in-None-clause-wrote : goal.returns-in-None-clause-wrote
returns-in-None-clause-wrote c = wrote_nine c.args.self.now c.args.out.now c.put_front.new.out c.in-None.is c.put_front.ensures
