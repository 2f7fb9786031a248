use Rattle.std.proofs.Common.{Ok, Err, ap}
use Rattle.erst_device.specs.Registers.{seen, reading_of}
use Rattle.erst_device.proofs.ActionLemmas.{shows_from, shows_failed, read_out}
use Rattle.erst_device.proofs.registers.Registers.show.Goals as goal

pub returns-in-Ok-clause-does : goal.returns-in-Ok-clause-does
returns-in-Ok-clause-does g c = let e = c.in-Ok.ensures in
    shows_from g.F.Flash.tells (seen c.args.self.now c.args.store.now) c.read.new.self c.args.id c.args.range.now c.read.new.out (Ok c.in-Ok.field-0) (ap reading_of c.requires.running)
    (read_out g.F.Flash.tells c.args.store.now c.read.new.self c.in-Some.record_id c.args.id c.args.self.now.offset c.args.range.now c.read.new.out
    (Ok c.in-Ok.field-0) c.in-Some.ensures.0 c.requires.reading c.requires.room
    e.answer e.still e.leaves)

pub returns-in-Err-clause-does : goal.returns-in-Err-clause-does
returns-in-Err-clause-does g c = let e = c.in-Err.ensures in
    shows_failed g.F.Flash.tells (seen c.args.self.now c.args.store.now) c.read.new.self c.args.id c.args.range.now c.read.new.out c.in-Err.error c.into-self.result (ap reading_of c.requires.running)
    (read_out g.F.Flash.tells c.args.store.now c.read.new.self c.in-Some.record_id c.args.id c.args.self.now.offset c.args.range.now c.read.new.out
    (Err c.in-Err.error) c.in-Some.ensures.0 c.requires.reading c.requires.room
    e.answer e.still e.leaves)
    c.into-self.ensures
