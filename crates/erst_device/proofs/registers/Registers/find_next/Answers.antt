use Rattle.std.proofs.Common.{◌^◌, ◌<◌, Err, arith}
use Rattle.erst_device.specs.Registers.{seen}
use Rattle.erst_device.proofs.ActionLemmas.{finds_from, finds_some, finds_none}
use Rattle.erst_device.proofs.registers.Registers.find_next.Goals as goal

pub returns-in-Ok-Some-clause-does : goal.returns-in-Ok-Some-clause-does
returns-in-Ok-Some-clause-does g c = λ range. let e = c.in-Ok-Some.ensures in
    let small : c.get-self.result < 2 ^ 64 = omega arith in
    finds_some g.F.Flash.tells (seen c.args.self.now c.args.store.now) (seen c.give_up.new.self c.give_up.new.store) c.next.new.self c.in-Ok-Some.field-0 c.in-Ok-Some.id c.get-self.result range
    c.give_up.ensures.does c.in-Ok-Some.field-0-is c.get-self.ensures.value (c.get-self.ensures.allowed, small)
    (record { answer = e.answer; error = e.error; still = e.still; reads = e.reads; leaves = e.leaves })

pub returns-in-Ok-None-clause-does : goal.returns-in-Ok-None-clause-does
returns-in-Ok-None-clause-does g c = λ range. let e = c.in-Ok-None.ensures in
    finds_none g.F.Flash.tells (seen c.args.self.now c.args.store.now) (seen c.give_up.new.self c.give_up.new.store) c.next.new.self c.in-Ok-None.field-0 range
    c.give_up.ensures.does c.in-Ok-None.field-0-is (record { answer = e.answer; error = e.error; still = e.still; reads = e.reads; leaves = e.leaves })

pub returns-in-Err-clause-does : goal.returns-in-Err-clause-does
returns-in-Err-clause-does g c = λ range. let e = c.in-Err.ensures in
    finds_from g.F.Flash.tells (seen c.args.self.now c.args.store.now) (seen c.give_up.new.self c.give_up.new.store) c.next.new.self (Err c.in-Err.field-0) range
    c.give_up.ensures.does (record { answer = e.answer; error = e.error; still = e.still; reads = e.reads; leaves = e.leaves }) tt
