use Rattle.erst_device.proofs.ActionLemmas.{steps_on, steps_last, steps_failed}
use Rattle.erst_device.proofs.registers.Registers.step.Goals as goal

pub returns-in-Ok-true-clause-does : goal.returns-in-Ok-true-clause-does
returns-in-Ok-true-clause-does g c = λ range. let e = c.in-Ok-true.ensures in
    steps_last g.F.Flash.tells c.args.self.now c.args.store.now c.step.new.self c.in-Ok-true.field-0 range c.requires.changing c.requires.busy c.in-Ok-true.field-0-test
    (record {
      answer = e.answer;
      stepped = e.stepped;
      crash = e.crash;
      one = e.one;
      at_most = e.at_most;
      reads = e.reads;
      error = e.error;
      equivalent =
          e.equivalent;
      power = e.power;
      powered = e.powered;
      cause = e.cause;
      ends = e.ends;
    })

pub returns-in-Ok-false-clause-does : goal.returns-in-Ok-false-clause-does
returns-in-Ok-false-clause-does g c = λ range. let e = c.in-Ok-false.ensures in
    steps_on g.F.Flash.tells c.args.self.now c.args.store.now c.step.new.self c.in-Ok-false.field-0 range c.requires.changing c.requires.busy c.in-Ok-false.field-0-test
    (record {
      answer = e.answer;
      stepped = e.stepped;
      crash = e.crash;
      one = e.one;
      at_most = e.at_most;
      reads = e.reads;
      error = e.error;
      equivalent =
          e.equivalent;
      power = e.power;
      powered = e.powered;
      cause = e.cause;
      ends = e.ends;
    })

pub returns-in-Err-clause-does : goal.returns-in-Err-clause-does
returns-in-Err-clause-does g c = λ range. let e = c.in-Err.ensures in
    steps_failed g.F.Flash.tells c.args.self.now c.args.store.now c.step.new.self c.in-Err.error c.into-self.result range c.requires.changing c.requires.busy c.into-self.ensures
    (record {
      answer = e.answer;
      stepped = e.stepped;
      crash = e.crash;
      one = e.one;
      at_most = e.at_most;
      reads = e.reads;
      error = e.error;
      equivalent =
          e.equivalent;
      power = e.power;
      powered = e.powered;
      cause = e.cause;
      ends = e.ends;
    })
