use Rattle.std.proofs.Common.{inl, inr, rules}
use Rattle.std.proofs.lemmas.Bool.{both_ways}
use Rattle.record_store.proofs.FinishLemmas.{IsOnWay-none, way_crash, way_placed, IsOnWay-more}
use Rattle.record_store.proofs.store.Store.finish.Goals as goal

pub loop-init : goal.loop-init
loop-init g c = IsOnWay-none g.F.Flash.tells c.args.self.now c.requires.unfinished

pub returns-in_err-step : goal.returns-in_err-step
returns-in_err-step g c = record {
  error = search rules;
  made = search rules;
  placed = search rules;
  crash = λ tells. way_crash g.F.Flash.tells c.args.self.now c.loop.self c.step.new.self c.loop.invariant tells (c.step.ensures.crash tells);
  steps = search rules;
  at_most = search rules;
  reads = search rules;
  over = record { doubt = search rules; idle = search rules; equivalent = search rules; power = search rules; powered = search rules; cause = search rules; ends = search rules };
}

pub loop-preserved : goal.loop-preserved
loop-preserved g c =
    let stepped = c.in_ok-step.ensures.stepped in
    IsOnWay-more g.F.Flash.tells c.args.self.now c.loop.self c.step.new.self c.loop.invariant stepped.1
    (λ idle. elim stepped.2 [ inl last ↦ absurd (both_ways c.in_ok-step.field-0 c.if-not-branch.true last) | inr more ↦ more.1 idle ])
    c.in_ok-step.ensures.answer c.step.ensures.crash c.in_ok-step.ensures.one c.step.ensures.equivalent c.in_ok-step.ensures.cause c.step.ensures.reads c.in_ok-step.field-0 c.in_ok-step.ensures.ends

pub returns : goal.returns
returns g c =
    let stepped = c.in_ok-step.ensures.stepped in
    record {
      error = search rules;
      made = search rules;
      placed = λ tells. way_placed g.F.Flash.tells c.args.self.now c.loop.self c.step.new.self c.loop.invariant stepped.1 (stepped.3 c.if-not-branch.false) (c.in_ok-step.ensures.placed tells);
      crash = λ tells. way_crash g.F.Flash.tells c.args.self.now c.loop.self c.step.new.self c.loop.invariant tells (c.step.ensures.crash tells);
      steps = search rules;
      at_most = search rules;
      reads = search rules;
      over = record { doubt = search rules; idle = search rules; equivalent = search rules; power = search rules; powered = search rules; cause = search rules; ends = search rules };
    }
