use Rattle.std.proofs.Common.{◌≡◌, true, subst}
use Rattle.erst_interp.specs.declared.states.Progress.{Progress}
use Rattle.erst_interp.specs.declared.states.Progress.TheVariants.{Done, Awaits, Stopped}
use Rattle.erst_interp.specs.Continuing.{is_sound}
use Rattle.erst_interp.proofs.ProgressLemmas.{continues_first, continues_on}
use Rattle.erst_interp.proofs.BoundLemmas.{rank_falls}
use Rattle.erst_interp.proofs.runs.execute.Goals as goal

pub returns-in-Done : goal.returns-in-Done
returns-in-Done g c = continues_first g.S.Space.allows c.args.task.now c.args.budget.now (g.S.Space.state c.args.space.now) c.begun.result (Done c.in-Done.next) c.begun.ensures.begins c.in-Done.is

pub returns-in-Stopped : goal.returns-in-Stopped
returns-in-Stopped g c = continues_first g.S.Space.allows c.args.task.now c.args.budget.now (g.S.Space.state c.args.space.now) c.begun.result
    (Stopped c.in-Stopped.stop) c.begun.ensures.begins c.in-Stopped.is

pub returns-in-Done-resumed : goal.returns-in-Done-resumed
returns-in-Done-resumed g c =
    continues_on g.S.Space.allows c.args.task.now c.args.budget.now (g.S.Space.state c.args.space.now) c.in-Awaits.first c.demand.result c.args.budget.now
    (g.S.Space.state c.args.space.now) c.make-answer.result
    (g.S.Space.state c.make-answer.new.space) c.resumed.result (Done c.in-Done-resumed.next) c.resumed.new.budget
    (continues_first g.S.Space.allows c.args.task.now c.args.budget.now (g.S.Space.state c.args.space.now) c.begun.result (Awaits c.in-Awaits.first) c.begun.ensures.begins c.in-Awaits.is)
    c.demand.ensures c.make-answer.ensures c.resumed.ensures.progress c.resumed.ensures.left c.in-Done-resumed.is

pub returns-in-Stopped-resumed : goal.returns-in-Stopped-resumed
returns-in-Stopped-resumed g c =
    continues_on g.S.Space.allows c.args.task.now c.args.budget.now (g.S.Space.state c.args.space.now) c.in-Awaits.first c.demand.result c.args.budget.now
    (g.S.Space.state c.args.space.now) c.make-answer.result
    (g.S.Space.state c.make-answer.new.space) c.resumed.result (Stopped c.in-Stopped-resumed.stop) c.resumed.new.budget
    (continues_first g.S.Space.allows c.args.task.now c.args.budget.now (g.S.Space.state c.args.space.now) c.begun.result (Awaits c.in-Awaits.first) c.begun.ensures.begins c.in-Awaits.is)
    c.demand.ensures c.make-answer.ensures c.resumed.ensures.progress c.resumed.ensures.left c.in-Stopped-resumed.is

pub accesses-init : goal.accesses-init
accesses-init g c = record {
  waits = continues_on g.S.Space.allows c.args.task.now c.args.budget.now (g.S.Space.state c.args.space.now) c.in-Awaits.first c.demand.result c.args.budget.now
      (g.S.Space.state c.args.space.now) c.make-answer.result
      (g.S.Space.state c.make-answer.new.space) c.resumed.result (Awaits c.in-Awaits-resumed.second) c.resumed.new.budget
      (continues_first g.S.Space.allows c.args.task.now c.args.budget.now (g.S.Space.state c.args.space.now) c.begun.result (Awaits c.in-Awaits.first) c.begun.ensures.begins c.in-Awaits.is)
      c.demand.ensures c.make-answer.ensures c.resumed.ensures.progress c.resumed.ensures.left c.in-Awaits-resumed.is;
  near = subst (λ (p : Progress). is_sound p ≡ true) c.in-Awaits-resumed.is c.resumed.ensures.sound;
}

pub returns-in-Done-resumed-2 : goal.returns-in-Done-resumed-2
returns-in-Done-resumed-2 g c =
    continues_on g.S.Space.allows c.args.task.now c.args.budget.now (g.S.Space.state c.args.space.now) c.accesses.awaited c.demand-in-accesses.result
    c.accesses.budget (g.S.Space.state c.accesses.space) c.make-answer-in-accesses.result
    (g.S.Space.state c.make-answer-in-accesses.new.space) c.resumed-in-accesses.result (Done c.in-Done-resumed-2.next)
    c.resumed-in-accesses.new.budget c.accesses.invariant.waits c.demand-in-accesses.ensures c.make-answer-in-accesses.ensures
    c.resumed-in-accesses.ensures.progress c.resumed-in-accesses.ensures.left c.in-Done-resumed-2.is

pub returns-in-Stopped-resumed-2 : goal.returns-in-Stopped-resumed-2
returns-in-Stopped-resumed-2 g c =
    continues_on g.S.Space.allows c.args.task.now c.args.budget.now (g.S.Space.state c.args.space.now) c.accesses.awaited c.demand-in-accesses.result
    c.accesses.budget (g.S.Space.state c.accesses.space) c.make-answer-in-accesses.result
    (g.S.Space.state c.make-answer-in-accesses.new.space) c.resumed-in-accesses.result (Stopped c.in-Stopped-resumed-2.stop)
    c.resumed-in-accesses.new.budget c.accesses.invariant.waits c.demand-in-accesses.ensures c.make-answer-in-accesses.ensures
    c.resumed-in-accesses.ensures.progress c.resumed-in-accesses.ensures.left c.in-Stopped-resumed-2.is

pub accesses-smaller : goal.accesses-smaller
accesses-smaller g c = rank_falls c.args.task.now c.accesses.awaited c.accesses.budget c.make-answer-in-accesses.result c.resumed-in-accesses.result
    c.in-Awaits-resumed-2.further c.resumed-in-accesses.ensures.progress c.in-Awaits-resumed-2.is

pub accesses-preserved : goal.accesses-preserved
accesses-preserved g c = record {
  waits = continues_on g.S.Space.allows c.args.task.now c.args.budget.now (g.S.Space.state c.args.space.now) c.accesses.awaited c.demand-in-accesses.result
      c.accesses.budget (g.S.Space.state c.accesses.space) c.make-answer-in-accesses.result
      (g.S.Space.state c.make-answer-in-accesses.new.space) c.resumed-in-accesses.result (Awaits c.in-Awaits-resumed-2.further)
      c.resumed-in-accesses.new.budget c.accesses.invariant.waits c.demand-in-accesses.ensures c.make-answer-in-accesses.ensures
      c.resumed-in-accesses.ensures.progress c.resumed-in-accesses.ensures.left c.in-Awaits-resumed-2.is;
  near = subst (λ (p : Progress). is_sound p ≡ true) c.in-Awaits-resumed-2.is c.resumed-in-accesses.ensures.sound;
}
