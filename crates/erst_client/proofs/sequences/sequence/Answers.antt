use Rattle.std.proofs.Common.{◌≡◌, true, sym, subst}
use Rattle.erst_client.specs.declared.stages.Stage.{Stage}
use Rattle.erst_client.specs.Stages.{is_bounded}
use Rattle.erst_client.specs.Reaching.{Reached}
use Rattle.erst_client.proofs.StageLemmas.{reached_on, reached_wait, weight_falls}
use Rattle.erst_client.proofs.sequences.sequence.Goals as goal

pub stages-smaller-in-Some : goal.stages-smaller-in-Some
stages-smaller-in-Some g c =
    weight_falls g.S.Space.allows c.args.table.now.entries c.args.command c.args.timings c.stages.stage c.in-Some.request c.stages.budget (g.S.Space.state c.stages.space) c.perform-answer.result
    c.perform-answer.new.budget (g.S.Space.state c.perform-answer.new.space) c.turned-stage.result (sym c.in-Some.ensures) c.perform-answer.ensures c.turned-stage.ensures.stage

pub stages-preserved-in-Some : goal.stages-preserved-in-Some
stages-preserved-in-Some g c = record {
  reached = reached_on g.S.Space.allows c.args.table.now.entries c.args.command c.args.timings c.args.budget.now (g.S.Space.state c.args.space.now) c.stages.stage c.in-Some.request c.stages.budget
      (g.S.Space.state c.stages.space) c.perform-answer.result c.perform-answer.new.budget (g.S.Space.state c.perform-answer.new.space) c.turned-stage.result (sym c.in-Some.ensures)
      c.stages.invariant.reached c.perform-answer.ensures c.turned-stage.ensures.stage;
  bounded = c.turned-stage.ensures.bounded;
}

pub stages-preserved : goal.stages-preserved
stages-preserved g c = record {
  reached = reached_wait g.S.Space.allows c.args.table.now.entries c.args.command c.args.timings c.args.budget.now (g.S.Space.state c.args.space.now) c.in-Waiting.waited c.stages.budget
      (g.S.Space.state c.stages.space) (g.S.Space.state c.pause.new.space)
      (subst (λ (s : Stage). Reached g.S.Space.allows c.args.table.now.entries c.args.command c.args.timings c.args.budget.now
      (g.S.Space.state c.args.space.now) s c.stages.budget (g.S.Space.state c.stages.space))
      c.in-Waiting.is c.stages.invariant.reached) c.pause.ensures;
  bounded = subst (λ (s : Stage). is_bounded s ≡ true) c.in-Waiting.is c.stages.invariant.bounded;
}
