use Rattle.std.proofs.Common.{Some, Ok, Err}
use Rattle.erst_interp.proofs.ToldLemmas.{stands_turn, walks_by}
use Rattle.erst_interp.proofs.BoundLemmas.{walk_falls}
use Rattle.erst_interp.proofs.runs.walk.Goals as goal

pub returns-in-Some : goal.returns-in-Some
returns-in-Some g c =
    stands_turn g.S.Space.allows c.args.program.now c.args.given c.args.budget.now (g.S.Space.state c.args.space.now) (g.S.Space.state c.instructions.space)
    c.instructions.at c.instructions.budget (Some c.in-Some.result) c.end_at.new.budget
    c.in-Some.ensures c.instructions.invariant.has c.instructions.invariant.walked

pub returns-in-Err : goal.returns-in-Err
returns-in-Err g c =
    walks_by g.S.Space.allows c.args.program.now c.args.given c.args.budget.now (g.S.Space.state c.args.space.now) (g.S.Space.state c.instructions.space)
    c.instructions.at c.instructions.budget c.end_at.new.budget c.of-task.result
    (Err c.in-Err.stop) c.execute.new.budget (g.S.Space.state c.execute.new.space) c.in_default.ensures c.instructions.invariant.has
    c.instructions.invariant.walked c.of-task.ensures.task c.of-task.ensures.here c.in-Err.ensures

pub instructions-preserved : goal.instructions-preserved
instructions-preserved g c = record {
  walked = walks_by g.S.Space.allows c.args.program.now c.args.given c.args.budget.now (g.S.Space.state c.args.space.now) (g.S.Space.state c.instructions.space)
      c.instructions.at c.instructions.budget c.end_at.new.budget c.of-task.result
      (Ok c.in-Ok.next) c.execute.new.budget (g.S.Space.state c.execute.new.space) c.in_default.ensures c.instructions.invariant.has
      c.instructions.invariant.walked c.of-task.ensures.task c.of-task.ensures.here c.in-Ok.ensures;
  has = c.instructions.invariant.has;
}

pub instructions-smaller : goal.instructions-smaller
instructions-smaller g c =
    walk_falls g.S.Space.allows c.args.program.now c.args.given c.instructions.at c.instructions.budget c.end_at.new.budget c.of-task.result (g.S.Space.state c.instructions.space) c.in-Ok.next
    c.execute.new.budget (g.S.Space.state c.execute.new.space) c.in_default.ensures c.in-Ok.ensures
