use Rattle.std.proofs.Common.{refl, sym, subst}
use Rattle.erst_client.specs.declared.stages.Stage.{Stage}
use Rattle.erst_client.specs.Reaching.{Runs}
use Rattle.erst_client.proofs.StageLemmas.{runs_plain}
use Rattle.erst_client.proofs.sequences.perform.Goals as goal

pub returns-in-Ending : goal.returns-in-Ending
returns-in-Ending g c =
    let run = rw (c.program_for-program.ensures, c.new.ensures) at c.run.ensures.run in
    subst (λ (s : Stage). Runs g.S.Space.allows c.args.table.now.entries s c.args.request c.args.budget.now (g.S.Space.state c.args.space.now) c.run.result
    c.args.budget.now (g.S.Space.state c.run.new.space))
    (sym c.in-Ending.is) (record { after = c.run.new.budget; left_is = refl; performs = run })

pub returns-in_default : goal.returns-in_default
returns-in_default g c =
    let run = rw c.program_for-program.ensures at c.run-in_default.ensures.run in
    runs_plain g.S.Space.allows c.args.table.now.entries c.args.stage c.args.request c.args.budget.now (g.S.Space.state c.args.space.now) c.run-in_default.result c.run-in_default.new.budget
    (g.S.Space.state c.run-in_default.new.space) c.in_default.not-Ending run
