use Rattle.std.proofs.Common.{subst}
use Rattle.apei_space.proofs.AccessLemmas.{never_falls}
use Rattle.erst_interp.specs.Runs.{Run}
use Rattle.erst_interp.proofs.Consequences.{run_reaches, run_device, run_spends, run_spends_some}
use Rattle.erst_interp.proofs.runs.run.Goals as goal

pub returns-clause-reaches : goal.returns-clause-reaches
returns-clause-reaches g c = run_reaches g.S.Space.allows c.args.program.now c.args.given c.args.budget.now (g.S.Space.state c.args.space.now) c.walk.result
    c.walk.new.budget (g.S.Space.state c.walk.new.space) c.walk.ensures

pub returns-clause-spends : goal.returns-clause-spends
returns-clause-spends g c = run_spends g.S.Space.allows c.args.program.now c.args.given c.args.budget.now (g.S.Space.state c.args.space.now) c.walk.result
    c.walk.new.budget (g.S.Space.state c.walk.new.space) c.walk.ensures

pub returns-clause-spends_some : goal.returns-clause-spends_some
returns-clause-spends_some g c full = run_spends_some g.S.Space.allows c.args.program.now c.args.given c.args.budget.now (g.S.Space.state c.args.space.now)
    c.walk.result c.walk.new.budget (g.S.Space.state c.walk.new.space) c.walk.ensures full

pub returns-clause-never_falls : goal.returns-clause-never_falls
returns-clause-never_falls g c =
    never_falls g.S.Space.allows g.S.Space.faults g.met.S.Space.reasons (g.S.Space.state c.args.space.now) (g.S.Space.state c.walk.new.space)
    (run_reaches g.S.Space.allows c.args.program.now c.args.given c.args.budget.now (g.S.Space.state c.args.space.now) c.walk.result c.walk.new.budget
    (g.S.Space.state c.walk.new.space) c.walk.ensures)

pub returns-clause-device : goal.returns-clause-device
returns-clause-device g c index is =
    run_device g.S.Space.allows g.S.Space.faults g.met.S.Space.reasons c.args.program.now c.args.given c.args.budget.now (g.S.Space.state c.args.space.now)
    index c.walk.new.budget (g.S.Space.state c.walk.new.space)
    (subst (λ answer. Run g.S.Space.allows c.args.program.now c.args.given c.args.budget.now (g.S.Space.state c.args.space.now) answer c.walk.new.budget
    (g.S.Space.state c.walk.new.space)) is c.walk.ensures)
