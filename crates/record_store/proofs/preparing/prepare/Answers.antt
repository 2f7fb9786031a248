use Rattle.std.proofs.Common.{sym, subst}
use Rattle.record_model.specs.Plan as planned
use Rattle.record_model.specs.Plan.{StandsAtStage}
use Rattle.record_model.proofs.LeavesLemmas.{step_leaves}
use Rattle.record_model.proofs.StepLemmas.{step_made}
use Rattle.flash_model.specs.Layouts.{layout_of}
use Rattle.record_store.specs.Drafts.{plan_of, step_of}
use Rattle.record_store.proofs.Next.{number_low}
use Rattle.record_store.proofs.preparing.prepare.Goals as goal

pub returns-in_err-fill-clause-kept : goal.returns-in_err-fill-clause-kept
returns-in_err-fill-clause-kept g c tells =
    step_leaves (layout_of c.args.geometry.now) (plan_of c.args.draft.now c.args.body.now) c.args.number (step_of c.args.step)
    (g.F.Flash.state c.args.flash.now).told (g.F.Flash.state c.fill.new.flash).told
    c.requires.draft.plan (number_low c.args.geometry.now c.args.draft.now c.args.body.now c.args.number c.requires.draft c.requires.number) c.requires.form
    (c.requires.knows tells) (c.requires.stands tells)
    (c.fill.ensures.change.told tells)

pub returns-clause-kept : goal.returns-clause-kept
returns-clause-kept g c tells =
    step_leaves (layout_of c.args.geometry.now) (plan_of c.args.draft.now c.args.body.now) c.args.number (step_of c.args.step)
    (g.F.Flash.state c.args.flash.now).told (g.F.Flash.state c.fill.new.flash).told
    c.requires.draft.plan (number_low c.args.geometry.now c.args.draft.now c.args.body.now c.args.number c.requires.draft c.requires.number) c.requires.form
    (c.requires.knows tells) (c.requires.stands tells)
    (c.fill.ensures.change.told tells)

pub returns-clause-stands : goal.returns-clause-stands
returns-clause-stands g c tells =
    subst (λ (stage : planned.Stage). StandsAtStage (layout_of c.args.geometry.now) (plan_of c.args.draft.now c.args.body.now)
    (g.F.Flash.state c.fill.new.flash).told.image stage) (sym c.next_stage.ensures.is)
    (step_made (layout_of c.args.geometry.now) (plan_of c.args.draft.now c.args.body.now) c.args.number (step_of c.args.step)
    (g.F.Flash.state c.args.flash.now).told.image (g.F.Flash.state c.fill.new.flash).told.image
    c.requires.draft.plan (number_low c.args.geometry.now c.args.draft.now c.args.body.now c.args.number c.requires.draft c.requires.number) c.requires.form
    (c.requires.knows tells) (c.requires.stands tells)
    (c.in_ok-fill.ensures.change.done tells).image (c.in_ok-fill.ensures.written tells))
