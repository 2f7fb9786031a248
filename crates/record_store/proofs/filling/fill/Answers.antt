use Rattle.std.proofs.Common.{◌≡◌, ◌-◌, ◌≤◌, length, sym, subst, ◌∙◌, arith}
use Rattle.record_model.specs.Records.{part_len}
use Rattle.record_model.specs.Plan.{target_of}
use Rattle.record_model.specs.Filling.{StandsAt}
use Rattle.record_store.specs.declared.draft.Step.{Step}
use Rattle.flash_model.specs.Layouts.{layout_of}
use Rattle.record_store.specs.Drafts.{plan_of, step_of}
use Rattle.record_store.proofs.Here.{target_slot, target_len, part_fits, rest_here}
use Rattle.record_store.proofs.filling.fill.Goals as goal

pub put_tail-requires-clause-erased : goal.put_tail-requires-clause-erased
put_tail-requires-clause-erased g c tells =
    let size = c.args.geometry.now.slot_size in
    let large : 512 ≤ size = c.args.geometry.now.least_slot in
    let target = target_of (layout_of c.args.geometry.now) (plan_of c.args.draft.now c.args.body.now) c.args.number in
    let long : length target.bytes ≡ part_len (size - 64) (length c.args.body.now) c.args.number = target_len c.args.geometry.now c.args.draft.now c.args.body.now c.args.number in
    let most : part_len (size - 64) (length c.args.body.now) c.args.number ≤ size - 64 = part_fits (size - 64) (length c.args.body.now) c.args.number in
    rest_here (g.F.Flash.state c.args.flash.now).told.image c.from-slot.result size target (length target.bytes) (size - 1) 1
    (target_slot c.args.geometry.now c.args.draft.now c.args.body.now c.args.number c.requires.number ∙ sym c.from-slot.ensures)
    (subst (λ (s : Step). StandsAt (layout_of c.args.geometry.now) target (g.F.Flash.state c.args.flash.now).told.image (step_of s)) c.in-TailMark.is
    (c.requires.stands tells)) (omega arith) (omega arith)
