use Rattle.std.proofs.Common.{ℕ, ◌≤◌, sym, subst, ◌∙◌, arith}
use Rattle.base_model.specs.Flash.{IsErased}
use Rattle.record_model.specs.Plan.{target_of}
use Rattle.flash_model.specs.Layouts.{layout_of}
use Rattle.record_store.specs.Drafts.{plan_of}
use Rattle.record_store.proofs.Here.{target_slot, erased_here}
use Rattle.record_store.proofs.filling.fill_head.Goals as goal

pub put_head-requires-clause-erased : goal.put_head-requires-clause-erased
put_head-requires-clause-erased g c tells =
    let large : 512 ≤ c.args.geometry.now.slot_size = c.args.geometry.now.least_slot in
    erased_here (g.F.Flash.state c.args.flash.now).told.image c.from-slot.result
    (target_of (layout_of c.args.geometry.now) (plan_of c.args.draft.now c.args.body.now) c.args.number).slot c.args.geometry.now.slot_size 2 24
    (target_slot c.args.geometry.now c.args.draft.now c.args.body.now c.args.number c.requires.number ∙ sym c.from-slot.ensures) (c.requires.stands tells) (omega arith)

pub put_part_head-requires-clause-erased : goal.put_part_head-requires-clause-erased
put_part_head-requires-clause-erased g c tells =
    let large : 512 ≤ c.args.geometry.now.slot_size = c.args.geometry.now.least_slot in
    let image = (g.F.Flash.state c.args.flash.now).told.image in
    subst (λ (k : ℕ). IsErased image k 24) (omega arith)
    (erased_here image c.from-slot.result (target_of (layout_of c.args.geometry.now) (plan_of c.args.draft.now c.args.body.now) c.args.number).slot c.args.geometry.now.slot_size 0 24
    (target_slot c.args.geometry.now c.args.draft.now c.args.body.now c.args.number c.requires.number ∙ sym c.from-slot.ensures) (c.requires.stands tells) (omega arith))
