use Rattle.std.proofs.Common.{◌≡◌, ℕ, ◌*◌, ◌<◌, length, sym, ap, subst, ◌∙◌, arith}
use Rattle.record_model.specs.Plan as planned
use Rattle.record_model.specs.Plan.{target_of, stage_after}
use Rattle.record_model.specs.Filling.{IsStep}
use Rattle.record_store.specs.declared.draft.Step.{Step}
use Rattle.flash_model.specs.Layouts.{layout_of}
use Rattle.record_store.specs.Drafts.{HasForm, plan_of, step_of}
use Rattle.record_store.proofs.Next.{next_form, bytes_some, piece_next, part_is, last_is}
use Rattle.record_store.proofs.preparing.next_stage.Goals as goal

pub after_piece-requires : goal.after_piece-requires
after_piece-requires c =
    let bytes = length (target_of (layout_of c.args.geometry.now) (plan_of c.args.draft.now c.args.body.now) c.args.number).bytes in
    let len : c.part_len.result ≡ bytes = part_is c.args.geometry.now c.args.draft.now c.args.body.now c.args.number c.part_len.result c.requires.draft c.part_len.ensures in
    let form : 256 * c.in-Piece.piece < bytes = subst (λ (s : Step). IsStep (layout_of c.args.geometry.now) bytes (step_of s)) c.in-Piece.is c.requires.form in
    subst (λ (n : ℕ). 256 * c.in-Piece.piece < n) (sym len) form

pub returns-in-PutHead-clause-form : goal.returns-in-PutHead-clause-form
returns-in-PutHead-clause-form c = (c.requires.number, bytes_some c.args.geometry.now c.args.draft.now c.args.body.now c.args.number c.requires.draft c.requires.number)

pub returns-in-Piece-clause-is : goal.returns-in-Piece-clause-is
returns-in-Piece-clause-is c =
    c.after_piece.ensures.is
    ∙ piece_next c.args.number c.in-Piece.piece c.part_len.result _ (part_is c.args.geometry.now c.args.draft.now c.args.body.now c.args.number c.part_len.result c.requires.draft c.part_len.ensures)
    ∙ ap (λ (s : Step). stage_after (layout_of c.args.geometry.now) (plan_of c.args.draft.now c.args.body.now) c.args.number (step_of s)) (sym c.in-Piece.is)

pub returns-in-Piece-clause-form : goal.returns-in-Piece-clause-form
returns-in-Piece-clause-form c =
    subst (λ (stage : planned.Stage). HasForm c.args.geometry.now c.args.draft.now c.args.body.now stage)
    (sym (c.after_piece.ensures.is
    ∙ piece_next c.args.number c.in-Piece.piece c.part_len.result _ (part_is c.args.geometry.now c.args.draft.now c.args.body.now c.args.number c.part_len.result c.requires.draft c.part_len.ensures)
    ∙ ap (λ (s : Step). stage_after (layout_of c.args.geometry.now) (plan_of c.args.draft.now c.args.body.now) c.args.number (step_of s)) (sym c.in-Piece.is)))
    (next_form c.args.geometry.now c.args.draft.now c.args.body.now c.args.number (step_of c.args.step) c.requires.draft c.requires.number c.requires.form)

pub returns-in-TailMark-clause-is : goal.returns-in-TailMark-clause-is
returns-in-TailMark-clause-is c =
    let slots : length c.args.draft.now.slots ≡ 4 = omega arith in
    let marks : length c.args.draft.now.marked ≡ 4 = omega arith in
    c.after_last.ensures.is
    ∙ last_is c.args.geometry.now c.args.draft.now c.args.body.now c.args.number c.requires.draft slots marks c.requires.number
    ∙ ap (λ (s : Step). stage_after (layout_of c.args.geometry.now) (plan_of c.args.draft.now c.args.body.now) c.args.number (step_of s)) (sym c.in-TailMark.is)

pub returns-in-TailMark-clause-form : goal.returns-in-TailMark-clause-form
returns-in-TailMark-clause-form c =
    let slots : length c.args.draft.now.slots ≡ 4 = omega arith in
    let marks : length c.args.draft.now.marked ≡ 4 = omega arith in
    subst (λ (stage : planned.Stage). HasForm c.args.geometry.now c.args.draft.now c.args.body.now stage)
    (sym (c.after_last.ensures.is
    ∙ last_is c.args.geometry.now c.args.draft.now c.args.body.now c.args.number c.requires.draft slots marks c.requires.number
    ∙ ap (λ (s : Step). stage_after (layout_of c.args.geometry.now) (plan_of c.args.draft.now c.args.body.now) c.args.number (step_of s)) (sym c.in-TailMark.is)))
    (next_form c.args.geometry.now c.args.draft.now c.args.body.now c.args.number (step_of c.args.step) c.requires.draft c.requires.number c.requires.form)
