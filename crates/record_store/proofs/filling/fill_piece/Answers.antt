use Rattle.std.proofs.Common.{◌≡◌, ℕ, ◌+◌, ◌-◌, ◌*◌, ◌<◌, ◌≤◌, length, sym, subst, ◌∙◌, arith}
use Rattle.std.specs.Prelude.{min}
use Rattle.record_model.specs.Records.{part_len}
use Rattle.base_model.specs.Flash.{IsErased}
use Rattle.record_model.specs.Plan.{target_of}
use Rattle.flash_model.specs.Layouts.{layout_of}
use Rattle.record_store.specs.Drafts.{plan_of}
use Rattle.record_store.proofs.Here.{target_slot, target_len, part_fits, rest_here}
use Rattle.record_store.proofs.filling.fill_piece.Goals as goal

pub put_piece-requires-clause-room : goal.put_piece-requires-clause-room
put_piece-requires-clause-room g c =
    let size = c.args.geometry.now.slot_size in
    let target = target_of (layout_of c.args.geometry.now) (plan_of c.args.draft.now c.args.body.now) c.args.number in
    let long : length target.bytes ≡ part_len (size - 64) (length c.args.body.now) c.args.number = target_len c.args.geometry.now c.args.draft.now c.args.body.now c.args.number in
    let most : part_len (size - 64) (length c.args.body.now) c.args.number ≤ size - 64 = part_fits (size - 64) (length c.args.body.now) c.args.number in
    let count : length c.piece_of-bytes.result.now ≡ min 256 (length target.bytes - 256 * c.args.piece) = c.piece_of-bytes.ensures.len in
    let some : 256 * c.args.piece < length target.bytes = c.requires.form in
    omega arith

pub put_piece-requires-clause-erased : goal.put_piece-requires-clause-erased
put_piece-requires-clause-erased g c tells =
    let size = c.args.geometry.now.slot_size in
    let large : 512 ≤ size = c.args.geometry.now.least_slot in
    let image = (g.F.Flash.state c.args.flash.now).told.image in
    let target = target_of (layout_of c.args.geometry.now) (plan_of c.args.draft.now c.args.body.now) c.args.number in
    let long : length target.bytes ≡ part_len (size - 64) (length c.args.body.now) c.args.number = target_len c.args.geometry.now c.args.draft.now c.args.body.now c.args.number in
    let most : part_len (size - 64) (length c.args.body.now) c.args.number ≤ size - 64 = part_fits (size - 64) (length c.args.body.now) c.args.number in
    let count : length c.piece_of-bytes.result.now ≡ min 256 (length target.bytes - 256 * c.args.piece) = c.piece_of-bytes.ensures.len in
    let some : 256 * c.args.piece < length target.bytes = c.requires.form in
    subst (λ (k : ℕ). IsErased image k (length c.piece_of-bytes.result.now)) (omega arith)
    (rest_here image c.from-slot.result size target (256 * c.args.piece) (32 + 256 * c.args.piece) (length c.piece_of-bytes.result.now)
    (target_slot c.args.geometry.now c.args.draft.now c.args.body.now c.args.number c.requires.number ∙ sym c.from-slot.ensures) (c.requires.stands tells) (omega arith) (omega arith))
