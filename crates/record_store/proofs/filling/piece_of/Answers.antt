use Rattle.std.proofs.Common.{◌≡◌, ℕ, ◌+◌, ◌-◌, ◌*◌, length, drop, ap, arith, length-drop}
use Rattle.std.proofs.lemmas.List.{length-take}
use Rattle.record_model.specs.Records.{part_len}
use Rattle.record_store.proofs.Here.{target_len, cut_piece}
use Rattle.record_store.proofs.filling.piece_of.Goals as goal

pub overflow_sub-len : goal.overflow_sub-len
overflow_sub-len c =
    let size = c.args.geometry.now.slot_size in
    let long = target_len c.args.geometry.now c.args.draft.now c.args.body.now c.args.number in
    let same : part_len (size - 64) (length c.args.body.now) c.args.number ≡ part_len (size - 64) c.args.draft.now.len c.args.number =
    ap (λ (n : ℕ). part_len (size - 64) n c.args.number) c.requires.draft.len in
    let some = c.requires.form in
    omega (arith, c.part_len-len.ensures)

pub slice_bounds-result-end : goal.slice_bounds-result-end
slice_bounds-result-end c = let cut = cut_piece c.args.geometry.now c.args.draft.now c.args.body.now c.args.number c.args.piece c.room-room.result
    c.part_len-len.result c.at_most-count.result c.requires.draft.len c.room-room.ensures c.part_len-len.ensures c.at_most-count.ensures c.requires.form in
    cut.within

pub returns-clause-bytes : goal.returns-clause-bytes
returns-clause-bytes c = let cut = cut_piece c.args.geometry.now c.args.draft.now c.args.body.now c.args.number c.args.piece c.room-room.result
    c.part_len-len.result c.at_most-count.result c.requires.draft.len c.room-room.ensures c.part_len-len.ensures c.at_most-count.ensures c.requires.form in
    cut.bytes

pub returns-clause-len : goal.returns-clause-len
returns-clause-len c =
    let cut = cut_piece c.args.geometry.now c.args.draft.now c.args.body.now c.args.number c.args.piece c.room-room.result c.part_len-len.result
    c.at_most-count.result c.requires.draft.len c.room-room.ensures c.part_len-len.ensures c.at_most-count.ensures c.requires.form in
    let within = cut.within in
    let counted = cut.counted in
    let start = c.args.number * c.room-room.result + 256 * c.args.piece in
    let long = length-take (start + c.at_most-count.result - start) (drop start c.args.body.now) in
    let left = length-drop start c.args.body.now in
    omega arith
