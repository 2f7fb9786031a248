use Rattle.std.proofs.Common.{◌≡◌, ◌-◌, ◌<◌, ◌++◌, ℕ, List, length, take, ap, sym, ◌∙◌, arith}
use Rattle.record_model.specs.Records.{part_len, parts_of, slot_at}
use Rattle.record_slots.specs.Slots.{numbers_of}
use Rattle.image_survey.specs.Reading.{slot_of_part}
use Rattle.image_survey.proofs.KindLemmas.{first_up, first_names}
use Rattle.image_survey.proofs.ReadLemmas.{joined_more, joined_all, stored_first}
use Rattle.image_survey.proofs.reading.record_bytes.Goals as goal

pub add_part-requires-clause-up : goal.add_part-requires-clause-up
add_part-requires-clause-up c =
    first_up c.args.geometry.now.slot_size c.args.geometry.now.slots c.args.slot c.args.image.now (numbers_of c.args.head.now) c.requires.head c.requires.slot c.requires.first

pub loop-number-preserved : goal.loop-number-preserved
loop-number-preserved c =
    let geometry = c.args.geometry.now in
    let room = geometry.slot_size - 64 in
    let head = numbers_of c.args.head.now in
    let three : length c.args.head.now.next ≡ 3 = omega arith in
    let few = (first_names geometry c.args.slot c.args.image.now head c.requires.head c.requires.slot c.requires.first three).few in
    let low : c.loop-number.number < parts_of room c.args.head.now.len = omega (arith, c.parts_of-number-end.ensures) in
    c.in_ok-add_part.ensures
    ∙ ap (λ (xs : List ℕ). xs ++ take (part_len room c.args.head.now.len c.loop-number.number)
    (slot_at geometry.slot_size c.args.image.now (slot_of_part c.args.slot head c.loop-number.number)).body) c.loop-number.invariant
    ∙ sym (joined_more room c.args.slot head (slot_at geometry.slot_size c.args.image.now) c.loop-number.number three few low)

pub returns : goal.returns
returns c =
    let geometry = c.args.geometry.now in
    let room = geometry.slot_size - 64 in
    let head = numbers_of c.args.head.now in
    let three : length c.args.head.now.next ≡ 3 = omega arith in
    let some = (first_names geometry c.args.slot c.args.image.now head c.requires.head c.requires.slot c.requires.first three).some in
    let all : c.loop-number.number ≡ parts_of room c.args.head.now.len = omega (arith, c.parts_of-number-end.ensures) in
    stored_first geometry.slot_size geometry.slots c.args.slot c.args.image.now c.loop-number.bytes.items head c.requires.head c.requires.slot c.requires.first
    (c.loop-number.invariant ∙ joined_all room c.args.slot head (slot_at geometry.slot_size c.args.image.now) c.loop-number.number three all some)
