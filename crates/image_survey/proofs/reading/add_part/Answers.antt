use Rattle.std.proofs.Common.{◌≡◌, ◌+◌, ◌-◌, ◌*◌, ◌++◌, ℕ, List, length, take, refl, ap, sym, ◌∙◌, arith}
use Rattle.base_model.specs.Bytes.{part}
use Rattle.flash_model.proofs.Telling.{part-range}
use Rattle.record_model.specs.Records.{part_len, slot_at}
use Rattle.record_model.proofs.PartsLemmas.{seen_part}
use Rattle.record_slots.specs.Slots.{numbers_of}
use Rattle.image_survey.specs.Reading.{slot_of_part}
use Rattle.record_slots.proofs.LookLemmas.{names_parts}
use Rattle.image_survey.proofs.ReadLemmas.{part_short}
use Rattle.image_survey.proofs.reading.add_part.Goals as goal

pub part_len-len-requires : goal.part_len-len-requires
part_len-len-requires c =
    let three : length c.args.head.now.next ≡ 3 = omega arith in
    let few = (names_parts c.args.geometry.now (numbers_of c.args.head.now) c.requires.up.0 c.requires.up.1 three).few in
    omega arith

pub slice_bounds-extend_from_slice-end : goal.slice_bounds-extend_from_slice-end
slice_bounds-extend_from_slice-end c =
    let least = c.args.geometry.now.least_slot in
    let short = part_short (c.args.geometry.now.slot_size - 64) c.args.head.now.len c.args.number in
    let within = c.place_of-start.ensures.within in
    let sized = c.requires.sized in
    omega (arith, c.part_len-len.ensures)

pub returns : goal.returns
returns c =
    let size = c.args.geometry.now.slot_size in
    let image = c.args.image.now in
    let len = c.part_len-len.result in
    let start = c.place_of-start.result + 32 in
    let there = slot_of_part c.args.slot (numbers_of c.args.head.now) c.args.number in
    let read : part image start len ≡ take (part_len (size - 64) c.args.head.now.len c.args.number) (slot_at size image there).body =
    ap (λ (p : ℕ). part image (p + 32) len) c.place_of-start.ensures.place
    ∙ ap (λ (m : ℕ). part image (m * size + 32) len) c.part_slot-part.ensures.part
    ∙ ap (λ (n : ℕ). part image (there * size + 32) n) c.part_len-len.ensures
    ∙ sym (seen_part size there (part_len (size - 64) c.args.head.now.len c.args.number) image (part_short (size - 64) c.args.head.now.len c.args.number)) in
    c.in_ok-extend_from_slice.ensures.items
    ∙ ap (λ (xs : List ℕ). c.args.bytes.now.items ++ xs) (part-range image image start len len refl refl ∙ read)
