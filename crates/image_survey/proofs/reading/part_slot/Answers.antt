use Rattle.std.proofs.Common.{◌≡◌, ◌-◌, ◌<◌, length, get_or, arith}
use Rattle.record_slots.specs.Slots.{numbers_of}
use Rattle.record_slots.proofs.LookLemmas.{names_parts}
use Rattle.image_survey.proofs.reading.part_slot.Goals as goal

pub bounds-head-number : goal.bounds-head-number
bounds-head-number c =
    let three : length c.args.head.now.next ≡ 3 = omega arith in
    let few = (names_parts c.args.geometry.now (numbers_of c.args.head.now) c.requires.up.0 c.requires.up.1 three).few in
    omega arith

pub returns-else-number-eq0-clause-within : goal.returns-else-number-eq0-clause-within
returns-else-number-eq0-clause-within c =
    let three : length c.args.head.now.next ≡ 3 = omega arith in
    let names = names_parts c.args.geometry.now (numbers_of c.args.head.now) c.requires.up.0 c.requires.up.1 three in
    let low : get_or c.args.head.now.next (c.args.number - 1) 0 < c.args.geometry.now.slots = names.below (c.args.number - 1) (omega arith) in
    omega (arith, c.from.ensures)
