use Rattle.std.proofs.Common.{arith}
use Rattle.record_store.proofs.PartLemmas.{parts_of_len}
use Rattle.record_store.proofs.reading.part_slot.Goals as goal

pub bounds-place-number : goal.bounds-place-number
bounds-place-number c =
    let parts = parts_of_len c.args.geometry.now c.args.place.len c.requires.within.least c.requires.within.most in
    omega arith
