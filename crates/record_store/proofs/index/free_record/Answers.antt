use Rattle.std.proofs.Common.{◌<◌, length, ◌∙◌, arith}
use Rattle.record_store.proofs.FreeListLemmas.{gains_next}
use Rattle.record_store.proofs.PartLemmas.{parts_of_len}
use Rattle.record_store.proofs.index.free_record.Goals as goal

pub overflow_sub-further : goal.overflow_sub-further
overflow_sub-further c =
    let parts = parts_of_len c.args.geometry.now c.args.place.len c.requires.within.least c.requires.within.most in
    omega (arith, c.parts_of-further.ensures)

pub bounds-place-at : goal.bounds-place-at
bounds-place-at c =
    let parts = parts_of_len c.args.geometry.now c.args.place.len c.requires.within.least c.requires.within.most in
    omega (arith, c.parts_of-further.ensures)

pub loop-at-preserved : goal.loop-at-preserved
loop-at-preserved c =
    let parts = parts_of_len c.args.geometry.now c.args.place.len c.requires.within.least c.requires.within.most in
    let three : c.loop-at.at < length c.args.place.next = omega (arith, c.parts_of-further.ensures) in
    record {
      gains = gains_next c.args.found.now.free.items c.loop-at.found.free.items c.list_free-in-loop-at.new.found.free.items c.args.place.next c.args.place.slot
          c.loop-at.at three c.loop-at.invariant.gains (rw c.from.ensures at c.list_free-in-loop-at.ensures.gains);
      free = c.list_free-in-loop-at.ensures.free;
      room = omega arith;
      ids = c.list_free-in-loop-at.ensures.ids ∙ c.loop-at.invariant.ids;
      places = c.list_free-in-loop-at.ensures.places ∙ c.loop-at.invariant.places;
      looks = c.list_free-in-loop-at.ensures.looks ∙ c.loop-at.invariant.looks;
    }
