use Rattle.std.proofs.Common.{arith}
use Rattle.record_store.proofs.PartLemmas.{parts_of_len}
use Rattle.record_store.proofs.starting.plan_write.Goals as goal

pub check_free-requires-clause-few : goal.check_free-requires-clause-few
check_free-requires-clause-few g c =
    let parts = parts_of_len c.args.geometry.now c.args.len c.requires.least c.requires.reach in
    omega (arith, c.parts_of-parts.ensures)

pub first_free-slots-requires-clause-few : goal.first_free-slots-requires-clause-few
first_free-slots-requires-clause-few g c =
    let parts = parts_of_len c.args.geometry.now c.args.len c.requires.least c.requires.reach in
    omega (arith, c.parts_of-parts.ensures)

pub look_at_marks-requires-clause-few : goal.look_at_marks-requires-clause-few
look_at_marks-requires-clause-few g c =
    let parts = parts_of_len c.args.geometry.now c.args.len c.requires.least c.requires.reach in
    omega (arith, c.parts_of-parts.ensures)

pub look_at_marks-requires-clause-some : goal.look_at_marks-requires-clause-some
look_at_marks-requires-clause-some g c =
    let parts = parts_of_len c.args.geometry.now c.args.len c.requires.least c.requires.reach in
    omega (arith, c.parts_of-parts.ensures)
