use Rattle.std.proofs.Common.{sym, arith}
use Rattle.apei_space.proofs.Locations.{location_fits}
use Rattle.apei_space.proofs.StretchLemmas.{stretch_location}
use Rattle.apei_space.proofs.windows.location_numbered.Goals as goal

pub overflow_add-result : goal.overflow_add-result
overflow_add-result c =
    let (windows, is) = c.requires in
    let one = is.are c.args.number _ (omega (arith, c.if-number-stretches.false)) in
    let there = stretch_location windows c.args.at _ c.room-room.result is.apart one c.room-room.ensures c.if-room-gt0.true in
    let fits = location_fits windows 0 c.args.at _ is.apart (sym there) in
    let few = is.few in
    omega (arith, fits.within, few)

pub returns-then-room-gt0-clause-right : goal.returns-then-room-gt0-clause-right
returns-then-room-gt0-clause-right c = λ windows is.
    let one = is.are c.args.number _ (omega (arith, c.if-number-stretches.false)) in
    stretch_location windows c.args.at _ c.room-room.result is.apart one c.room-room.ensures c.if-room-gt0.true
