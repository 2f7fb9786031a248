use Rattle.std.proofs.Common.{◌≡◌, ◌∙◌, List, length, Some, ap, sym, subst, arith}
use Rattle.apei_space.specs.declared.windows.Window.{Window}
use Rattle.apei_space.specs.Windows.{location}
use Rattle.apei_space.specs.RamState.{RamState, FillsWindows}
use Rattle.apei_space.proofs.Locations.{location_fits}
use Rattle.apei_space.proofs.plain.Ram.locate.Goals as goal

pub overflow_add-result : goal.overflow_add-result
overflow_add-result c =
    let inv = c.self.invariant in
    let e = c.in-Some.ensures in
    let there : location c.self.inside.windows.items 0 c.args.at ≡ Some (c.in-Some.start, c.in-Some.room) = ap (λ (ws : List Window). location ws 0 c.args.at) (sym c.deref.ensures.value) ∙ sym e in
    let fits = location_fits c.self.inside.windows.items 0 c.args.at (c.in-Some.start, c.in-Some.room) inv.2 there in
    omega (arith, fits.below, c.address-address.ensures, c.from.ensures)

pub returns-then-n-room-clause-room : goal.returns-then-n-room-clause-room
returns-then-n-room-clause-room c =
    let inv = c.self.invariant in
    let e = c.in-Some.ensures in
    let there : location c.self.inside.windows.items 0 c.args.at ≡ Some (c.in-Some.start, c.in-Some.room) = ap (λ (ws : List Window). location ws 0 c.args.at) (sym c.deref.ensures.value) ∙ sym e in
    let fits = location_fits c.self.inside.windows.items 0 c.args.at (c.in-Some.start, c.in-Some.room) inv.2 there in
    let bytes : length c.self.inside.bytes.items ≡ length c.args.self.now.bytes = ap (λ (r : RamState). length r.bytes) c.self.view_is in
    omega (arith, fits.within, inv.0, bytes, c.if-n-room.true)

pub returns-then-n-eq0-clause-windows : goal.returns-then-n-eq0-clause-windows
returns-then-n-eq0-clause-windows c = subst FillsWindows c.self.view_is (record { apart = c.self.invariant.2; as_long = c.self.invariant.0 })
