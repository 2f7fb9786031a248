use Rattle.std.proofs.Common.{refl, sym, subst}
use Rattle.apei_cli.specs.Orders.{order_of}
use Rattle.apei_cli.specs.Runs.{HasNotBegun, IsGeometryOf}
use Rattle.apei_cli.proofs.WholeLemmas.{refused_begun, has_geometry}
use Rattle.apei_cli.proofs.boot.boot_machine.Goals as goal

pub returns-in-Err-clause-refused : goal.returns-in-Err-clause-refused
returns-in-Err-clause-refused g c =
    let is = c.in-Ok.ensures in
    let back = c.in-Err.ensures in
    subst (HasNotBegun g.F.Flash.tells (order_of c.args.plan.now) (g.F.Flash.state c.args.flash) (g.F.Flash.state c.in-Err.field-0.flash)) (sym c.boot_status.ensures)
    (refused_begun g.F.Flash.tells (order_of c.args.plan.now) c.in-Ok.geometry (g.F.Flash.state c.args.flash) (g.F.Flash.state c.in-Err.field-0.flash) c.in-Err.field-0.why c.size.result
    (record { sector = is.sector; per_slot = is.per_slot; slots = is.slots }) back.refused back.back back.power_back back.lit_back back.at_most back.once)

pub returns-in-Ok-boot-clause-booted : goal.returns-in-Ok-boot-clause-booted
returns-in-Ok-boot-clause-booted g c =
    let is = c.in-Ok.ensures in
    let of : IsGeometryOf (order_of c.args.plan.now) c.in-Ok.geometry = record { sector = is.sector; per_slot = is.per_slot; slots = is.slots } in
    let boot = c.in-Ok-boot.ensures in
    let fits = has_geometry (order_of c.args.plan.now) c.in-Ok.geometry (g.F.Flash.state c.args.flash) of (is.within.0 refl) (boot.fits refl) in
    record {
      fits = fits;
      geometry = c.in-Ok.geometry;
      geometry_of = of;
      is_booted = boot.booted;
      faults = boot.flash.faults;
      steps = boot.steps;
      reads =
          boot.reads;
      power = boot.power;
      lit = boot.lit;
      kept = boot.kept;
    }
