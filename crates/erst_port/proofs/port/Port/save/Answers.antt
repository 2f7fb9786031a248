use Rattle.std.proofs.Common.{◌∙◌, Ok, sym, ap, subst, refl}
use Rattle.apei_bytes.specs.Writing.{Wrote}
use Rattle.flash_model.specs.Layouts.{layout_of}
use Rattle.erst_device.specs.DeviceState.{IsRunning}
use Rattle.erst_port.specs.PortState.{PortState, state_of, IsMade}
use Rattle.erst_port.specs.Saved.{Saves}
use Rattle.erst_port.proofs.SavedLemmas.{is_running, saves, same_count}
use Rattle.erst_port.proofs.port.Port.save.Goals as goal

pub returns-in_default : goal.returns-in_default
returns-in_default c =
    let registers = c.registers-registers.result in
    let runs = is_running _ c.self.inside.device registers c.registers-registers.ensures.state c.registers-registers.ensures.runs c.in_default.not-Nothing in
    (subst (λ (p : PortState). IsRunning p.device) c.self.view_is runs, refl)

pub returns : goal.returns
returns c =
    let port : PortState = state_of c.self.inside.device c.self.inside.range.items c.self.inside.table.items c.self.inside.addresses c.self.inside.origin c.self.inside.made in
    let back = sym c.self.view_is in
    let made : IsMade port = subst IsMade back (same_count c.args.self.now.made.changes c.args.self.now.device.store.flash.steps c.if-is_due.ensures.1) in
    let layout = c.geometry-geometry.ensures ∙ ap (λ (p : PortState). p.device.store.layout) back in
    let second : Wrote c.write_bytes-end.new.out c.write_bytes.new.out c.write_bytes-end.result c.write_bytes.result c.self.inside.range.items =
    subst (Wrote c.write_bytes-end.new.out c.write_bytes.new.out c.write_bytes-end.result c.write_bytes.result) c.deref.ensures.value c.write_bytes.ensures.wrote in
    subst (λ (p : PortState). Saves p c.args.out.now (Ok c.write_bytes.result) c.write_bytes.new.out) c.self.view_is
    (saves _ port c.registers-registers.result (layout_of c.geometry-geometry.result) c.saved_head-head.result c.args.out.now c.write_bytes-end.new.out c.write_bytes.new.out
    c.write_bytes-end.result c.write_bytes.result c.self.invariant layout c.registers-registers.ensures.state c.registers-registers.ensures.runs c.in-Nothing.is made
    c.saved_head-head.ensures.form c.saved_head-head.ensures.small c.write_bytes-end.ensures.wrote second)
