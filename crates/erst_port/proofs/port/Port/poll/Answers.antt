use Rattle.std.proofs.Common.{◌∙◌, ap}
use Rattle.erst_device.specs.DeviceState.{DeviceState}
use Rattle.erst_port.specs.Accesses.{with_value}
use Rattle.erst_port.specs.PortState.{PortState, state_of}
use Rattle.erst_port.proofs.SettleLemmas.{polls}
use Rattle.erst_port.proofs.port.Port.poll.Goals as goal

pub returns : goal.returns
returns c =
    let inside = c.self-2.inside in
    polls c.args.self.now c.act.new.self _ c.from.result c.value-value.result (c.from.ensures ∙ c.code.ensures.value) c.in_ok-act.ensures
    (c.value-value.ensures ∙ ap (λ (p : PortState). p.device.value) c.self.view_is)
    (ap (λ (d : DeviceState). state_of d inside.range.items inside.table.items inside.addresses inside.origin inside.made) c.set_value.ensures
    ∙ ap (λ (p : PortState). with_value c.value-value.result p) c.self-2.view_is)
