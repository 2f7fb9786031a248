use Rattle.std.proofs.Common.{◌≡◌, ◌∙◌, sym, ap}
use Rattle.record_store.specs.Store.{StoreView, abandoned}
use Rattle.erst_device.specs.DeviceState.{DeviceState}
use Rattle.erst_device.specs.Registers.{seen}
use Rattle.erst_port.specs.Failures.{ended_with}
use Rattle.erst_port.specs.Parts.{nothing_made}
use Rattle.erst_port.specs.PortState.{PortState, state_of}
use Rattle.erst_port.proofs.LoadLemmas.{abandoned_idle}
use Rattle.erst_port.proofs.port.Port.failed.Goals as goal

pub returns : goal.returns
returns c =
    let opened : PortState = c.in_ok-opened.opened in
    let anew = c.in_ok-opened.ensures.opened in
    let inside = c.self.inside in
    let store : c.into_store.result ≡ opened.device.store =
    c.into_store.ensures.store ∙ ap (λ (p : PortState). abandoned p.device.store) c.opened.view_is ∙ abandoned_idle opened.device.store anew.2.store.ready.idle in
    let device : c.resume.result ≡ ended_with opened.device.store c.args.self.now.device =
    c.resume.ensures ∙ c.ended-registers.ensures.ended inside.device.store c.into_store.result
    ∙ ap (λ (s : StoreView). ended_with s (seen c.registers.result inside.device.store)) store
    ∙ ap (λ (d : DeviceState). ended_with opened.device.store d) (sym c.registers.ensures.state)
    ∙ ap (λ (p : PortState). ended_with opened.device.store p.device) c.self.view_is in (
      opened,
      anew,
      ap (λ (d : DeviceState). state_of d inside.range.items inside.table.items inside.addresses inside.origin nothing_made) device
          ∙ ap (λ (p : PortState). record p { device = ended_with opened.device.store c.args.self.now.device; made = nothing_made }) c.self.view_is,
    )
