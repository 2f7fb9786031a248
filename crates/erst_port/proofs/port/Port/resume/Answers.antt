use Rattle.std.proofs.Common.{◌∙◌, refl, sym, ap, subst, arith}
use Rattle.std.proofs.lemmas.List.{take_rest}
use Rattle.record_store.specs.Store.{abandoned}
use Rattle.erst_device.specs.DeviceState.{DeviceState}
use Rattle.erst_port.specs.PortState.{PortState}
use Rattle.erst_port.specs.Loaded.{AreOfLayout, HoldRegisters}
use Rattle.erst_port.proofs.LoadLemmas.{abandoned_idle}
use Rattle.erst_port.proofs.port.Port.resume.Goals as goal

pub returns-clause-resumed : goal.returns-clause-resumed
returns-clause-resumed c =
    let view = c.self.view_is in
    record {
      device = c.requires.holds.device;
      layout = subst (AreOfLayout c.args.saved.now) c.geometry-geometry.ensures (c.if-not-is_divided.ensures.0 refl);
      size = (let long = c.saved_len-wanted.ensures in let same = c.if-found-wanted.false in omega arith);
      registers = subst (HoldRegisters c.args.saved.now) (sym c.resume-device.ensures) (c.requires.holds.holds c.into_store.result);
      store =
          ap (λ (d : DeviceState). d.store) c.resume-device.ensures ∙ c.into_store.ensures.store ∙ ap (λ (p : PortState). abandoned p.device.store) view
          ∙ abandoned_idle c.args.self.device.store c.requires.idle;
      range = c.copy_from_slice.ensures.items ∙ take_rest c.args.saved.now 80;
      others = ap (λ (p : PortState). record p { device = c.resume-device.result; range = c.copy_from_slice.new.self.items }) view;
    }
