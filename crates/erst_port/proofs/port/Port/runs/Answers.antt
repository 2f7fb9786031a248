use Rattle.std.proofs.Common.{◌≡◌, true, false, subst}
use Rattle.erst_device.specs.DeviceState.{IsRunning}
use Rattle.erst_port.specs.PortState.{PortState}
use Rattle.erst_port.proofs.SavedLemmas.{is_running}
use Rattle.erst_port.proofs.port.Port.runs.Goals as goal

pub returns-in_default : goal.returns-in_default
returns-in_default c =
    let registers = c.registers-registers in
    let runs = is_running _ c.self.inside.device registers.result registers.ensures.state registers.ensures.runs c.in_default.not-Nothing in
    record {
      runs = λ _. subst (λ (p : PortState). IsRunning p.device) c.self.view_is runs;
      still = λ other. absurd (let both : true ≡ false = other in cc);
    }
