-- A machine of which an action changes the device alone.
use Rattle.std.proofs.Common.{◌≡◌, ℕ, List, ap, ◌∙◌}
use Rattle.erst_device.specs.DeviceState.{DeviceState}
use Rattle.ghes_ack.specs.Handovers.{HandoverState}
use Rattle.erst_machine.specs.Memories.{MemoryState}
use Rattle.erst_machine.specs.MachineState.{MachineState}
use Rattle.erst_machine.specs.Allowed.{ActsOn}

-- the machine with another device
abbrev pub on_device : MachineState → DeviceState → MachineState
on_device state device = record state { device = device }

pub acted_is : (tells : Type 0) (old : MachineState) (code : ℕ) (new : MachineState) (device : DeviceState) → ActsOn tells old code new → new.device ≡ device → new.memory.range ≡ old.memory.range
    → new ≡ on_device old device
acted_is tells old code new device acted is range =
    let memory : new.memory ≡ old.memory = acted.memory ∙ ap (λ (r : List ℕ). record old.memory { range = r }) range in
    ap (λ (d : DeviceState). record new { device = d }) is
    ∙ ap (λ (m : MemoryState). record new { device = device; memory = m }) memory
    ∙ ap (λ (h : HandoverState). record new { device = device; memory = old.memory; handover = h }) acted.handover
    ∙ ap (λ (n : ℕ). record old { device = device; waited = n }) acted.waited

-- one that may change the log range too
pub acted_range : (tells : Type 0) (old : MachineState) (code : ℕ) (new : MachineState) → ActsOn tells old code new
    → new ≡ record old { device = new.device; memory = record old.memory { range = new.memory.range } }
acted_range tells old code new acted =
    ap (λ (m : MemoryState). record new { memory = m }) acted.memory
    ∙ ap (λ (h : HandoverState). record new { memory = record old.memory { range = new.memory.range }; handover = h }) acted.handover
    ∙ ap (λ (n : ℕ). record old { device = new.device; memory = record old.memory { range = new.memory.range }; waited = n }) acted.waited
