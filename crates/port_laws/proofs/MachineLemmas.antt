-- The machine of a port is one.
use Rattle.std.proofs.Common.{◌≡◌, ℕ, ◌<◌, ◌^◌, refl, sym, subst, ◌∙◌, lit<}
use Rattle.std.proofs.lemmas.List.{length-replicate}
use Rattle.base_model.specs.Bytes.{part, spelled}
use Rattle.apei_tables.specs.Access.{bits}
use Rattle.apei_space.specs.RamState.{RamState}
use Rattle.ghes_ack.specs.Machine.{with_status, started}
use Rattle.ghes_ack.specs.Maps.{IsSet, ack_read, window, with_ack, with_address, with_window, memory_started, ack_mask}
use Rattle.ghes_ack.specs.Handovers.{fresh, StandsFor}
use Rattle.ghes_ack.proofs.MemoryLemmas.{HasWindows-with_address, ack-with_address, set_bits}
use Rattle.ghes_ack.proofs.EffectLemmas.{started_memory, started_set}
use Rattle.ghes_ack.proofs.StartLemmas.{fresh_stands}
use Rattle.erst_machine.specs.Memories.{blank}
use Rattle.erst_machine.specs.MachineState.{IsMachine, own_map}
use Rattle.erst_machine.proofs.BootLemmas.{own_windows, own_bits}
use Rattle.erst_machine.proofs.KeptLemmas.{nothing_laid}
use Rattle.erst_commands.proofs.LimitLemmas.{reach-few}
use Rattle.erst_port.specs.PortState.{IsPort}
use Rattle.port_laws.specs.PortSpaces.{SpaceState}
use Rattle.port_laws.specs.Machines.{booted_memory, machine_of}
use Rattle.std.specs.Prelude.{bit_or}

-- a blank memory's acknowledge register is 0
nothing_read : ack_read own_map blank ≡ 0
unfolding part
nothing_read = refl

with_start : RamState
with_start = with_ack own_map (with_address own_map blank) (bit_or (ack_read own_map (with_address own_map blank)) (ack_mask own_map))

ends_set : IsSet own_map (memory_started own_map blank)
unfolding with_start
ends_set =
    let read : ack_read own_map (with_address own_map blank) ≡ 0 = ack-with_address own_map blank own_windows ∙ nothing_read in
    let small : ack_read own_map (with_address own_map blank) < 2 ^ bits own_map.ack.access = subst (λ (n : ℕ). n < 2 ^ 64) (sym read) (lit< tt) in
    let set = set_bits own_map (with_address own_map blank) (HasWindows-with_address own_map blank own_windows) small own_bits in
    let same = started_memory own_map blank (with_address own_map blank) with_start
    (with_window own_map with_start (with_status (window own_map with_start) (spelled 4 0))) own_windows refl refl refl in
    subst (IsSet own_map) same
    (started_set own_map blank (with_address own_map blank) with_start (with_window own_map with_start (with_status (window own_map with_start) (spelled 4 0))) own_windows refl refl refl set)

stands_at_start : StandsFor (fresh own_map) (memory_started own_map blank) (started (window own_map blank))
stands_at_start = fresh_stands own_map blank (memory_started own_map blank) own_windows refl ends_set

pub is_machine : (state : SpaceState) → IsPort state.port → IsMachine (machine_of state)
unfolding booted_memory
is_machine state port = record {
  sizes = record {
    small = reach-few state.port.device.store.layout;
    range = port.range;
    scratch = length-replicate {A = ℕ} 4096 0;
    ports = length-replicate {A = ℕ} 16 0;
    region = length-replicate {A = ℕ} 16384 0;
    shared = refl;
  };
  laid = nothing_laid 16384;
  map = refl;
  stands = (started (window own_map blank), stands_at_start);
}
