-- The handover's windows in the machine's memory, and a machine right after its boot.
use Rattle.std.proofs.Common.{◌≡◌, ℕ, refl, sym, ap, subst, ◌∙◌, arith, inl, lit<, lit≤}
use Rattle.std.proofs.lemmas.List.{length-replicate}
use Rattle.base_model.specs.Layout.{Layout, room_of, reach_of}
use Rattle.apei_space.specs.RamState.{RamState, FillsWindows}
use Rattle.ghes_ack.specs.Machine.{started}
use Rattle.flash_model.specs.declared.geometry.Geometry.{Geometry}
use Rattle.flash_model.specs.Layouts.{layout_of}
use Rattle.record_store.specs.Store.{StoreView, IsOpened}
use Rattle.ghes_ack.specs.Maps.{HasWindows, HasAckBits, window, memory_started}
use Rattle.ghes_ack.specs.Handovers.{HandoverState, StandsFor, fresh}
use Rattle.erst_device.specs.DeviceState.{DeviceState, at_first}
use Rattle.erst_machine.specs.Memories.{MemoryState, HasSizes, cleared, blank}
use Rattle.erst_machine.specs.MachineState.{IsMachine, own_map, reach_in}
use Rattle.erst_machine.specs.Boots.{IsBooted}
use Rattle.erst_machine.proofs.KeptLemmas.{nothing_laid}
use Rattle.erst_machine.proofs.Words.{IsLaid}

fills : FillsWindows blank
fills = record { apart = (lit< tt, tt, tt); as_long = sym (length-replicate {A = ℕ} 8192 0) }

pub own_windows : HasWindows own_map blank
own_windows = record {
  head = lit≤ tt;
  fills = fills;
  status = λ k below. inl (omega arith, omega arith);
  ack = λ k below. inl (omega arith, omega arith);
  block = λ k below. inl (omega arith, omega arith);
  status_ack = inl (lit≤ tt);
  status_block = inl (lit≤ tt);
  ack_block = inl (lit≤ tt);
}

pub own_bits : HasAckBits own_map
own_bits = record { some = lit< tt; inside = lit< tt }

-- a device, memory that is cleared and a handover at its start are a machine
pub booted : (device : DeviceState) (memory : MemoryState) (reach : ℕ) (shared : RamState) (handover : HandoverState) (waited : ℕ) → reach ≡ reach_in device → HasSizes reach memory →
    memory ≡ cleared reach shared → handover ≡ fresh own_map → StandsFor handover memory.shared (started (window own_map blank)) →
    IsMachine (record { device = device; memory = memory; handover = handover; waited = waited })
booted device memory reach shared handover waited same sizes is begun stands = record {
  sizes = subst (λ (n : ℕ). HasSizes n memory) same sizes;
  laid = subst (λ (m : MemoryState). IsLaid m.region) (sym is) (nothing_laid 16384);
  map = ap (λ (h : HandoverState). h.map) begun;
  stands = (_, stands);
}

pub is_booted : (geometry : Geometry) (device : DeviceState) (store : StoreView) (memory : MemoryState) (reach : ℕ) (handover : HandoverState) → device ≡ at_first store → IsOpened geometry store →
    reach ≡ reach_of (room_of (layout_of geometry)) → HasSizes reach memory → memory ≡ cleared reach (memory_started own_map blank) → handover ≡ fresh own_map →
    StandsFor handover memory.shared (started (window own_map blank)) → IsBooted geometry (record { device = device; memory = memory; handover = handover; waited = 0 })
is_booted geometry device store memory reach handover first opened long sizes is begun stands =
    let same : device.store ≡ store = ap (λ (d : DeviceState). d.store) first in
    let reach_is : reach ≡ reach_in device = long ∙ sym (ap (λ (l : Layout). reach_of (room_of l)) (ap (λ (s : StoreView). s.layout) same ∙ opened.layout)) in
    record {
      opened = subst (λ (s : StoreView). IsOpened geometry s) (sym same) opened;
      registers = first ∙ ap at_first (sym same);
      memory = is ∙ ap (λ (n : ℕ). cleared n (memory_started own_map blank)) long;
      handover = begun;
      stands = stands;
      waited = refl;
      machine = booted device memory reach (memory_started own_map blank) handover 0 reach_is sizes is begun stands;
    }
