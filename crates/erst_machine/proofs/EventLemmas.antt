-- What happens to a machine keeps it one.
use Rattle.std.proofs.Common.{◌≡◌, ℕ, ◌+◌, ◌-◌, ◌≤◌, Bool, true, false, List, [], ◌∷◌, ◌++◌, length, Some, None, Result, Ok, Err, refl, sym, ap, subst, ◌∙◌, arith}
use Rattle.std.specs.Prelude.{if◌then◌else◌, bit_or}
use Rattle.std.proofs.lemmas.Bool.Decides.{nat_tests}
use Rattle.std.proofs.lemmas.List.{length-replicate, length-append}
use Rattle.base_model.specs.Bytes.{joined}
use Rattle.base_model.specs.Layout.{Layout, room_of, reach_of}
use Rattle.record_store.specs.Store.{StoreView, doubted, restarted}
use Rattle.apei_space.specs.declared.faults.SpaceFault.{SpaceFault}
use Rattle.apei_space.specs.RamState.{RamState, located, stored}
use Rattle.apei_space.specs.Accesses.{Move, Trail}
use Rattle.apei_tables.specs.declared.registers.Place.TheVariants.{Memory}
use Rattle.base_model.specs.Bytes.{spelled}
use Rattle.ghes_block.specs.declared.error.BlockError.{BlockError}
use Rattle.ghes_block.specs.Reading.{checked}
use Rattle.ghes_ack.specs.declared.maps.HandoverMap.{HandoverMap}
use Rattle.ghes_ack.specs.declared.submission.SubmitError.{SubmitError}
use Rattle.ghes_ack.specs.declared.events.Side.{Side}
use Rattle.ghes_ack.specs.declared.events.Event.{Event as TurnEvent}
use Rattle.ghes_ack.specs.declared.events.Event.TheVariants as turns
use Rattle.ghes_ack.specs.Machine.{turned, submitted, with_status}
use Rattle.ghes_ack.specs.Maps.{window, memory_started, memory_after, with_window, with_ack, with_address, with_clear, acknowledged, ack_read, ack_bytes, ack_mask}
use Rattle.ghes_ack.specs.Handovers.{HandoverState, StandsFor}
use Rattle.ghes_block.specs.Region.{IsLaidOut, zeros as left_zeros}
use Rattle.erst_device.specs.DeviceState.{DeviceState}
use Rattle.erst_machine.specs.declared.errors.BootError.{BootError}
use Rattle.erst_machine.specs.declared.errors.FatalError.{FatalError}
use Rattle.erst_machine.specs.declared.errors.FatalError.TheVariants.{Long}
use Rattle.erst_machine.specs.Memories.{MemoryState, HasSizes}
use Rattle.erst_machine.specs.MachineState.{MachineState, IsMachine, reach_in}
use Rattle.erst_machine.specs.Events.{Restarts, Warms, Powers, Submits, Turns, LaysFatal, Event, Accessed, Warmed, Powered, Submitted, Turned, Laid, Happens}
use Rattle.erst_machine.proofs.KeptLemmas.{kept_allowed, nothing_laid}
use Rattle.erst_machine.proofs.Words.{IsLaid, unfit}

-- no write to the handover's memory moves its window
stored_windows : (found : Result ℕ SpaceFault) (ram : RamState) (bytes : List ℕ) → (stored found ram bytes).windows ≡ ram.windows
stored_windows (Ok start) ram bytes = refl
stored_windows (Err fault) ram bytes = refl

window_windows : (map : HandoverMap) (ram : RamState) (bytes : List ℕ) → (with_window map ram bytes).windows ≡ ram.windows
window_windows map ram bytes = stored_windows (located ram.windows (Memory map.block) map.len) ram bytes

ack_windows : (map : HandoverMap) (ram : RamState) (value : ℕ) → (with_ack map ram value).windows ≡ ram.windows
ack_windows map ram value = stored_windows (located ram.windows map.ack.place (ack_bytes map)) ram (spelled (ack_bytes map) value)

started_windows : (map : HandoverMap) (ram : RamState) → (memory_started map ram).windows ≡ ram.windows
started_windows map ram =
    window_windows map (with_ack map (with_address map ram) (bit_or (ack_read map ram) (ack_mask map))) (with_status (window map ram) (spelled 4 0))
    ∙ ack_windows map (with_address map ram) (bit_or (ack_read map ram) (ack_mask map))
    ∙ stored_windows (located ram.windows (Memory map.status) 8) ram (spelled 8 map.block)

after_windows : (map : HandoverMap) (event : TurnEvent) (ram : RamState) (bytes : List ℕ) → (memory_after map event ram bytes).windows ≡ ram.windows
after_windows map turns.Idle ram bytes = refl
after_windows map turns.Fill ram bytes = window_windows map ram bytes
after_windows map turns.Publish ram bytes =
    window_windows map (with_ack map ram (with_clear map (ack_read map ram))) bytes ∙ ack_windows map ram (with_clear map (ack_read map ram))
after_windows map turns.Free ram bytes = refl
after_windows map turns.Wait ram bytes = refl
after_windows map turns.Nothing ram bytes = refl
after_windows map turns.Found ram bytes = refl
after_windows map turns.Copied ram bytes = refl
after_windows map turns.Took ram bytes = refl
after_windows map turns.Clear ram bytes = window_windows map ram bytes
after_windows map turns.Ack ram bytes = ack_windows map ram (acknowledged map (ack_read map ram))

kept_restart : (tells : Type 0) (before : StoreView) (memory : MemoryState) (old new : MachineState) (result : Result ℕ BootError) → Restarts tells before memory old result new →
    before.layout ≡ old.device.store.layout → HasSizes (reach_in old.device) memory → IsLaid memory.region → IsMachine old → IsMachine new
kept_restart tells before memory old new result h layout sizes laid machine = record {
  sizes = subst (λ (m : MemoryState). HasSizes (reach_in new.device) m) (sym h.memory_is)
      (subst (λ (l : Layout). HasSizes (reach_of (room_of l)) memory) (sym (h.leaves.equivalent.layout ∙ layout)) sizes);
  laid = subst (λ (m : MemoryState). IsLaid m.region) (sym h.memory_is) laid;
  map = ap (λ (s : HandoverState). s.map) h.handover ∙ machine.map;
  stands = (_, h.stands);
}

shared_sizes : (reach : ℕ) (memory : MemoryState) (shared : RamState) → shared.windows ≡ memory.shared.windows → HasSizes reach memory → HasSizes reach (record memory { shared = shared })
shared_sizes reach memory shared windows sizes = record {
  small = sizes.small;
  range = sizes.range;
  scratch = sizes.scratch;
  ports = sizes.ports;
  region = sizes.region;
  shared = windows ∙ sizes.shared;
}

kept_warms : (tells : Type 0) (old new : MachineState) (result : Result ℕ BootError) → Warms tells old result new → IsMachine old → IsMachine new
kept_warms tells old new result h machine = kept_restart tells (doubted old.device.store) _ old new result h refl
    (shared_sizes (reach_in old.device) old.memory _ (started_windows old.handover.map old.memory.shared) machine.sizes) machine.laid machine

kept_powers : (tells : Type 0) (old new : MachineState) (result : Result ℕ BootError) → Powers tells old result new → IsMachine old → IsMachine new
kept_powers tells old new result h machine = kept_restart tells (restarted old.device.store) _ old new result h.restarts refl
    (record {
      small = machine.sizes.small;
      range = length-replicate {A = ℕ} (length old.memory.range) 0 ∙ machine.sizes.range;
      scratch = length-replicate {A = ℕ} 4096 0;
      ports = length-replicate {A = ℕ} 16 0;
      region = length-replicate {A = ℕ} 16384 0;
      shared = started_windows old.handover.map old.memory.shared ∙ machine.sizes.shared;
    })
    (nothing_laid 16384) machine

kept_submits : (old new : MachineState) (block : List ℕ) (result : Result ℕ SubmitError) → Submits old block result new → IsMachine old → IsMachine new
kept_submits old new block (Ok n) h machine = record {
  sizes = subst (λ (s : MachineState). HasSizes (reach_in s.device) s.memory) (sym h.added) machine.sizes;
  laid = subst (λ (s : MachineState). IsLaid s.memory.region) (sym h.added) machine.laid;
  map = ap (λ (s : MachineState). s.handover.map) h.added ∙ machine.map;
  stands = (
    submitted machine.stands.0 block,
    subst (λ (s : MachineState). StandsFor new.handover s.memory.shared (submitted machine.stands.0 block)) (sym h.added)
        (h.stands old.memory.shared machine.stands.0 machine.stands.1),
  );
}
kept_submits old new block (Err error) h machine = subst (λ (s : MachineState). IsMachine s) (sym h.refused) machine

kept_turns : (side : Side) (old new : MachineState) (event : TurnEvent) → Turns side old event new → IsMachine old → IsMachine new
kept_turns side old new event h machine = record {
  sizes = subst (λ (d : DeviceState). HasSizes (reach_in d) new.memory) (sym h.device)
      (subst (λ (m : MemoryState). HasSizes (reach_in old.device) m) (sym h.memory_is)
      (shared_sizes (reach_in old.device) old.memory _ (after_windows old.handover.map event old.memory.shared _) machine.sizes));
  laid = subst (λ (m : MemoryState). IsLaid m.region) (sym h.memory_is) machine.laid;
  map = h.map ∙ machine.map;
  stands = ((turned side h.stood.0).1, (h.turned h.stood.0 h.stood.1).stands);
}

-- a block that is laid had room
unfit_fits : (result : Result ℕ BlockError) (n left : ℕ) → unfit result n left ≡ None → n ≤ left
unfit_fits (Err error) n left is = absurd (cc)
unfit_fits (Ok size) n left is = grind (arith, nat_tests)

refused_fits : (long : Bool) (n left : ℕ) (block : List ℕ) → (if long then Some (Long n) else unfit (checked block) n left) ≡ None → n ≤ left
refused_fits true n left block is = absurd (cc)
refused_fits false n left block is = unfit_fits (checked block) n left is

joined_long : (blocks : List (List ℕ)) (block : List ℕ) → length (joined (blocks ++ block ∷ [])) ≡ length (joined blocks) + length block
joined_long [] block = let e : length (block ++ []) ≡ length block + 0 = length-append block [] in omega arith
joined_long (first ∷ rest) block =
    let a : length (first ++ joined (rest ++ block ∷ [])) ≡ length first + length (joined (rest ++ block ∷ [])) = length-append first (joined (rest ++ block ∷ [])) in
    let b : length (first ++ joined rest) ≡ length first + length (joined rest) = length-append first (joined rest) in
    let c : length (joined (rest ++ block ∷ [])) ≡ length (joined rest) + length block = joined_long rest block in omega arith

laid_long : (blocks : List (List ℕ)) (left : ℕ) (region : List ℕ) → IsLaidOut blocks left region → length region ≡ length (joined blocks) + left
laid_long blocks left region h =
    ap (λ (r : List ℕ). length r) h.region_is ∙ length-append (joined blocks) (left_zeros left) ∙ ap (λ (n : ℕ). length (joined blocks) + n) (length-replicate {A = ℕ} left 0)

more_long : (blocks : List (List ℕ)) (left : ℕ) (before after block : List ℕ) → IsLaidOut blocks left before → IsLaidOut (blocks ++ block ∷ []) (left - length block) after →
    length block ≤ left → length after ≡ length before
more_long blocks left before after block was is fits =
    let a : length before ≡ length (joined blocks) + left = laid_long blocks left before was in
    let b : length after ≡ length (joined (blocks ++ block ∷ [])) + (left - length block) = laid_long (blocks ++ block ∷ []) (left - length block) after is in
    let c : length (joined (blocks ++ block ∷ [])) ≡ length (joined blocks) + length block = joined_long blocks block in omega arith

kept_region_laid : (old new : MachineState) (block : List ℕ) (n : ℕ) → LaysFatal old block (Ok n) new → (blocks : List (List ℕ)) (left : ℕ) → IsLaidOut blocks left old.memory.region →
    IsMachine old → IsMachine new
kept_region_laid old new block n h blocks left was machine =
    let is : IsLaidOut (blocks ++ block ∷ []) (left - length block) new.memory.region = (h.laid blocks left was).1 in
    let fits : length block ≤ left = refused_fits _ (length block) left block (h.exact blocks left was) in
    subst (λ (s : MachineState). IsMachine s) (sym h.others) (record {
      sizes = record {
        small = machine.sizes.small;
        range = machine.sizes.range;
        scratch = machine.sizes.scratch;
        ports = machine.sizes.ports;
        region = more_long blocks left old.memory.region new.memory.region block was is fits ∙ machine.sizes.region;
        shared = machine.sizes.shared;
      };
      laid = (blocks ++ block ∷ [], left - length block, is);
      map = machine.map;
      stands = machine.stands;
    })

kept_lays : (old new : MachineState) (block : List ℕ) (result : Result ℕ FatalError) → LaysFatal old block result new → IsMachine old → IsMachine new
kept_lays old new block (Ok n) h machine = kept_region_laid old new block n h machine.laid.0 machine.laid.1 machine.laid.2 machine
kept_lays old new block (Err error) h machine = subst (λ (s : MachineState). IsMachine s) (sym h.refused) machine

kept_happens : (tells : Type 0) (old : MachineState) (event : Event) (new : MachineState) → Happens tells old event new → IsMachine old → IsMachine new
kept_happens tells old (Accessed call) new h machine = kept_allowed tells old new call h machine
kept_happens tells old (Warmed result) new h machine = kept_warms tells old new result h machine
kept_happens tells old (Powered result) new h machine = kept_powers tells old new result h machine
kept_happens tells old (Submitted block result) new h machine = kept_submits old new block result h machine
kept_happens tells old (Turned side event) new h machine = kept_turns side old new event h machine
kept_happens tells old (Laid block result) new h machine = kept_lays old new block result h machine

pub events_keep : (tells : Type 0) (first last : MachineState) (trail : List (Move Event MachineState)) → Trail (Happens tells) first trail last → IsMachine first → IsMachine last
events_keep tells first last [] is machine = subst (λ (s : MachineState). IsMachine s) (sym is) machine
events_keep tells first last (move ∷ rest) is machine = events_keep tells move.left last rest is.1 (kept_happens tells first move.event move.left is.0 machine)
