-- What accesses keep: a machine stays one.
use Rattle.std.proofs.Common.{◌≡◌, ℕ, ◌+◌, ◌-◌, ◌/◌, ◌≤◌, Bool, true, false, List, [], ◌∷◌, ◌++◌, length, Option, Some, None, Result, Ok, Err, refl, sym, ap, subst, ◌∙◌, arith}
use Rattle.std.specs.Prelude.{unwrap_or, IfSome, IfOk, OnErr, MatchResult, nat_le, if◌then◌else◌}
use Rattle.std.proofs.lemmas.Bool.Decides.{nat_tests}
use Rattle.std.proofs.lemmas.List.{length-replicate}
use Rattle.base_model.specs.Layout.{Layout, room_of, reach_of}
use Rattle.base_model.specs.Bytes.{spelled, put_at, joined}
use Rattle.base_model.proofs.BytesLemmas.{length-put_at, length-spelled, length-part-le}
use Rattle.apei_tables.specs.declared.registers.Place.{Place}
use Rattle.apei_tables.specs.declared.registers.Place.TheVariants.{Memory, Io}
use Rattle.apei_tables.specs.declared.widths.Width.{Width}
use Rattle.apei_tables.specs.Access.{bits}
use Rattle.apei_space.specs.declared.faults.SpaceFault.{SpaceFault}
use Rattle.apei_space.specs.Calls.{Call, Read, Write, Wait, Copy, ReadBytes, WriteBytes}
use Rattle.apei_space.specs.RamState.{RamState}
use Rattle.apei_space.specs.Windows.{address_of}
use Rattle.ghes_ack.specs.declared.events.Side.{Side}
use Rattle.ghes_ack.specs.declared.events.Event.{Event as TurnEvent}
use Rattle.ghes_ack.specs.Machine.{Machine as HandoverMachine, turned}
use Rattle.ghes_ack.specs.Handovers.{HandoverState, StandsFor, IsTurned}
use Rattle.ghes_ack.specs.Sides.{Stands}
use Rattle.ghes_block.specs.Region.{IsLaidOut}
use Rattle.erst_device.specs.DeviceState.{DeviceState}
use Rattle.erst_machine.specs.declared.errors.FatalError.{FatalError}
use Rattle.erst_machine.specs.Events.{LaysFatal, fatal_refusal}
use Rattle.erst_machine.specs.declared.areas.Area.{Area}
use Rattle.erst_machine.specs.declared.areas.Area.TheVariants.{Device, Scratch, LogRange, Handover, BootErrors, Ports}
use Rattle.erst_machine.specs.declared.areas.Location.{Location}
use Rattle.erst_machine.specs.declared.areas.Location.TheVariants.{Inside, Beyond, Nowhere}
use Rattle.erst_machine.specs.declared.areas.Register.{Register}
use Rattle.erst_machine.specs.declared.areas.Register.TheVariants.{Action, Value, NoRegister}
use Rattle.erst_machine.specs.Areas.{base_of, size_of, holds, first_location, place_location, IsPlaced, register_at}
use Rattle.erst_machine.specs.Memories.{MemoryState, bytes_in, zeros, cleared}
use Rattle.erst_machine.specs.MachineState.{MachineState, IsMachine, location_of}
use Rattle.erst_machine.specs.Allowed.{NumberWrite, write_of, RegisterWritten, NumberWritten, ActsOn, put_in, bytes_stored, copied_to, copied, copy_of, Allows}
use Rattle.erst_machine.proofs.Words.{memory_areas, IsLaid, copied_from, within}

-- an access that is found in an area lies within it
within_placed : (reach : ℕ) (area : Area) (at n : ℕ) (ends : Bool) → nat_le (at + n) (base_of area + size_of reach area) ≡ ends → base_of area ≤ at →
    IsPlaced reach n (if ends then Inside area (at - base_of area) else Beyond area (base_of area + size_of reach area))
within_placed reach area at n true is from = grind (arith, nat_tests)
within_placed reach area at n false is from = tt

area_placed : (reach : ℕ) (area : Area) (at n : ℕ) (held : Bool) → holds (base_of area) (size_of reach area) at ≡ held →
    IfSome (if held then Some (within area (base_of area) (size_of reach area) at n) else None) (IsPlaced reach n)
area_placed reach area at n true is = within_placed reach area at n _ refl (grind (arith, nat_tests))
area_placed reach area at n false is = tt

or_placed : (reach n : ℕ) (found : Option Location) (rest : Location) → IfSome found (IsPlaced reach n) → IsPlaced reach n rest → IsPlaced reach n (unwrap_or found rest)
or_placed reach n (Some location) rest one other = one
or_placed reach n None rest one other = other

first_placed : (reach : ℕ) (areas : List Area) (at n : ℕ) → IsPlaced reach n (first_location reach areas at n)
first_placed reach [] at n = tt
first_placed reach (area ∷ areas) at n = or_placed reach n _ _ (area_placed reach area at n _ refl) (first_placed reach areas at n)

memory_placed : (reach at n : ℕ) (none : Bool) → (none ≡ true → n ≡ 0) → IsPlaced reach n (if none then Inside Scratch 0 else first_location reach memory_areas at n)
memory_placed reach at n true zero = let e : n ≡ 0 = zero refl in omega arith
memory_placed reach at n false zero = first_placed reach memory_areas at n

pub location_placed : (reach : ℕ) (at : Place) (n : ℕ) → IsPlaced reach n (place_location reach at n)
location_placed reach (Memory at) n = memory_placed reach at n _ (λ is. grind (arith, nat_tests))
location_placed reach (Io at) n = first_placed reach (Ports ∷ []) at n

kept_same : (old new : MachineState) → new ≡ old → IsMachine old → IsMachine new
kept_same old new same machine = subst (λ (s : MachineState). IsMachine s) (sym same) machine

kept_acts : (tells : Type 0) (old new : MachineState) (code : ℕ) → ActsOn tells old code new → IsMachine old → IsMachine new
kept_acts tells old new code acts machine = record {
  sizes = record {
    small = subst (λ (l : Layout). reach_of (room_of l) ≤ 65536) (sym acts.effect.equivalent.layout) machine.sizes.small;
    range = acts.range ∙ machine.sizes.range ∙ sym (ap (λ (l : Layout). reach_of (room_of l)) acts.effect.equivalent.layout);
    scratch = ap (λ (m : MemoryState). length m.scratch) acts.memory ∙ machine.sizes.scratch;
    ports = ap (λ (m : MemoryState). length m.ports) acts.memory ∙ machine.sizes.ports;
    region = ap (λ (m : MemoryState). length m.region) acts.memory ∙ machine.sizes.region;
    shared = ap (λ (m : MemoryState). m.shared.windows) acts.memory ∙ machine.sizes.shared;
  };
  laid = subst (λ (m : MemoryState). IsLaid m.region) (sym acts.memory) machine.laid;
  map = ap (λ (h : HandoverState). h.map) acts.handover ∙ machine.map;
  stands = subst (λ (h : HandoverState). Stands h new.memory.shared) (sym acts.handover)
      (subst (λ (m : MemoryState). Stands old.handover m.shared) (sym acts.memory) machine.stands);
}

kept_put : (area : Area) (start : ℕ) (old : MachineState) (bytes : List ℕ) → start + length bytes ≤ size_of (length old.memory.range) area → IsMachine old → IsMachine (put_in area start old bytes)
kept_put Device start old bytes fits machine = record { sizes = machine.sizes; laid = machine.laid; map = machine.map; stands = machine.stands }
kept_put Handover start old bytes fits machine = record { sizes = machine.sizes; laid = machine.laid; map = machine.map; stands = machine.stands }
kept_put BootErrors start old bytes fits machine = record { sizes = machine.sizes; laid = machine.laid; map = machine.map; stands = machine.stands }
kept_put Scratch start old bytes fits machine =
    let long : length old.memory.scratch ≡ 4096 = machine.sizes.scratch in
    let same : length (put_at old.memory.scratch start bytes) ≡ length old.memory.scratch = length-put_at old.memory.scratch start bytes (omega arith) in
    record {
      sizes = record { small = machine.sizes.small; range = machine.sizes.range; scratch = same ∙ long; ports = machine.sizes.ports; region = machine.sizes.region; shared = machine.sizes.shared };
      laid = machine.laid;
      map = machine.map;
      stands = machine.stands;
    }
kept_put LogRange start old bytes fits machine =
    let same : length (put_at old.memory.range start bytes) ≡ length old.memory.range = length-put_at old.memory.range start bytes fits in
    record {
      sizes = record {
        small = machine.sizes.small;
        range = same ∙ machine.sizes.range;
        scratch = machine.sizes.scratch;
        ports = machine.sizes.ports;
        region =
            machine.sizes.region;
        shared = machine.sizes.shared;
      };
      laid = machine.laid;
      map = machine.map;
      stands = machine.stands;
    }
kept_put Ports start old bytes fits machine =
    let long : length old.memory.ports ≡ 16 = machine.sizes.ports in
    let same : length (put_at old.memory.ports start bytes) ≡ length old.memory.ports = length-put_at old.memory.ports start bytes (omega arith) in
    record {
      sizes = record { small = machine.sizes.small; range = machine.sizes.range; scratch = machine.sizes.scratch; ports = same ∙ long; region = machine.sizes.region; shared = machine.sizes.shared };
      laid = machine.laid;
      map = machine.map;
      stands = machine.stands;
    }

kept_register : (tells : Type 0) (register : Register) (old new : MachineState) (write : NumberWrite) →
    RegisterWritten tells register old write new → IsMachine old → IsMachine new
kept_register tells Action old new write h machine = kept_acts tells old new _ h.1 machine
kept_register tells Value old new write h machine =
    kept_same _ new h.1 (record { sizes = machine.sizes; laid = machine.laid; map = machine.map; stands = machine.stands })
kept_register tells NoRegister old new write h machine = kept_same old new h.1 machine

kept_number_put : (area : Area) (start : ℕ) (old new : MachineState) (width : Width) (value : ℕ) → new ≡ put_in area start old (spelled (bits width / 8) value) →
    start + bits width / 8 ≤ size_of (length old.memory.range) area → IsMachine old → IsMachine new
kept_number_put area start old new width value is fits machine =
    let long : length (spelled (bits width / 8) value) ≡ bits width / 8 = length-spelled (bits width / 8) value in
    kept_same _ new is (kept_put area start old (spelled (bits width / 8) value) (omega arith) machine)

kept_area : (tells : Type 0) (area : Area) (start : ℕ) (old new : MachineState) (write : NumberWrite) →
    NumberWritten tells (Inside area start) old write new → start + bits write.width / 8 ≤ size_of (length old.memory.range) area → IsMachine old → IsMachine new
kept_area tells Device start old new write h fits machine = kept_register tells (register_at start write.width) old new write h machine
kept_area tells Handover start old new write h fits machine = kept_same old new h.1 machine
kept_area tells BootErrors start old new write h fits machine = kept_same old new h.1 machine
kept_area tells Scratch start old new write h fits machine = kept_number_put Scratch start old new write.width write.value h.1 fits machine
kept_area tells LogRange start old new write h fits machine = kept_number_put LogRange start old new write.width write.value h.1 fits machine
kept_area tells Ports start old new write h fits machine = kept_number_put Ports start old new write.width write.value h.1 fits machine

pub kept_written : (tells : Type 0) (location : Location) (old new : MachineState) (write : NumberWrite) →
    NumberWritten tells location old write new → IsPlaced (length old.memory.range) (bits write.width / 8) location → IsMachine old → IsMachine new
kept_written tells (Inside area start) old new write h fits machine = kept_area tells area start old new write h fits machine
kept_written tells (Beyond area address) old new write h fits machine = kept_same old new h.1 machine
kept_written tells (Nowhere address) old new write h fits machine = kept_same old new h.1 machine

kept_area_stored : (area : Area) (start : ℕ) (old : MachineState) (at : ℕ) (bytes : List ℕ) → start + length bytes ≤ size_of (length old.memory.range) area → IsMachine old →
    IsMachine (bytes_stored (Inside area start) old at bytes).1
kept_area_stored Device start old at bytes fits machine = machine
kept_area_stored Handover start old at bytes fits machine = machine
kept_area_stored BootErrors start old at bytes fits machine = machine
kept_area_stored Scratch start old at bytes fits machine = kept_put Scratch start old bytes fits machine
kept_area_stored LogRange start old at bytes fits machine = kept_put LogRange start old bytes fits machine
kept_area_stored Ports start old at bytes fits machine = kept_put Ports start old bytes fits machine

pub kept_stored : (location : Location) (old : MachineState) (at : ℕ) (bytes : List ℕ) → IsPlaced (length old.memory.range) (length bytes) location → IsMachine old →
    IsMachine (bytes_stored location old at bytes).1
kept_stored (Inside area start) old at bytes fits machine = kept_area_stored area start old at bytes fits machine
kept_stored (Beyond area address) old at bytes fits machine = machine
kept_stored (Nowhere address) old at bytes fits machine = machine

kept_copied_to : (target : Location) (old : MachineState) (bytes : List ℕ) (n : ℕ) → length bytes ≤ n → IsPlaced (length old.memory.range) n target →
    IsMachine old → IsMachine (copied_to target old bytes)
kept_copied_to (Inside area start) old bytes n short fits machine = kept_put area start old bytes (omega arith) machine
kept_copied_to (Beyond area address) old bytes n short fits machine = machine
kept_copied_to (Nowhere address) old bytes n short fits machine = machine

copied_short : (source : Location) (old : MachineState) (n : ℕ) → length (copied_from source old n) ≤ n
copied_short (Inside area start) old n = length-part-le (bytes_in area old.memory) start n
copied_short (Beyond area address) old n = omega arith
copied_short (Nowhere address) old n = omega arith

pub kept_copied : (first second : Option SpaceFault) (source target : Location) (old : MachineState) (n : ℕ) → IsPlaced (length old.memory.range) n target → IsMachine old →
    IsMachine (copied first second source target old n).1
kept_copied (Some fault) second source target old n fits machine = machine
kept_copied None (Some fault) source target old n fits machine = machine
kept_copied None None source target old n fits machine = kept_copied_to target old (copied_from source old n) n (copied_short source old n) fits machine

-- each access keeps a machine one
pub kept_allowed : (tells : Type 0) (old new : MachineState) (call : Call) → Allows tells old call new → IsMachine old → IsMachine new
kept_allowed tells old new (Read at width answer) h machine = kept_same old new h.1 machine
kept_allowed tells old new (Write at width value answer) h machine =
    kept_written tells (location_of old at (bits width / 8)) old new (write_of (address_of at) width value answer) h (location_placed (length old.memory.range) at (bits width / 8)) machine
kept_allowed tells old new (Wait micros) h machine = kept_same _ new h (record { sizes = machine.sizes; laid = machine.laid; map = machine.map; stands = machine.stands })
kept_allowed tells old new (Copy from to n answer) h machine =
    kept_same _ new h.1 (kept_copied _ _ (location_of old (Memory from) n) (location_of old (Memory to) n) old n (location_placed (length old.memory.range) (Memory to) n) machine)
kept_allowed tells old new (ReadBytes at before after answer) h machine = kept_same old new h.2 machine
kept_allowed tells old new (WriteBytes at bytes answer) h machine =
    kept_same _ new h.1 (kept_stored (location_of old (Memory at) (length bytes)) old at bytes (location_placed (length old.memory.range) (Memory at) (length bytes)) machine)

pub kept_turn : (old : MachineState) (side : Side) (event : TurnEvent) (handover : HandoverState) (shared : RamState) → IsMachine old → handover.map ≡ old.handover.map →
    shared.windows ≡ old.memory.shared.windows → ((m : HandoverMachine) → StandsFor old.handover old.memory.shared m → IsTurned side event handover shared m) →
    IsMachine (record old { handover = handover; memory = record old.memory { shared = shared } })
kept_turn old side event handover shared machine map windows turns = record {
  sizes = record {
    small = machine.sizes.small;
    range = machine.sizes.range;
    scratch = machine.sizes.scratch;
    ports = machine.sizes.ports;
    region = machine.sizes.region;
    shared = windows ∙ machine.sizes.shared;
  };
  laid = machine.laid;
  map = map ∙ machine.map;
  stands = ((turned side machine.stands.0).1, (turns machine.stands.0 machine.stands.1).stands);
}

-- the same of a machine that is seen as a state
pub kept_written_at : (tells : Type 0) (location : Location) (old seen new : MachineState) (n : ℕ) (write : NumberWrite) → old ≡ seen → n ≡ bits write.width / 8 →
    NumberWritten tells location old write new → IsPlaced (length seen.memory.range) n location → IsMachine old → IsMachine new
kept_written_at tells location old seen new n write same size h placed machine =
    kept_written tells location old new write h
    (subst (λ (k : ℕ). IsPlaced (length old.memory.range) k location) size (subst (λ (s : MachineState). IsPlaced (length s.memory.range) n location) (sym same) placed)) machine

pub kept_stored_at : (location : Location) (old seen new : MachineState) (at : ℕ) (bytes : List ℕ) → old ≡ seen → new ≡ (bytes_stored location old at bytes).1 →
    IsPlaced (length seen.memory.range) (length bytes) location → IsMachine old → IsMachine new
kept_stored_at location old seen new at bytes same is placed machine =
    kept_same _ new is (kept_stored location old at bytes (subst (λ (s : MachineState). IsPlaced (length s.memory.range) (length bytes) location) (sym same) placed) machine)

pub kept_copied_at : (source target : Location) (old seen new : MachineState) (from to n : ℕ) → old ≡ seen → new ≡ (copy_of source target old from to n).1 →
    IsPlaced (length seen.memory.range) n target → IsMachine old → IsMachine new
kept_copied_at source target old seen new from to n same is placed machine =
    kept_same _ new is (kept_copied _ _ source target old n (subst (λ (s : MachineState). IsPlaced (length s.memory.range) n target) (sym same) placed) machine)

pub nothing_laid : (n : ℕ) → IsLaid (zeros n)
nothing_laid n = ([], n, record { each = λ k d h. absurd (omega arith); region_is = refl })

-- a machine whose memory was cleared, and whose handover begins anew
pub kept_power : (old : MachineState) (device : DeviceState) (memory : MemoryState) (shared : RamState) (range : List ℕ) (handover : HandoverState) (waited : ℕ) → IsMachine old →
    device.store.layout ≡ old.device.store.layout → memory ≡ cleared (length old.memory.range) shared → range ≡ memory.range →
    shared.windows ≡ old.memory.shared.windows → handover.map ≡ old.handover.map → Stands handover shared →
    IsMachine (record { device = device; memory = record memory { range = range }; handover = handover; waited = waited })
kept_power old device memory shared range handover waited machine layout is same windows map stands =
    let range_is : range ≡ zeros (length old.memory.range) = same ∙ ap (λ (m : MemoryState). m.range) is in
    let others : (let after : MemoryState = record memory { range = range } in after) ≡ cleared (length old.memory.range) shared =
    ap (λ (m : MemoryState). record m { range = range }) is ∙ ap (λ (r : List ℕ). record (cleared (length old.memory.range) shared) { range = r }) range_is in
    subst (λ (m : MemoryState). IsMachine (record { device = device; memory = m; handover = handover; waited = waited })) (sym others) (record {
      sizes = record {
        small = subst (λ (l : Layout). reach_of (room_of l) ≤ 65536) (sym layout) machine.sizes.small;
        range = length-replicate {A = ℕ} (length old.memory.range) 0 ∙ machine.sizes.range ∙ sym (ap (λ (l : Layout). reach_of (room_of l)) layout);
        scratch = length-replicate {A = ℕ} 4096 0;
        ports = length-replicate {A = ℕ} 16 0;
        region = length-replicate {A = ℕ} 16384 0;
        shared = windows ∙ machine.sizes.shared;
      };
      laid = nothing_laid 16384;
      map = map ∙ machine.map;
      stands = stands;
    })

-- a region that a fatal block was laid into, or not
kept_region : {T E : Type 0} (old : MachineState) (before after : List ℕ) (result : Result T E) → before ≡ old.memory.region → OnErr result (after ≡ before) →
    OnErr result ((let new : MachineState = record old { memory = record old.memory { region = after } } in new) ≡ old)
kept_region old before after (Ok x) same kept = tt
kept_region old before after (Err e) same kept = ap (λ (r : List ℕ). record old { memory = record old.memory { region = r } }) (kept ∙ same)

lays : (old seen : MachineState) (before after block : List ℕ) (result : Result ℕ FatalError) → old ≡ seen → before ≡ old.memory.region →
    ((blocks : List (List ℕ)) (left : ℕ) → IsLaidOut blocks left before → MatchResult result (λ _. fatal_refusal left block ≡ None) (λ error. fatal_refusal left block ≡ Some error)) →
    IfOk result (λ at. (blocks : List (List ℕ)) (left : ℕ) → IsLaidOut blocks left before → (at ≡ length (joined blocks)) × IsLaidOut (blocks ++ block ∷ []) (left - length block) after) →
    OnErr result (after ≡ before) →
    LaysFatal seen block result (record old { memory = record old.memory { region = after } })
lays old seen before after block result same region exact laid kept =
    subst (λ (s : MachineState). LaysFatal s block result (record old { memory = record old.memory { region = after } })) same (record {
      exact = subst (λ (r : List ℕ). (blocks : List (List ℕ)) (left : ℕ) → IsLaidOut blocks left r
          → MatchResult result (λ _. fatal_refusal left block ≡ None) (λ error. fatal_refusal left block ≡ Some error)) region exact;
      laid = subst (λ (r : List ℕ). IfOk result (λ at. (blocks : List (List ℕ)) (left : ℕ) → IsLaidOut blocks left r
          → (at ≡ length (joined blocks)) × IsLaidOut (blocks ++ block ∷ []) (left - length block) after)) region laid;
      others = refl;
      refused = kept_region old before after result region kept;
    })

pub lays_fatal : (old seen : MachineState) (before after stored block : List ℕ) (result : Result ℕ FatalError) → old ≡ seen → before ≡ old.memory.region → stored ≡ after →
    ((blocks : List (List ℕ)) (left : ℕ) → IsLaidOut blocks left before → MatchResult result (λ _. fatal_refusal left block ≡ None) (λ error. fatal_refusal left block ≡ Some error)) →
    IfOk result (λ at. (blocks : List (List ℕ)) (left : ℕ) → IsLaidOut blocks left before → (at ≡ length (joined blocks)) × IsLaidOut (blocks ++ block ∷ []) (left - length block) after) →
    OnErr result (after ≡ before) →
    LaysFatal seen block result (record old { memory = record old.memory { region = stored } })
lays_fatal old seen before after stored block result same region is exact laid kept =
    subst (λ (r : List ℕ). LaysFatal seen block result (record old { memory = record old.memory { region = r } })) (sym is)
    (lays old seen before after block result same region exact laid kept)

pub reach_small : (room : ℕ) → reach_of room ≤ 65536
unfolding reach_of
reach_small room = omega arith
