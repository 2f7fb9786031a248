-- The machine as a station: its turns of the reader, and its accesses, which leave the handover as it is.
use Rattle.std.proofs.Common.{◌≡◌, ℕ, ◌/◌, ◌≤◌, List, length, Option, Some, None, refl, sym, ap, subst}
use Rattle.apei_tables.specs.Access.{bits}
use Rattle.apei_space.specs.declared.faults.SpaceFault.{SpaceFault}
use Rattle.apei_space.specs.Calls.{Call, Read, Write, Wait, Copy, ReadBytes, WriteBytes}
use Rattle.apei_space.specs.Accesses.{Reaches, Stays, Goes}
use Rattle.apei_space.specs.RamState.{RamState}
use Rattle.apei_space.specs.Windows.{address_of}
use Rattle.ghes_ack.specs.declared.events.Side.TheVariants.{Reader}
use Rattle.ghes_ack.specs.declared.events.Event.{Event}
use Rattle.ghes_ack.specs.declared.events.Event.TheVariants.{Took}
use Rattle.ghes_ack.specs.Machine.{Machine as HandoverMachine, turned, last_taken}
use Rattle.ghes_ack.specs.Handovers.{HandoverState, StandsFor}
use Rattle.ghes_ack.proofs.TakenLemmas.{taken_fits}
use Rattle.erst_device.specs.DeviceState.{DeviceState}
use Rattle.erst_machine.specs.declared.areas.Area.{Area}
use Rattle.erst_machine.specs.declared.areas.Area.TheVariants.{Device, Scratch, LogRange, Handover, BootErrors, Ports}
use Rattle.erst_machine.specs.declared.areas.Location.{Location}
use Rattle.erst_machine.specs.declared.areas.Location.TheVariants.{Inside, Beyond, Nowhere}
use Rattle.erst_machine.specs.declared.areas.Register.{Register}
use Rattle.erst_machine.specs.declared.areas.Register.TheVariants.{Action, Value, NoRegister}
use Rattle.erst_machine.specs.Areas.{register_at}
use Rattle.erst_machine.specs.Memories.{MemoryState}
use Rattle.erst_machine.specs.MachineState.{MachineState, location_of}
use Rattle.erst_machine.specs.Events.{Turns}
use Rattle.erst_machine.specs.Allowed.{NumberWrite, write_of, RegisterWritten, NumberWritten, put_in, bytes_stored, copied_to, copied, Allows}
use Rattle.apei_tables.specs.declared.registers.Place.TheVariants.{Memory}

-- the handover and its memory are as before
pub record SameHandover (old new : MachineState) : Type 0 where
  pub handover : new.handover ≡ old.handover
  pub shared : new.memory.shared ≡ old.memory.shared

same_by : (old other new : MachineState) → new ≡ other → SameHandover old other → SameHandover old new
same_by old other new is same = subst (λ (s : MachineState). SameHandover old s) (sym is) same

same_itself : (old new : MachineState) → new ≡ old → SameHandover old new
same_itself old new is = same_by old old new is (record { handover = refl; shared = refl })

same_put : (area : Area) (start : ℕ) (old : MachineState) (bytes : List ℕ) → SameHandover old (put_in area start old bytes)
same_put Device start old bytes = record { handover = refl; shared = refl }
same_put Scratch start old bytes = record { handover = refl; shared = refl }
same_put LogRange start old bytes = record { handover = refl; shared = refl }
same_put Handover start old bytes = record { handover = refl; shared = refl }
same_put BootErrors start old bytes = record { handover = refl; shared = refl }
same_put Ports start old bytes = record { handover = refl; shared = refl }

same_register : (tells : Type 0) (register : Register) (old new : MachineState) (write : NumberWrite) →
    RegisterWritten tells register old write new → SameHandover old new
same_register tells Action old new write h = record { handover = h.1.handover; shared = ap (λ (m : MemoryState). m.shared) h.1.memory }
same_register tells Value old new write h = same_by old _ new h.1 (record { handover = refl; shared = refl })
same_register tells NoRegister old new write h = same_itself old new h.1

same_area : (tells : Type 0) (area : Area) (start : ℕ) (old new : MachineState) (write : NumberWrite) →
    NumberWritten tells (Inside area start) old write new → SameHandover old new
same_area tells Device start old new write h = same_register tells (register_at start write.width) old new write h
same_area tells Scratch start old new write h = same_by old _ new h.1 (same_put Scratch start old _)
same_area tells LogRange start old new write h = same_by old _ new h.1 (same_put LogRange start old _)
same_area tells Handover start old new write h = same_itself old new h.1
same_area tells BootErrors start old new write h = same_itself old new h.1
same_area tells Ports start old new write h = same_by old _ new h.1 (same_put Ports start old _)

same_written : (tells : Type 0) (location : Location) (old new : MachineState) (write : NumberWrite) →
    NumberWritten tells location old write new → SameHandover old new
same_written tells (Inside area start) old new write h = same_area tells area start old new write h
same_written tells (Beyond area address) old new write h = same_itself old new h.1
same_written tells (Nowhere address) old new write h = same_itself old new h.1

same_area_stored : (area : Area) (start : ℕ) (old : MachineState) (at : ℕ) (bytes : List ℕ) → SameHandover old (bytes_stored (Inside area start) old at bytes).1
same_area_stored Device start old at bytes = record { handover = refl; shared = refl }
same_area_stored Scratch start old at bytes = record { handover = refl; shared = refl }
same_area_stored LogRange start old at bytes = record { handover = refl; shared = refl }
same_area_stored Handover start old at bytes = record { handover = refl; shared = refl }
same_area_stored BootErrors start old at bytes = record { handover = refl; shared = refl }
same_area_stored Ports start old at bytes = record { handover = refl; shared = refl }

same_stored : (location : Location) (old : MachineState) (at : ℕ) (bytes : List ℕ) → SameHandover old (bytes_stored location old at bytes).1
same_stored (Inside area start) old at bytes = same_area_stored area start old at bytes
same_stored (Beyond area address) old at bytes = record { handover = refl; shared = refl }
same_stored (Nowhere address) old at bytes = record { handover = refl; shared = refl }

same_copied_to : (target : Location) (old : MachineState) (bytes : List ℕ) → SameHandover old (copied_to target old bytes)
same_copied_to (Inside area start) old bytes = same_put area start old bytes
same_copied_to (Beyond area address) old bytes = record { handover = refl; shared = refl }
same_copied_to (Nowhere address) old bytes = record { handover = refl; shared = refl }

same_copied : (first second : Option SpaceFault) (source target : Location) (old : MachineState) (n : ℕ) → SameHandover old (copied first second source target old n).1
same_copied (Some fault) second source target old n = record { handover = refl; shared = refl }
same_copied None (Some fault) source target old n = record { handover = refl; shared = refl }
same_copied None None source target old n = same_copied_to target old _

pub same_handover : (tells : Type 0) (old new : MachineState) (call : Call) → Allows tells old call new → SameHandover old new
same_handover tells old new (Read at width answer) h = same_itself old new h.1
same_handover tells old new (Write at width value answer) h = same_written tells (location_of old at (bits width / 8)) old new (write_of (address_of at) width value answer) h
same_handover tells old new (Wait micros) h = same_by old _ new h (record { handover = refl; shared = refl })
same_handover tells old new (Copy from to n answer) h = same_by old _ new h.1 (same_copied _ _ (location_of old (Memory from) n) (location_of old (Memory to) n) old n)
same_handover tells old new (ReadBytes at before after answer) h = same_itself old new h.2
same_handover tells old new (WriteBytes at bytes answer) h = same_by old _ new h.1 (same_stored (location_of old (Memory at) (length bytes)) old at bytes)

-- from here on, what the machine owes as a station
pub one_turn : (old new : MachineState) (event : Event) (m : HandoverMachine) → Turns Reader old event new → StandsFor old.handover old.memory.shared m
    → (event ≡ (turned Reader m).0) × StandsFor new.handover new.memory.shared (turned Reader m).1
one_turn old new event m turns stands = let t = turns.turned m stands in (t.event_is, t.stands)

pub whole : (old new : MachineState) → Turns Reader old Took new → 20 ≤ length new.handover.last
whole old new turns =
    let t = turns.turned turns.stood.0 turns.stood.1 in
    let fits = taken_fits old.handover.map.len turns.stood.0 turns.stood.1.state t.event_is in
    subst (λ (block : List ℕ). 20 ≤ length block) (sym t.stands.last) fits.head

pub taken_last : (machine : MachineState) (m : HandoverMachine) → StandsFor machine.handover machine.memory.shared m → machine.handover.last ≡ last_taken m
taken_last machine m stands = stands.last

pub unchanged : (old new : MachineState) (event : Event) → Turns Reader old event new → new.device.store.flash.steps ≡ old.device.store.flash.steps
unchanged old new event turns = ap (λ (device : DeviceState). device.store.flash.steps) turns.device

stands_on : (old new : MachineState) (m : HandoverMachine) → SameHandover old new → StandsFor old.handover old.memory.shared m → StandsFor new.handover new.memory.shared m
stands_on old new m same stands =
    subst (λ (h : HandoverState). StandsFor h new.memory.shared m) (sym same.handover) (subst (λ (r : RamState). StandsFor old.handover r m) (sym same.shared) stands)

pub apart : (tells : Type 0) (old new : MachineState) (m : HandoverMachine) → Reaches (Allows tells) old new → StandsFor old.handover old.memory.shared m → StandsFor new.handover new.memory.shared m
apart tells old new m Stays stands = stands
apart tells old new m (Goes mid call last before allowed) stands = stands_on mid last m (same_handover tells mid last call allowed) (apart tells old mid m before stands)
