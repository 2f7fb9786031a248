-- What no access lowers: the flash's count of faults.
use Rattle.std.proofs.Common.{◌≡◌, ℕ, ◌≤◌, ◌/◌, length, refl, sym, ap, subst, ◌∙◌, arith}
use Rattle.record_store.specs.Store.{StoreView}
use Rattle.apei_tables.specs.Access.{bits}
use Rattle.apei_space.specs.Calls.{Call, Read, Write, Wait, Copy, ReadBytes, WriteBytes}
use Rattle.apei_space.specs.Accesses.{Reaches, Stays, Goes}
use Rattle.apei_space.specs.Windows.{address_of}
use Rattle.erst_machine.specs.declared.areas.Area.{Area}
use Rattle.erst_machine.specs.declared.areas.Area.TheVariants.{Device, Scratch, LogRange, Handover, BootErrors, Ports}
use Rattle.erst_machine.specs.declared.areas.Location.{Location}
use Rattle.erst_machine.specs.declared.areas.Location.TheVariants.{Inside, Beyond, Nowhere}
use Rattle.erst_machine.specs.declared.areas.Register.{Register}
use Rattle.erst_machine.specs.declared.areas.Register.TheVariants.{Action, Value, NoRegister}
use Rattle.erst_machine.specs.Areas.{register_at}
use Rattle.erst_machine.specs.MachineState.{MachineState, location_of}
use Rattle.erst_machine.specs.Allowed.{NumberWrite, write_of, RegisterWritten, NumberWritten, Allows}
use Rattle.erst_machine.proofs.CrashTrail.{stored_store, copied_store}
use Rattle.apei_tables.specs.declared.registers.Place.TheVariants.{Memory}

abbrev NeverFalls : MachineState → MachineState → Type 0
NeverFalls old new = old.device.store.flash.faults ≤ new.device.store.flash.faults

-- the store is as it was
by_state : (old new other : MachineState) → new ≡ other → other.device.store ≡ old.device.store → NeverFalls old new
by_state old new other is same =
    subst (λ (s : StoreView). old.device.store.flash.faults ≤ s.flash.faults) (sym (ap (λ (m : MachineState). m.device.store) is ∙ same)) (omega arith)

of_register : (tells : Type 0) (register : Register) (old new : MachineState) (write : NumberWrite) →
    RegisterWritten tells register old write new → NeverFalls old new
of_register tells Action old new write h = h.1.effect.never_falls
of_register tells Value old new write h = by_state old new _ h.1 refl
of_register tells NoRegister old new write h = by_state old new _ h.1 refl

of_area : (tells : Type 0) (area : Area) (start : ℕ) (old new : MachineState) (write : NumberWrite) →
    NumberWritten tells (Inside area start) old write new → NeverFalls old new
of_area tells Device start old new write h = of_register tells (register_at start write.width) old new write h
of_area tells Scratch start old new write h = by_state old new _ h.1 refl
of_area tells LogRange start old new write h = by_state old new _ h.1 refl
of_area tells Handover start old new write h = by_state old new _ h.1 refl
of_area tells BootErrors start old new write h = by_state old new _ h.1 refl
of_area tells Ports start old new write h = by_state old new _ h.1 refl

of_write : (tells : Type 0) (location : Location) (old new : MachineState) (write : NumberWrite) →
    NumberWritten tells location old write new → NeverFalls old new
of_write tells (Inside area start) old new write h = of_area tells area start old new write h
of_write tells (Beyond area address) old new write h = by_state old new _ h.1 refl
of_write tells (Nowhere address) old new write h = by_state old new _ h.1 refl

of_access : (tells : Type 0) (old : MachineState) (call : Call) (new : MachineState) → Allows tells old call new → NeverFalls old new
of_access tells old (Read at width answer) new h = by_state old new _ h.1 refl
of_access tells old (Write at width value answer) new h = of_write tells (location_of old at (bits width / 8)) old new (write_of (address_of at) width value answer) h
of_access tells old (Wait micros) new h = by_state old new _ h refl
of_access tells old (Copy from to n answer) new h = by_state old new _ h.1 (copied_store _ _ (location_of old (Memory from) n) (location_of old (Memory to) n) old n)
of_access tells old (ReadBytes at before after answer) new h = by_state old new _ h.2 refl
of_access tells old (WriteBytes at bytes answer) new h = by_state old new _ h.1 (stored_store (location_of old (Memory at) (length bytes)) old at bytes)

pub reached_low : (tells : Type 0) (first last : MachineState) → Reaches (Allows tells) first last → NeverFalls first last
reached_low tells first last Stays = omega arith
reached_low tells first last (Goes mid call end more allowed) =
    let before : first.device.store.flash.faults ≤ mid.device.store.flash.faults = reached_low tells first mid more in
    let here : mid.device.store.flash.faults ≤ last.device.store.flash.faults = of_access tells mid call last allowed in
    omega arith
