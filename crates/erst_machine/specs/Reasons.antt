-- A fault leaves everything as it was, and none comes of the flash, whose faults are told as command statuses.
use Rattle.std.proofs.Common.{◌≡◌, ℕ, ◌/◌, List, length, Bool, true, false, Result, Ok, Err, Option, Some, None, if◌then◌else◌, refl, sym, subst, arith}
use Rattle.apei_tables.specs.declared.widths.Width.{Width}
use Rattle.apei_tables.specs.declared.widths.Width.TheVariants.{B8}
use Rattle.apei_tables.specs.Access.{bits}
use Rattle.apei_space.specs.declared.faults.SpaceFault.{SpaceFault}
use Rattle.apei_space.specs.declared.faults.SpaceFault.TheVariants.{Unmapped, BadAccess, NotMemory}
use Rattle.apei_space.specs.Calls.{Call, Read, Write, Wait, Copy, ReadBytes, WriteBytes, HasReason, Leaves, fault_in, IsOfAccess, IsOfCopy}
use Rattle.apei_space.specs.Windows.{address_of}
use Rattle.erst_machine.specs.declared.areas.Area.{Area}
use Rattle.erst_machine.specs.declared.areas.Area.TheVariants.{Device, Scratch, LogRange, Handover, BootErrors, Ports}
use Rattle.erst_machine.specs.declared.areas.Location.{Location}
use Rattle.erst_machine.specs.declared.areas.Location.TheVariants.{Inside, Beyond, Nowhere}
use Rattle.erst_machine.specs.declared.areas.Register.{Register}
use Rattle.erst_machine.specs.declared.areas.Register.TheVariants.{Action, Value, NoRegister}
use Rattle.erst_machine.specs.Areas.{is_plain, register_at}
use Rattle.erst_machine.specs.MachineState.{MachineState, location_of}
use Rattle.erst_machine.specs.Allowed.{register_read, number_read, NumberWrite, write_of, RegisterWritten, NumberWritten, bytes_read, bytes_stored, copy_fault, copied, copy_of, Allows}
use Rattle.apei_tables.specs.declared.registers.Place.TheVariants.{Memory}

-- what an answer leaves, and that an access or a copy may give it
record Why {T : Type 0} (old new : MachineState) (answer : Result T SpaceFault) : Type 0 where
  leaves : Leaves (λ (_ : MachineState). 0) old new (fault_in answer)
  access : IsOfAccess (fault_in answer)

-- what a fault of a copy leaves, and that a copy may give it
abbrev WhyFault : MachineState → MachineState → Option SpaceFault → Type 0
WhyFault old new fault = Leaves (λ (_ : MachineState). 0) old new fault × IsOfCopy fault

why_ok : {T : Type 0} (old new : MachineState) (x : T) → Why old new (Ok x)
why_ok old new x = record { leaves = tt; access = tt }

why_unmapped : {T : Type 0} (old new : MachineState) (at : ℕ) → new ≡ old → Why {T = T} old new (Err (Unmapped at))
why_unmapped old new at same = record { leaves = same; access = tt }

why_bad : {T : Type 0} (old new : MachineState) (at : ℕ) (width : Width) → new ≡ old → Why {T = T} old new (Err (BadAccess at width))
why_bad old new at width same = record { leaves = same; access = tt }

why_register_read : (register : Register) (old new : MachineState) (at : ℕ) (width : Width) → new ≡ old → Why old new (register_read register old at width)
why_register_read Action old new at width same = why_ok old new 0
why_register_read Value old new at width same = why_ok old new old.device.value
why_register_read NoRegister old new at width same = why_bad old new at width same

why_area_read : (area : Area) (start : ℕ) (old new : MachineState) (at : ℕ) (width : Width) → new ≡ old → Why old new (number_read (Inside area start) old at width)
why_area_read Device start old new at width same = why_register_read (register_at start width) old new at width same
why_area_read Scratch start old new at width same = why_ok old new _
why_area_read LogRange start old new at width same = why_ok old new _
why_area_read Handover start old new at width same = why_ok old new _
why_area_read BootErrors start old new at width same = why_ok old new _
why_area_read Ports start old new at width same = why_ok old new _

why_read : (location : Location) (old new : MachineState) (at : ℕ) (width : Width) → new ≡ old → Why old new (number_read location old at width)
why_read (Inside area start) old new at width same = why_area_read area start old new at width same
why_read (Beyond area address) old new at width same = why_unmapped old new address same
why_read (Nowhere address) old new at width same = why_unmapped old new address same

why_is : {T : Type 0} (old new : MachineState) (answer other : Result T SpaceFault) → answer ≡ other → Why old new other → Why old new answer
why_is {T = T} old new answer other is why = subst (λ (a : Result T SpaceFault). Why old new a) (sym is) why

copy_is : (old new : MachineState) (answer other : Result (Unit {0}) SpaceFault) → answer ≡ other → WhyFault old new (fault_in other) → WhyFault old new (fault_in answer)
copy_is old new answer other is why = subst (λ (a : Result (Unit {0}) SpaceFault). WhyFault old new (fault_in a)) (sym is) why

why_register : (tells : Type 0) (register : Register) (old new : MachineState) (write : NumberWrite) →
    RegisterWritten tells register old write new → Why old new write.answer
why_register tells Action old new write h = why_is old new write.answer _ h.0 (why_ok old new tt)
why_register tells Value old new write h = why_is old new write.answer _ h.0 (why_ok old new tt)
why_register tells NoRegister old new write h = why_is old new write.answer _ h.0 (why_bad old new write.at write.width h.1)

why_area_written : (tells : Type 0) (area : Area) (start : ℕ) (old new : MachineState) (write : NumberWrite) →
    NumberWritten tells (Inside area start) old write new → Why old new write.answer
why_area_written tells Device start old new write h = why_register tells (register_at start write.width) old new write h
why_area_written tells Scratch start old new write h = why_is old new write.answer _ h.0 (why_ok old new tt)
why_area_written tells LogRange start old new write h = why_is old new write.answer _ h.0 (why_ok old new tt)
why_area_written tells Handover start old new write h = why_is old new write.answer _ h.0 (why_bad old new write.at write.width h.1)
why_area_written tells BootErrors start old new write h = why_is old new write.answer _ h.0 (why_bad old new write.at write.width h.1)
why_area_written tells Ports start old new write h = why_is old new write.answer _ h.0 (why_ok old new tt)

why_written : (tells : Type 0) (location : Location) (old new : MachineState) (write : NumberWrite) →
    NumberWritten tells location old write new → Why old new write.answer
why_written tells (Inside area start) old new write h = why_area_written tells area start old new write h
why_written tells (Beyond area address) old new write h = why_is old new write.answer _ h.0 (why_unmapped old new address h.1)
why_written tells (Nowhere address) old new write h = why_is old new write.answer _ h.0 (why_unmapped old new address h.1)

why_area_bytes : (area : Area) (start : ℕ) (old new : MachineState) (at : ℕ) (before : List ℕ) → new ≡ old → Why old new (bytes_read (Inside area start) old at before).0
why_area_bytes Device start old new at before same = why_bad old new at B8 same
why_area_bytes Scratch start old new at before same = why_ok old new tt
why_area_bytes LogRange start old new at before same = why_ok old new tt
why_area_bytes Handover start old new at before same = why_ok old new tt
why_area_bytes BootErrors start old new at before same = why_ok old new tt
why_area_bytes Ports start old new at before same = why_ok old new tt

why_bytes_read : (location : Location) (old new : MachineState) (at : ℕ) (before : List ℕ) → new ≡ old → Why old new (bytes_read location old at before).0
why_bytes_read (Inside area start) old new at before same = why_area_bytes area start old new at before same
why_bytes_read (Beyond area address) old new at before same = why_unmapped old new address same
why_bytes_read (Nowhere address) old new at before same = why_unmapped old new address same

why_area_stored : (area : Area) (start : ℕ) (old : MachineState) (at : ℕ) (bytes : List ℕ) → Why old (bytes_stored (Inside area start) old at bytes).1 (bytes_stored (Inside area start) old at bytes).0
why_area_stored Device start old at bytes = why_bad old old at B8 refl
why_area_stored Scratch start old at bytes = why_ok old _ tt
why_area_stored LogRange start old at bytes = why_ok old _ tt
why_area_stored Handover start old at bytes = why_bad old old at B8 refl
why_area_stored BootErrors start old at bytes = why_bad old old at B8 refl
why_area_stored Ports start old at bytes = why_ok old _ tt

why_stored : (location : Location) (old : MachineState) (at : ℕ) (bytes : List ℕ) → Why old (bytes_stored location old at bytes).1 (bytes_stored location old at bytes).0
why_stored (Inside area start) old at bytes = why_area_stored area start old at bytes
why_stored (Beyond area address) old at bytes = why_unmapped old old address refl
why_stored (Nowhere address) old at bytes = why_unmapped old old address refl

why_inside : (old : MachineState) (plain : Bool) (at : ℕ) → WhyFault old old (if plain then None else Some (NotMemory at))
why_inside old true at = (tt, tt)
why_inside old false at = (refl, tt)

why_beyond : (old : MachineState) (plain : Bool) (at address : ℕ) → WhyFault old old (if plain then Some (Unmapped address) else Some (NotMemory at))
why_beyond old true at address = (refl, tt)
why_beyond old false at address = (refl, tt)

why_copy_fault : (old : MachineState) (location : Location) (at : ℕ) → WhyFault old old (copy_fault location at)
why_copy_fault old (Inside area start) at = why_inside old (is_plain area) at
why_copy_fault old (Beyond area address) at = why_beyond old (is_plain area) at address
why_copy_fault old (Nowhere address) at = (refl, tt)

why_copied : (old : MachineState) (first second : Option SpaceFault) (source target : Location) (n : ℕ) → WhyFault old old first → WhyFault old old second →
    WhyFault old (copied first second source target old n).1 (fault_in (copied first second source target old n).0)
why_copied old (Some fault) second source target n why next = why
why_copied old None (Some fault) source target n why next = next
why_copied old None None source target n why next = (tt, tt)

pub reasons : (tells : Type 0) (old new : MachineState) (call : Call) → Allows tells old call new → HasReason (λ (_ : MachineState). 0) old call new
reasons tells old new (Read at width answer) h =
    let why = why_is old new answer _ h.0 (why_read (location_of old at (bits width / 8)) old new (address_of at) width h.1) in
    record { never_falls = omega arith; leaves = why.leaves; of_call = why.access }
reasons tells old new (Write at width value answer) h =
    let why = why_written tells (location_of old at (bits width / 8)) old new (write_of (address_of at) width value answer) h in
    record { never_falls = omega arith; leaves = why.leaves; of_call = why.access }
reasons tells old new (Wait micros) h = record { never_falls = omega arith; leaves = tt; of_call = tt }
reasons tells old new (Copy from to n answer) h =
    let source = location_of old (Memory from) n in
    let target = location_of old (Memory to) n in
    let why = copy_is old (copy_of source target old from to n).1 answer _ h.0
    (why_copied old (copy_fault source from) (copy_fault target to) source target n (why_copy_fault old source from) (why_copy_fault old target to)) in
    subst (λ (s : MachineState). HasReason (λ (_ : MachineState). 0) old (Copy from to n answer) s) (sym h.1)
    (record { never_falls = omega arith; leaves = why.0; of_call = why.1 })
reasons tells old new (ReadBytes at before after answer) h =
    let why = why_is old new answer _ h.0 (why_bytes_read (location_of old (Memory at) (length before)) old new at before h.2) in
    record { never_falls = omega arith; leaves = why.leaves; of_call = why.access }
reasons tells old new (WriteBytes at bytes answer) h =
    let why = why_is old (bytes_stored (location_of old (Memory at) (length bytes)) old at bytes).1 answer _ h.0 (why_stored (location_of old (Memory at) (length bytes)) old at bytes) in
    subst (λ (s : MachineState). HasReason (λ (_ : MachineState). 0) old (WriteBytes at bytes answer) s) (sym h.1)
    (record { never_falls = omega arith; leaves = why.leaves; of_call = why.access })
