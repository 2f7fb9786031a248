-- The flash changes of whatever happens to a machine, where the flash fails nothing.
use Rattle.std.proofs.lemmas.Bool.{cases_lt}
use Rattle.std.proofs.Common.{◌≡◌, ◌⊎◌, ℕ, ◌+◌, ◌≤◌, ◌<◌, ◌/◌, ◌%◌, ◌^◌, List, [], ◌∷◌, length, Result, Ok, Err, refl, sym, ap, subst, ◌∙◌, arith, inl, inr}
use Rattle.base_model.specs.Faults.{Rose}
use Rattle.record_store.specs.Store.{StoreView}
use Rattle.record_store.specs.Answers.{copies_in}
use Rattle.apei_tables.specs.declared.widths.Width.{Width}
use Rattle.apei_tables.specs.Access.{bits}
use Rattle.apei_space.specs.Calls.{Call, Read, Write, Wait, Copy, ReadBytes, WriteBytes}
use Rattle.apei_space.specs.Accesses.{Move, Trail}
use Rattle.apei_space.specs.Windows.{address_of}
use Rattle.ghes_ack.specs.declared.submission.SubmitError.{SubmitError}
use Rattle.erst_entries.specs.Actions.{action_of}
use Rattle.erst_device.specs.DeviceState.{DeviceState}
use Rattle.erst_device.specs.Effects.{changes_of_action}
use Rattle.erst_machine.specs.declared.errors.BootError.{BootError}
use Rattle.erst_machine.specs.declared.areas.Area.{Area}
use Rattle.erst_machine.specs.declared.areas.Area.TheVariants.{Device, Scratch, LogRange, Handover, BootErrors, Ports}
use Rattle.erst_machine.specs.declared.areas.Location.{Location}
use Rattle.erst_machine.specs.declared.areas.Location.TheVariants.{Inside, Beyond, Nowhere}
use Rattle.erst_machine.specs.declared.areas.Register.{Register}
use Rattle.erst_machine.specs.declared.areas.Register.TheVariants.{Action, Value, NoRegister}
use Rattle.erst_machine.specs.Areas.{register_at}
use Rattle.erst_machine.specs.MachineState.{MachineState, location_of}
use Rattle.erst_machine.specs.Allowed.{NumberWrite, write_of, RegisterWritten, NumberWritten, Allows}
use Rattle.erst_machine.specs.Events.{Warms, Powers, Event, Accessed, Warmed, Powered, Submitted, Turned, Laid, Submits, Happens}
use Rattle.erst_machine.proofs.CrashTrail.{stored_store, copied_store}
use Rattle.apei_script.specs.Changes.{changes_by_event, changes_along}
use Rattle.apei_tables.specs.declared.registers.Place.TheVariants.{Memory}

-- what happened took so many changes where no fault was counted, the count of faults never falls, and the flash is divided as it was
pub record Takes (tells : Type 0) (old : MachineState) (changes : ℕ) (new : MachineState) : Type 0 where
  pub never_falls : old.device.store.flash.faults ≤ new.device.store.flash.faults
  pub layout : new.device.store.layout ≡ old.device.store.layout
  pub exact : tells → (Rose old.device.store.flash.faults new.device.store.flash.faults → ⊥) → new.device.store.flash.steps ≡ old.device.store.flash.steps + changes

-- the store is as it was
pub still : (tells : Type 0) (old new : MachineState) → new.device.store ≡ old.device.store → Takes tells old 0 new
still tells old new same = subst
    (λ (s : StoreView). Takes tells old 0 (record new { device = record new.device { store = s } })) (sym same)
    (record { never_falls = omega arith; layout = refl; exact = λ _ _. omega arith })

by_state : (tells : Type 0) (old new other : MachineState) → new ≡ other → other.device.store ≡ old.device.store → Takes tells old 0 new
by_state tells old new other is same = still tells old new (ap (λ (s : MachineState). s.device.store) is ∙ same)

-- the changes of a write of a number, by its register and by its place
abbrev at_register : MachineState → ℕ → Register → ℕ
at_register state code register = elim register [
  | Action ↦ changes_of_action (action_of code) state.device state.memory.range
  | other ↦ 0
]

abbrev at_location : MachineState → Width → ℕ → Location → ℕ
at_location state width code location = elim location [
  | Inside Device start ↦ elim (register_at start width) [
    | Action ↦ changes_of_action (action_of code) state.device state.memory.range
    | other ↦ 0
  ]
  | other ↦ 0
]

of_register : (tells : Type 0) (register : Register) (old new : MachineState) (write : NumberWrite) →
    RegisterWritten tells register old write new → Takes tells old (at_register old (write.value % 2 ^ 32) register) new
of_register tells Action old new write h = record { never_falls = h.1.effect.never_falls; layout = h.1.effect.equivalent.layout; exact = h.1.effect.exact }
of_register tells Value old new write h = by_state tells old new _ h.1 refl
of_register tells NoRegister old new write h = by_state tells old new _ h.1 refl

of_area : (tells : Type 0) (area : Area) (start : ℕ) (old new : MachineState) (write : NumberWrite) →
    NumberWritten tells (Inside area start) old write new → Takes tells old (at_location old write.width (write.value % 2 ^ 32) (Inside area start)) new
of_area tells Device start old new write h = of_register tells (register_at start write.width) old new write h
of_area tells Scratch start old new write h = by_state tells old new _ h.1 refl
of_area tells LogRange start old new write h = by_state tells old new _ h.1 refl
of_area tells Handover start old new write h = by_state tells old new _ h.1 refl
of_area tells BootErrors start old new write h = by_state tells old new _ h.1 refl
of_area tells Ports start old new write h = by_state tells old new _ h.1 refl

of_write : (tells : Type 0) (location : Location) (old new : MachineState) (write : NumberWrite) →
    NumberWritten tells location old write new → Takes tells old (at_location old write.width (write.value % 2 ^ 32) location) new
of_write tells (Inside area start) old new write h = of_area tells area start old new write h
of_write tells (Beyond area address) old new write h = by_state tells old new _ h.1 refl
of_write tells (Nowhere address) old new write h = by_state tells old new _ h.1 refl

of_access : (tells : Type 0) (old : MachineState) (call : Call) (new : MachineState) → Allows tells old call new → Takes tells old (changes_by_event old (Accessed call)) new
of_access tells old (Read at width answer) new h = by_state tells old new _ h.1 refl
of_access tells old (Write at width value answer) new h = of_write tells (location_of old at (bits width / 8)) old new (write_of (address_of at) width value answer) h
of_access tells old (Wait micros) new h = by_state tells old new _ h refl
of_access tells old (Copy from to n answer) new h = by_state tells old new _ h.1 (copied_store _ _ (location_of old (Memory from) n) (location_of old (Memory to) n) old n)
of_access tells old (ReadBytes at before after answer) new h = by_state tells old new _ h.2 refl
of_access tells old (WriteBytes at bytes answer) new h = by_state tells old new _ h.1 (stored_store (location_of old (Memory at) (length bytes)) old at bytes)

-- a restart looks at the slots of the flash that it finds
of_warms : (tells : Type 0) (old new : MachineState) (result : Result ℕ BootError) → Warms tells old result new → Takes tells old (copies_in old.device.store) new
of_warms tells old new (Ok n) h =
    let cause : new.device.store.flash.faults ≡ old.device.store.flash.faults = h.leaves.cause in
    record { never_falls = omega arith; layout = h.leaves.equivalent.layout; exact = λ told _. h.leaves.ended told }
of_warms tells old new (Err error) h = record { never_falls = h.leaves.cause.0; layout = h.leaves.equivalent.layout; exact = λ told none. absurd (none h.leaves.cause.1) }

of_powers : (tells : Type 0) (old new : MachineState) (result : Result ℕ BootError) → Powers tells old result new → Takes tells old (copies_in old.device.store) new
of_powers tells old new (Ok n) h =
    let cause : new.device.store.flash.faults ≡ old.device.store.flash.faults = h.restarts.leaves.cause in
    record { never_falls = omega arith; layout = h.restarts.leaves.equivalent.layout; exact = λ told _. h.restarts.leaves.ended told }
of_powers tells old new (Err error) h = record { never_falls = h.restarts.leaves.cause.0; layout = h.restarts.leaves.equivalent.layout; exact = λ told none. absurd (none h.restarts.leaves.cause.1) }

of_submits : (tells : Type 0) (old new : MachineState) (block : List ℕ) (result : Result ℕ SubmitError) → Submits old block result new → Takes tells old 0 new
of_submits tells old new block (Ok n) h = by_state tells old new _ h.added refl
of_submits tells old new block (Err error) h = by_state tells old new _ h.refused refl

-- whatever happens
pub of_event : (tells : Type 0) (old : MachineState) (event : Event) (new : MachineState) → Happens tells old event new → Takes tells old (changes_by_event old event) new
of_event tells old (Accessed call) new h = of_access tells old call new h
of_event tells old (Warmed result) new h = of_warms tells old new result h
of_event tells old (Powered result) new h = of_powers tells old new result h
of_event tells old (Submitted block result) new h = of_submits tells old new block result h
of_event tells old (Turned side event) new h = still tells old new (ap (λ (d : DeviceState). d.store) h.device)
of_event tells old (Laid block result) new h = by_state tells old new _ h.others refl

-- a count that rose on the way, and never falls, rose on the whole
rose_before : (first mid last : ℕ) → first ≤ mid → mid ≤ last → Rose first mid → Rose first last
rose_before first mid last grows low (inl less) = inl (omega arith)
rose_before first mid last grows low (inr full) = by_cases (cases_lt first last)
  where
    by_cases : (first < last) ⊎ (last ≤ first) → Rose first last
    by_cases (inl less) = inl less
    by_cases (inr stays) = inr (omega arith)

rose_behind : (first mid last : ℕ) → first ≤ mid → Rose mid last → Rose first last
rose_behind first mid last low (inl less) = inl (omega arith)
rose_behind first mid last low (inr full) = inr full

then : (tells : Type 0) (first mid last : MachineState) (m n : ℕ) → Takes tells first m mid → Takes tells mid n last → Takes tells first (m + n) last
then tells first mid last m n one two = record {
  never_falls = omega (arith, one.never_falls, two.never_falls);
  layout = two.layout ∙ one.layout;
  exact = λ told none.
      let before = one.exact told (λ (rose : Rose first.device.store.flash.faults mid.device.store.flash.faults). none (rose_before _ _ _ one.never_falls two.never_falls rose)) in
      let behind = two.exact told (λ (rose : Rose mid.device.store.flash.faults last.device.store.flash.faults). none (rose_behind _ _ _ one.never_falls rose)) in
      omega (arith, before, behind);
}

-- the one induction
pub along : (tells : Type 0) (first last : MachineState) (trail : List (Move Event MachineState)) → Trail (Happens tells) first trail last → Takes tells first (changes_along first trail) last
along tells first last [] is = by_state tells first last first is refl
along tells first last (move ∷ rest) is =
    then tells first move.left last (changes_by_event first move.event) (changes_along move.left rest) (of_event tells first move.event move.left is.0) (along tells move.left last rest is.1)
