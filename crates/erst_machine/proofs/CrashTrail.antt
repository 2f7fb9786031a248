-- The one induction: moves of a machine one after another.
use Rattle.std.proofs.Common.{◌≡◌, ℕ, ◌+◌, ◌<◌, ◌≤◌, ◌/◌, ◌%◌, ◌^◌, Bool, true, false, List, [], ◌∷◌, ◌++◌, length, Option, Some, None, Result, Ok, Err, refl, sym, ap, subst, ◌∙◌, arith, inl, inr}
use Rattle.std.specs.Prelude.{nat_le, MatchBool}
use Rattle.std.proofs.lemmas.Bool.{cases_lt, le-leb, lt-leb}
use Rattle.base_model.specs.Flash.{Told, CrashImage, Leaves, image_at}
use Rattle.base_model.specs.Layout.{Layout}
use Rattle.base_model.proofs.CrashLemmas.{IsLater-refl, IsLater-then, past_grows, image_at-later, image_at-now, CrashImage-earlier, CrashImage-now, Leaves-none, Leaves-weaker, Leaves-exit}
use Rattle.record_model.specs.Records.{Stored}
use Rattle.record_store.specs.Store.{StoreView, DividesAlike, records_of as records_in}
use Rattle.apei_tables.specs.Access.{bits}
use Rattle.apei_space.specs.declared.faults.SpaceFault.{SpaceFault}
use Rattle.apei_space.specs.Calls.{Call, Read, Write, Wait, Copy, ReadBytes, WriteBytes}
use Rattle.apei_space.specs.Accesses.{Reaches, Stays, Goes, Move, Trail}
use Rattle.apei_space.specs.Windows.{address_of}
use Rattle.apei_space.proofs.AccessLemmas.{trail_of, Trail-push}
use Rattle.ghes_ack.specs.declared.submission.SubmitError.{SubmitError}
use Rattle.erst_device.specs.DeviceState.{DeviceState}
use Rattle.erst_device.proofs.EffectLemmas.{faults_rise}
use Rattle.erst_machine.specs.declared.errors.BootError.{BootError}
use Rattle.erst_machine.specs.declared.areas.Area.{Area}
use Rattle.erst_machine.specs.declared.areas.Area.TheVariants.{Device, Scratch, LogRange, Handover, BootErrors, Ports}
use Rattle.erst_machine.specs.declared.areas.Location.{Location}
use Rattle.erst_machine.specs.declared.areas.Location.TheVariants.{Inside, Beyond, Nowhere}
use Rattle.erst_machine.specs.declared.areas.Register.{Register}
use Rattle.erst_machine.specs.declared.areas.Register.TheVariants.{Action, Value, NoRegister}
use Rattle.erst_machine.specs.Areas.{register_at}
use Rattle.erst_machine.specs.Memories.{MemoryState}
use Rattle.erst_machine.specs.MachineState.{MachineState, IsMachine, location_of, records_of, told_of}
use Rattle.erst_machine.specs.Allowed.{NumberWrite, write_of, RegisterWritten, NumberWritten, bytes_stored, copied_to, copied, Allows}
use Rattle.erst_machine.specs.Events.{Restarts, Event, Accessed, Warmed, Powered, Submitted, Turned, Laid, Submits, Happens}
use Rattle.erst_machine.specs.Shown.{changes_of, shown_by, Shows, ShowsEach, made_at, made_by_event, GoesOn, IsShown}
use Rattle.erst_machine.proofs.KeptLemmas.{kept_allowed}
use Rattle.erst_machine.proofs.Words.{store_answer, made_at_register, IsOneMove, copied_from}
use Rattle.apei_tables.specs.declared.registers.Place.TheVariants.{Memory}

DividesAlike-refl : (store : StoreView) → DividesAlike store store
DividesAlike-refl store = record { layout = refl; size = refl; sector_size = refl }

equivalent_then : (a b c : StoreView) → DividesAlike a b → DividesAlike b c → DividesAlike a c
equivalent_then a b c first second = record { layout = second.layout ∙ first.layout; size = second.size ∙ first.size; sector_size = second.sector_size ∙ first.sector_size }

-- the store is as it was
still : (old new : MachineState) → new.device.store ≡ old.device.store → IsOneMove old (records_of old) new
still old new same = subst
    (λ (s : StoreView). IsOneMove old (records_of old) (record new { device = record new.device { store = s } })) (sym same)
    (record {
      leaves = Leaves-none (told_of old) _ (inl refl);
      made_is = λ _. refl;
      few = omega arith;
      never_falls = omega arith;
      equivalent = DividesAlike-refl old.device.store;
    })

by_state : (old new other : MachineState) → new ≡ other → other.device.store ≡ old.device.store → IsOneMove old (records_of old) new
by_state old new other is same = still old new (ap (λ (s : MachineState). s.device.store) is ∙ same)

of_register : (tells : Type 0) (told : tells) (register : Register) (old new : MachineState) (write : NumberWrite) →
    RegisterWritten tells register old write new → IsOneMove old (made_at_register register old (write.value % 2 ^ 32)) new
of_register tells told Action old new write h = record {
  leaves = h.1.effect.crash told;
  made_is = h.1.effect.made told;
  few = h.1.effect.few told;
  never_falls = h.1.effect.never_falls;
  equivalent = h.1.effect.equivalent;
}
of_register tells told Value old new write h = by_state old new _ h.1 refl
of_register tells told NoRegister old new write h = by_state old new _ h.1 refl

of_area : (tells : Type 0) (told : tells) (area : Area) (start : ℕ) (old new : MachineState) (write : NumberWrite) →
    NumberWritten tells (Inside area start) old write new → IsOneMove old (made_at (Inside area start) old write.width (write.value % 2 ^ 32)) new
of_area tells told Device start old new write h = of_register tells told (register_at start write.width) old new write h
of_area tells told Scratch start old new write h = by_state old new _ h.1 refl
of_area tells told LogRange start old new write h = by_state old new _ h.1 refl
of_area tells told Handover start old new write h = by_state old new _ h.1 refl
of_area tells told BootErrors start old new write h = by_state old new _ h.1 refl
of_area tells told Ports start old new write h = by_state old new _ h.1 refl

of_write : (tells : Type 0) (told : tells) (location : Location) (old new : MachineState) (write : NumberWrite) →
    NumberWritten tells location old write new → IsOneMove old (made_at location old write.width (write.value % 2 ^ 32)) new
of_write tells told (Inside area start) old new write h = of_area tells told area start old new write h
of_write tells told (Beyond area address) old new write h = by_state old new _ h.1 refl
of_write tells told (Nowhere address) old new write h = by_state old new _ h.1 refl

area_store : (area : Area) (start : ℕ) (old : MachineState) (at : ℕ) (bytes : List ℕ) → (bytes_stored (Inside area start) old at bytes).1.device.store ≡ old.device.store
area_store Device start old at bytes = refl
area_store Scratch start old at bytes = refl
area_store LogRange start old at bytes = refl
area_store Handover start old at bytes = refl
area_store BootErrors start old at bytes = refl
area_store Ports start old at bytes = refl

pub stored_store : (location : Location) (old : MachineState) (at : ℕ) (bytes : List ℕ) → (bytes_stored location old at bytes).1.device.store ≡ old.device.store
stored_store (Inside area start) old at bytes = area_store area start old at bytes
stored_store (Beyond area address) old at bytes = refl
stored_store (Nowhere address) old at bytes = refl

copied_to_store : (target : Location) (old : MachineState) (bytes : List ℕ) → (copied_to target old bytes).device.store ≡ old.device.store
copied_to_store (Inside area start) old bytes = refl
copied_to_store (Beyond area address) old bytes = refl
copied_to_store (Nowhere address) old bytes = refl

pub copied_store : (first second : Option SpaceFault) (source target : Location) (old : MachineState) (n : ℕ) → (copied first second source target old n).1.device.store ≡ old.device.store
copied_store (Some fault) second source target old n = refl
copied_store None (Some fault) source target old n = refl
copied_store None None source target old n = copied_to_store target old (copied_from source old n)

-- each access of the machine
pub one_access : (tells : Type 0) (told : tells) (old : MachineState) (call : Call) (new : MachineState) → Allows tells old call new → IsOneMove old (made_by_event old (Accessed call)) new
one_access tells told old (Read at width answer) new h = by_state old new _ h.1 refl
one_access tells told old (Write at width value answer) new h = of_write tells told (location_of old at (bits width / 8)) old new (write_of (address_of at) width value answer) h
one_access tells told old (Wait micros) new h = by_state old new _ h refl
one_access tells told old (Copy from to n answer) new h = by_state old new _ h.1 (copied_store _ _ (location_of old (Memory from) n) (location_of old (Memory to) n) old n)
one_access tells told old (ReadBytes at before after answer) new h = by_state old new _ h.2 refl
one_access tells told old (WriteBytes at bytes answer) new h = by_state old new _ h.1 (stored_store (location_of old (Memory at) (length bytes)) old at bytes)

pub shown_alike : (old new : MachineState) (image : List ℕ) → DividesAlike old.device.store new.device.store → shown_by new image ≡ shown_by old image
shown_alike old new image equivalent = ap (λ (l : Layout). records_in l image) equivalent.layout

on_true : (b : Bool) (P Q : Type 0) → b ≡ true → P → MatchBool b P Q
on_true true P Q e p = p
on_true false P Q e p = absurd (cc)

on_false : (b : Bool) (P Q : Type 0) → b ≡ false → Q → MatchBool b P Q
on_false true P Q e q = absurd (cc)
on_false false P Q e q = q

-- whether so many changes are made by a step
pub by_step : (changes s : ℕ) (P Q : Type 0) → (changes ≤ s → P) → (s < changes → Q) → MatchBool (nat_le changes s) P Q
by_step changes s P Q made not_yet = elim (cases_lt s changes) [
  | inl before ↦ on_false (nat_le changes s) P Q (lt-leb changes s before) (not_yet before)
  | inr after ↦ on_true (nat_le changes s) P Q (le-leb changes s after) (made after)
]

-- moves of any kind, each of which is one move
module _ {E : Type 0} (moves : MachineState → E → MachineState → Type 0) (unfaulted : MachineState → E → Stored)
    (one_move : (old : MachineState) (event : E) (new : MachineState) → moves old event new → IsOneMove old (unfaulted old event) new) where
  trail_goes_on : (first : MachineState) (trail : List (Move E MachineState)) (last : MachineState) → Trail moves first trail last → GoesOn (length trail) first last
  trail_goes_on first [] last is = subst (λ (s : MachineState). GoesOn 0 first s) (sym is) (record {
    later = IsLater-refl (told_of first);
    equivalent = DividesAlike-refl first.device.store;
    few = omega arith;
    never_falls = omega arith;
  })
  trail_goes_on first (move ∷ rest) last is =
      let one = one_move first move.event move.left is.0 in
      let more = trail_goes_on move.left rest last is.1 in
      record {
        later = IsLater-then (told_of first) (told_of move.left) (told_of last) one.leaves.later more.later;
        equivalent = equivalent_then first.device.store move.left.device.store last.device.store one.equivalent more.equivalent;
        few = let a : move.left.device.store.flash.steps ≤ first.device.store.flash.steps + 1 = one.few in
            let b : last.device.store.flash.steps ≤ move.left.device.store.flash.steps + length rest = more.few in omega arith;
        never_falls = let a : first.device.store.flash.faults ≤ move.left.device.store.flash.faults = one.never_falls in
            let b : move.left.device.store.flash.faults ≤ last.device.store.flash.faults = more.never_falls in omega arith;
      }

  -- the whole induction
  trail_shows : (first : MachineState) (trail : List (Move E MachineState)) (last : MachineState) → Trail moves first trail last →
      (s : ℕ) (image : List ℕ) → changes_of first ≤ s → CrashImage (told_of last) s image → Shows unfaulted s first trail (shown_by first image)
  trail_shows first [] last is s image from crash =
      ap (shown_by first) (CrashImage-now (told_of first) s image from (subst (λ (m : MachineState). CrashImage (told_of m) s image) is crash))
  trail_shows first (move ∷ rest) last is s image from crash =
      let one = one_move first move.event move.left is.0 in
      let more = trail_goes_on move.left rest last is.1 in
      by_step (changes_of move.left) s _ _
      (λ after. subst (λ (m : Stored). Shows unfaulted s move.left rest m) (shown_alike first move.left image one.equivalent) (trail_shows move.left rest last is.1 s image after crash))
      (λ before. elim (one.leaves.each s image from (CrashImage-earlier (told_of move.left) (told_of last) s image more.later before crash)) [
        | inl old ↦ inl old
        | inr made ↦ inr (inr made)
      ])

  trail_ends : (first : MachineState) (trail : List (Move E MachineState)) (last : MachineState) → Trail moves first trail last → ShowsEach (told_of last) first trail
  trail_ends first [] last is = tt
  trail_ends first (move ∷ rest) last is =
      let one = one_move first move.event move.left is.0 in
      let more = trail_goes_on move.left rest last is.1 in
      let image : image_at (told_of last) (changes_of move.left) ≡ (told_of move.left).image =
      image_at-later (told_of move.left) (told_of last) (changes_of move.left) more.later (omega arith) ∙ image_at-now (told_of move.left) (changes_of move.left) (omega arith) in (
        past_grows (told_of first) (told_of move.left) one.leaves.later,
        ap (shown_by first) image ∙ sym (shown_alike first move.left (told_of move.left).image one.equivalent),
        trail_ends move.left rest last is.1,
      )

pub trail_is_shown : {E : Type 0} (moves : MachineState → E → MachineState → Type 0) (unfaulted : MachineState → E → Stored) →
    ((old : MachineState) (event : E) (new : MachineState) → moves old event new → IsOneMove old (unfaulted old event) new) →
    (first last : MachineState) (trail : List (Move E MachineState)) → Trail moves first trail last → IsShown unfaulted first trail last
trail_is_shown moves unfaulted one_move first last trail is = record {
  goes_on = trail_goes_on moves unfaulted one_move first trail last is;
  ends = trail_ends moves unfaulted one_move first trail last is;
  crash = trail_shows moves unfaulted one_move first trail last is;
}

pub accesses_are_shown : (tells : Type 0) (told : tells) (first last : MachineState) (trail : List (Move Call MachineState)) → Trail (Allows tells) first trail last →
    IsShown (λ state call. made_by_event state (Accessed call)) first trail last
accesses_are_shown tells told first last trail is = trail_is_shown (Allows tells) (λ state call. made_by_event state (Accessed call)) (one_access tells told) first last trail is

pub reached_is_shown : (tells : Type 0) (told : tells) (first last : MachineState) → Reaches (Allows tells) first last →
    (trail : List (Move Call MachineState)) × Trail (Allows tells) first trail last × IsShown (λ state call. made_by_event state (Accessed call)) first trail last
reached_is_shown tells told first last reaches =
    let found = trail_of (Allows tells) first last reaches in (found.0, found.1, accesses_are_shown tells told first last found.0 found.1)

pub reached_is_machine : (tells : Type 0) (first last : MachineState) → Reaches (Allows tells) first last → IsMachine first → IsMachine last
reached_is_machine tells first last Stays machine = machine
reached_is_machine tells first last (Goes mid call end more allowed) machine = kept_allowed tells mid end call allowed (reached_is_machine tells first mid more machine)

-- a store that only looks, after what was pending was given up, keeps the records, by at most one change
restart_moves : (tells : Type 0) (told : tells) (before : StoreView) (memory : MemoryState) (old : MachineState) (result : Result ℕ BootError) (new : MachineState) →
    before.layout ≡ old.device.store.layout → before.flash.told ≡ told_of old → before.flash.steps ≡ old.device.store.flash.steps → before.flash.faults ≡ old.device.store.flash.faults →
    before.flash.size ≡ old.device.store.flash.size → before.flash.sector_size ≡ old.device.store.flash.sector_size →
    Restarts tells before memory old result new → IsOneMove old (records_of old) new
restart_moves tells told before memory old result new layout flash steps faults size sector restarts =
    let kept : Leaves (told_of old) (told_of new) (λ image. shown_by old image ≡ records_of old) =
    subst (λ (t : Told). Leaves t (told_of new) (λ image. shown_by old image ≡ records_in old.device.store.layout t.image)) flash
    (subst (λ (l : Layout). Leaves before.flash.told (told_of new) (λ image. records_in l image ≡ records_in l before.flash.told.image)) layout (restarts.leaves.kept told)) in
    let equivalent : DividesAlike old.device.store new.device.store = record {
      layout = restarts.leaves.equivalent.layout ∙ layout;
      size = restarts.leaves.equivalent.size ∙ size;
      sector_size = restarts.leaves.equivalent.sector_size ∙ sector;
    } in
    let few : new.device.store.flash.steps ≤ before.flash.steps + 1 = restarts.leaves.few told in
    let rise : before.flash.faults ≤ new.device.store.flash.faults = faults_rise before.flash.faults new.device.store.flash.faults (store_answer result) restarts.leaves.cause in
    record {
      leaves = Leaves-weaker (told_of old) (told_of new) _ _ kept (λ image same. inl same);
      made_is = λ _. shown_alike old new (told_of new).image equivalent ∙ Leaves-exit (told_of old) (told_of new) (λ image. shown_by old image ≡ records_of old) kept;
      few = omega arith;
      never_falls = omega arith;
      equivalent = equivalent;
    }

submit_moves : (old : MachineState) (block : List ℕ) (result : Result ℕ SubmitError) (new : MachineState) → Submits old block result new → IsOneMove old (records_of old) new
submit_moves old block (Ok n) new submits = by_state old new _ submits.added refl
submit_moves old block (Err error) new submits = by_state old new _ submits.refused refl

one_event : (tells : Type 0) (told : tells) (old : MachineState) (event : Event) (new : MachineState) → Happens tells old event new → IsOneMove old (made_by_event old event) new
one_event tells told old (Accessed call) new h = one_access tells told old call new h
one_event tells told old (Warmed result) new h = restart_moves tells told _ _ old result new refl refl refl refl refl refl h
one_event tells told old (Powered result) new h = restart_moves tells told _ _ old result new refl refl refl refl refl refl h.restarts
one_event tells told old (Submitted block result) new h = submit_moves old block result new h
one_event tells told old (Turned side event) new h = still old new (ap (λ (d : DeviceState). d.store) h.device)
one_event tells told old (Laid block result) new h = by_state old new _ h.others refl

pub events_are_shown : (tells : Type 0) (told : tells) (first last : MachineState) (trail : List (Move Event MachineState)) → Trail (Happens tells) first trail last →
    IsShown made_by_event first trail last
events_are_shown tells told first last trail is = trail_is_shown (Happens tells) made_by_event (one_event tells told) first last trail is

-- what happens, and then what happens
pub happens_then : (tells : Type 0) (first mid last : MachineState) (one two : List (Move Event MachineState)) → Trail (Happens tells) first one mid → Trail (Happens tells) mid two last →
    Trail (Happens tells) first (one ++ two) last
happens_then tells first mid last [] two is more = subst (λ (s : MachineState). Trail (Happens tells) s two last) is more
happens_then tells first mid last (move ∷ rest) two is more = (is.0, happens_then tells move.left mid last rest two is.1 more)

pub reached_happens : (tells : Type 0) (first last : MachineState) → Reaches (Allows tells) first last → (trail : List (Move Event MachineState)) × Trail (Happens tells) first trail last
reached_happens tells first last Stays = ([], refl)
reached_happens tells first last (Goes mid call end more allowed) =
    let before = reached_happens tells first mid more in
    (before.0 ++ (record { event = Accessed call; left = end }) ∷ [], Trail-push (Happens tells) first mid before.0 (Accessed call) end before.1 allowed)
