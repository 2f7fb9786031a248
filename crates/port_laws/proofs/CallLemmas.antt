-- One call: what it makes of the flash and of the records.
use Rattle.std.proofs.Common.{◌≡◌, ◌∙◌, ◌⊎◌, ℕ, ◌^◌, ◌%◌, ◌==◌, Bool, true, false, if◌then◌else◌, List, length, Option, Some, None, Result, Ok, Err, inl, inr, refl, sym, ap, subst}
use Rattle.base_model.specs.Faults.{Rose}
use Rattle.base_model.specs.Flash.{Told, Leaves}
use Rattle.base_model.specs.Layout.{Layout}
use Rattle.base_model.proofs.CrashLemmas.{Leaves-none, Leaves-weaker, Leaves-exit}
use Rattle.record_model.specs.Records.{Stored}
use Rattle.record_model.specs.RecordMap.{Command, Write, made_by}
use Rattle.record_store.specs.Store.{StoreView, Pending, Idle, Writing, Clearing, map_after, changes_before_gate, records_of as records_in}
use Rattle.apei_tables.specs.declared.widths.Width.{Width}
use Rattle.erst_entries.specs.Actions.{action_of}
use Rattle.erst_device.specs.DeviceState.{DeviceState, records}
use Rattle.erst_device.specs.Effects.{Effect, makes_change, made_by_action}
use Rattle.erst_port.specs.declared.errors.BadAddresses.{BadAddresses}
use Rattle.erst_port.specs.declared.errors.PortError.{PortError}
use Rattle.erst_port.specs.declared.windows.Addresses.{Addresses}
use Rattle.erst_port.specs.Changes.{NotesMade, noted}
use Rattle.erst_port.specs.declared.parts.Made.{Made}
use Rattle.erst_port.specs.Moves.{Moves}
use Rattle.erst_port.specs.declared.windows.Location.{Location}
use Rattle.erst_port.specs.declared.windows.Location.TheVariants.{Action, Value, LowHalf, HighHalf, Bytes, Nowhere}
use Rattle.erst_port.specs.Places.{range_location, location_of}
use Rattle.erst_port.specs.PortState.{PortState, flash_of}
use Rattle.erst_port.specs.Accesses.{NumberWritten, ActionWritten, bytes_stored, Resets}
use Rattle.port_laws.specs.Calls.{Call, Writes, Puts, Restarts, MovesTo, Looks, Makes, Does}
use Rattle.port_laws.specs.Commands.{records_of, completed_by, completed_at, completed, made_with}

abbrev pub told_of : PortState → Told
told_of port = (flash_of port).told

-- the records that an image of the port's flash shows
abbrev pub shown_by : PortState → List ℕ → Stored
shown_by port image = records_in port.device.store.layout image

-- the command that an action completes
abbrev completed_in : DeviceState → (code : ℕ) → Option Command
completed_in device code = if makes_change (action_of code) device then completed_by device.store.layout device.store.pending else None

-- a call that completes this command, or none
pub record IsOneCall (old : PortState) (command : Option Command) (new : PortState) : Type 0 where
  pub leaves : Leaves (told_of old) (told_of new) (λ image. (shown_by old image ≡ records_of old) ⊎ (shown_by old image ≡ made_with command (records_of old)))
  pub made_is : (Rose (flash_of old).faults (flash_of new).faults → ⊥) → records_of new ≡ made_with command (records_of old)
  pub layout : new.device.store.layout ≡ old.device.store.layout
  pub origin : new.origin ≡ old.origin

-- the store is as it was
by_store : (old new : PortState) → new.device.store ≡ old.device.store → new.origin ≡ old.origin → IsOneCall old None new
by_store old new store origin = record {
  leaves = subst (λ (s : StoreView). Leaves (told_of old) s.flash.told (λ image. (shown_by old image ≡ records_of old) ⊎ (shown_by old image ≡ records_of old))) (sym store)
      (Leaves-none (told_of old) _ (inl refl));
  made_is = λ _. ap (λ (s : StoreView). records_in s.layout s.flash.told.image) store;
  layout = ap (λ (s : StoreView). s.layout) store;
  origin = origin;
}

by_port : (old new same : PortState) → new ≡ same → same.device.store ≡ old.device.store → same.origin ≡ old.origin → IsOneCall old None new
by_port old new same is store origin = by_store old new (ap (λ (p : PortState). p.device.store) is ∙ store) (ap (λ (p : PortState). p.origin) is ∙ origin)

-- the map that the next change makes is that of the command that it completes
made_if : (b : Bool) (command : Command) (stored : Stored) → (if b then made_by command stored else stored) ≡ made_with (if b then Some command else None) stored
made_if true command stored = refl
made_if false command stored = refl

map_after_is : (layout : Layout) (pending : Pending) (stored : Stored) → map_after layout pending stored ≡ made_with (completed_by layout pending) stored
map_after_is layout Idle stored = refl
map_after_is layout (Writing id bytes slots replaces made) stored = made_if (made == changes_before_gate layout bytes) (Write id bytes) stored
map_after_is layout (Clearing id) stored = refl

made_where : (b : Bool) (command : Option Command) (made stored : Stored) → made ≡ made_with command stored
    → (if b then made else stored) ≡ made_with (if b then command else None) stored
made_where true command made stored is = is
made_where false command made stored is = refl

made_is_completed : (device : DeviceState) (code : ℕ) → made_by_action (action_of code) device ≡ made_with (completed_in device code) (records device)
made_is_completed device code =
    made_where (makes_change (action_of code) device) (completed_by device.store.layout device.store.pending) _ (records device)
    (map_after_is device.store.layout device.store.pending (records device))

-- an action
by_effect : (old new : PortState) (range : List ℕ) (code : ℕ) → Effect (Unit {0}) old.device range (action_of code) new.device → new.origin ≡ old.origin
    → IsOneCall old (completed_in old.device code) new
by_effect old new range code effect origin =
    let is = made_is_completed old.device code in
    record {
      leaves = subst (λ (m : Stored). Leaves (told_of old) (told_of new) (λ image. (shown_by old image ≡ records_of old) ⊎ (shown_by old image ≡ m))) is (effect.crash tt);
      made_is = λ still. effect.made tt still ∙ is;
      layout = effect.equivalent.layout;
      origin = origin;
    }

by_action : (old new : PortState) (value : ℕ) (answer : Result (Unit {0}) PortError) → ActionWritten old (value % 2 ^ 32) answer new
    → IsOneCall old (completed_at Action old value answer) new × (new.made ≡ old.made)
by_action old new value answer (inl refused) =
    subst (λ (a : Result (Unit {0}) PortError). IsOneCall old (completed_at Action old value a) new × (new.made ≡ old.made)) (sym refused.0)
    (by_port old new old refused.2 refl refl, ap (λ (p : PortState). p.made) refused.2)
by_action old new value answer (inr taken) =
    subst (λ (a : Result (Unit {0}) PortError). IsOneCall old (completed_at Action old value a) new × (new.made ≡ old.made)) (sym taken.0)
    (by_effect old new old.range (value % 2 ^ 32) taken.2.acted.effect (ap (λ (p : PortState). p.origin) taken.2.others), ap (λ (p : PortState). p.made) taken.2.others)

-- a write of a number
by_write : (location : Location) (old new : PortState) (width : Width) (value : ℕ) (answer : Result (Unit {0}) PortError) → NumberWritten location old width value answer new
    → IsOneCall old (completed_at location old value answer) new × (new.made ≡ old.made)
by_write Action old new width value answer h = by_action old new value answer h
by_write Value old new width value answer h = (by_port old new _ h.1 refl refl, ap (λ (p : PortState). p.made) h.1)
by_write LowHalf old new width value answer h = (by_port old new _ h.1 refl refl, ap (λ (p : PortState). p.made) h.1)
by_write HighHalf old new width value answer h = (by_port old new _ h.1 refl refl, ap (λ (p : PortState). p.made) h.1)
by_write (Bytes start) old new width value answer h = (by_port old new _ h.1 refl refl, ap (λ (p : PortState). p.made) h.1)
by_write Nowhere old new width value answer h = (by_port old new _ h.1 refl refl, ap (λ (p : PortState). p.made) h.1)

-- bytes of the log range
pub stored_store : (location : Location) (old : PortState) (bytes : List ℕ) → (bytes_stored location old bytes).1.device.store ≡ old.device.store
stored_store Action old bytes = refl
stored_store Value old bytes = refl
stored_store LowHalf old bytes = refl
stored_store HighHalf old bytes = refl
stored_store (Bytes start) old bytes = refl
stored_store Nowhere old bytes = refl

stored_origin : (location : Location) (old : PortState) (bytes : List ℕ) → (bytes_stored location old bytes).1.origin ≡ old.origin
stored_origin Action old bytes = refl
stored_origin Value old bytes = refl
stored_origin LowHalf old bytes = refl
stored_origin HighHalf old bytes = refl
stored_origin (Bytes start) old bytes = refl
stored_origin Nowhere old bytes = refl

stored_made : (location : Location) (old : PortState) (bytes : List ℕ) → (bytes_stored location old bytes).1.made ≡ old.made
stored_made Action old bytes = refl
stored_made Value old bytes = refl
stored_made LowHalf old bytes = refl
stored_made HighHalf old bytes = refl
stored_made (Bytes start) old bytes = refl
stored_made Nowhere old bytes = refl

-- a restart
by_reset : (old new : PortState) (answer : Result (Unit {0}) PortError) → Resets old answer new → IsOneCall old None new × (new.made ≡ old.made)
by_reset old new answer (inl refused) = (by_port old new old refused.2 refl refl, ap (λ (p : PortState). p.made) refused.2)
by_reset old new answer (inr done) =
    let resets = done.1.2 in
    let kept : Leaves (told_of old) (told_of new) (λ image. shown_by old image ≡ records_of old) = resets.leaves.kept tt in (
      record {
        leaves = Leaves-weaker (told_of old) (told_of new) _ _ kept (λ image same. inl same);
        made_is = λ _. ap (λ (l : Layout). records_in l (told_of new).image) resets.leaves.equivalent.layout ∙ Leaves-exit (told_of old) (told_of new) _ kept;
        layout = resets.leaves.equivalent.layout;
        origin = ap (λ (p : PortState). p.origin) resets.others;
      },
      ap (λ (p : PortState). p.made) resets.others,
    )

-- other addresses
by_move : (old : PortState) (addresses : Addresses) (answer : Result (Unit {0}) BadAddresses) (new : PortState) → Moves old addresses answer new
    → IsOneCall old None new × (new.made ≡ old.made)
by_move old addresses answer new (inl refused) = (by_port old new old refused.2 refl refl, ap (λ (p : PortState). p.made) refused.2)
by_move old addresses answer new (inr moved) = (by_port old new _ moved.2 refl refl, ap (λ (p : PortState). p.made) moved.2)

-- one more change is made
pub noted_made : (old new : PortState) → NotesMade old (Ok tt) new → new ≡ noted old
noted_made old new (inl none) = absurd (let other : Ok tt ≡ Err (record {}) = none.1 in cc)
noted_made old new (inr made) = made.2

-- what the medium has made after a call
abbrev pub made_after : PortState → Call → Made
made_after old (Makes kind at bytes) = (noted old).made
made_after old call = old.made

pub one_call : (old : PortState) (call : Call) (new : PortState) → Does old call new → IsOneCall old (completed old call) new × (new.made ≡ made_after old call)
one_call old (Writes window offset width value answer) new h = by_write (location_of window (length old.range) offset width) old new width value answer h
one_call old (Puts offset bytes answer) new h =
    let location = range_location (length old.range) offset (length bytes) in
    (by_port old new _ h.1 (stored_store location old bytes) (stored_origin location old bytes), ap (λ (p : PortState). p.made) h.1 ∙ stored_made location old bytes)
one_call old (Restarts answer) new h = by_reset old new answer h
one_call old (MovesTo addresses answer) new h = by_move old addresses answer new h
one_call old Looks new h = (by_port old new old h refl refl, ap (λ (p : PortState). p.made) h)
one_call old (Makes kind at bytes) new h =
    let made = noted_made old new h.1 in
    (by_port old new _ made refl refl, ap (λ (p : PortState). p.made) made)
