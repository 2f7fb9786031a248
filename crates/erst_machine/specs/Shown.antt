-- What power lost at any flash step shows, over whatever happens to a machine.
use Rattle.std.specs.Prelude.{◌≡◌, ℕ, ◌+◌, ◌≤◌, ◌⊎◌, ◌/◌, ◌%◌, ◌^◌, nat_le, MatchBool, List, [], ◌∷◌, length}
use Rattle.base_model.specs.Flash.{Told, CrashImage, IsLater, image_at}
use Rattle.record_model.specs.Records.{Stored}
use Rattle.record_store.specs.Store.{DividesAlike, records_of as records_in}
use Rattle.apei_tables.specs.declared.widths.Width.{Width}
use Rattle.apei_tables.specs.Access.{bits}
use Rattle.apei_space.specs.Calls.{Write}
use Rattle.apei_space.specs.Accesses.{Move}
use Rattle.erst_entries.specs.Actions.{action_of}
use Rattle.erst_device.specs.Effects.{made_by_action}
use Rattle.erst_machine.specs.declared.areas.Area.TheVariants.{Device}
use Rattle.erst_machine.specs.declared.areas.Location.{Location}
use Rattle.erst_machine.specs.declared.areas.Location.TheVariants.{Inside}
use Rattle.erst_machine.specs.declared.areas.Register.TheVariants.{Action}
use Rattle.erst_machine.specs.Areas.{register_at}
use Rattle.erst_machine.specs.MachineState.{MachineState, location_of, records_of, told_of}
use Rattle.erst_machine.specs.Events.{Event, Accessed}

-- the flash changes so far, as the flash tells them
abbrev pub changes_of : MachineState → ℕ
changes_of state = length (told_of state).past

-- the records that an image of the machine's flash shows
abbrev pub shown_by : MachineState → List ℕ → Stored
shown_by state image = records_in state.device.store.layout image

-- power lost at step s shows the records after the moves that had ended by then, or as the next one leaves them, or as that one would
-- leave them without a fault. `unfaulted` is what a move makes of the records where the flash fails nothing
abbrev pub Shows : {E : Type 0} → (MachineState → E → Stored) → ℕ → MachineState → List (Move E MachineState) → Stored → Type 0
Shows unfaulted s state [] shown = shown ≡ records_of state
Shows unfaulted s state (move ∷ rest) shown =
    MatchBool (nat_le (changes_of move.left) s)
    (Shows unfaulted s move.left rest shown)
    ((shown ≡ records_of state) ⊎ ((shown ≡ records_of move.left) ⊎ (shown ≡ unfaulted state move.event)))

-- the records as a write of a number leaves them without a fault: only a code in ACTION makes others
abbrev pub made_at : Location → MachineState → Width → ℕ → Stored
made_at (Inside Device start) state width code =
    elim (register_at start width) [ Action ↦ made_by_action (action_of code) state.device | other ↦ records_of state ]
made_at location state width code = records_of state

-- as whatever happens leaves them: all else keeps the records
abbrev pub made_by_event : MachineState → Event → Stored
made_by_event state (Accessed (Write at width value answer)) = made_at (location_of state at (bits width / 8)) state width (value % 2 ^ 32)
made_by_event state event = records_of state

-- the flash of one state is that of another some changes later, and the store divides it alike
pub record GoesOn (moves : ℕ) (old new : MachineState) : Type 0 where
  pub later : IsLater (told_of old) (told_of new)
  pub equivalent : DividesAlike old.device.store new.device.store
  pub few : new.device.store.flash.steps ≤ old.device.store.flash.steps + moves
  pub never_falls : old.device.store.flash.faults ≤ new.device.store.flash.faults

-- at the step at which each move ended, the image showed the records that it leaves; the moves end one after another
abbrev pub ShowsEach : {E : Type 0} → Told → MachineState → List (Move E MachineState) → Type 0
ShowsEach told state [] = Unit {0}
ShowsEach told state (move ∷ rest) =
    (changes_of state ≤ changes_of move.left) × (shown_by state (image_at told (changes_of move.left)) ≡ records_of move.left) × ShowsEach told move.left rest

-- moves that lead from one state to another: the flash goes on, by at most one change a move, and power lost at any step on the way
-- shows the records after the moves that had ended, or as the next one leaves them, with a fault or without
pub record IsShown {E : Type 0} (unfaulted : MachineState → E → Stored) (first : MachineState) (trail : List (Move E MachineState)) (last : MachineState) : Type 0 where
  pub goes_on : GoesOn (length trail) first last
  pub ends : ShowsEach (told_of last) first trail
  pub crash : (s : ℕ) (image : List ℕ) → changes_of first ≤ s → CrashImage (told_of last) s image → Shows unfaulted s first trail (shown_by first image)
