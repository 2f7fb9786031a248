-- Whatever happens to two machines that are equivalent, over flashes that fail nothing.
use Rattle.std.proofs.Common.{◌≡◌, ℕ, ◌+◌, ◌≤◌, List, [], ◌∷◌, refl, sym, ap, ◌∙◌}
use Rattle.base_model.specs.Flash.{FlashState}
use Rattle.base_model.specs.Layout.{Layout}
use Rattle.base_model.proofs.CrashLemmas.{Leaves-exit}
use Rattle.flash_model.specs.declared.geometry.Geometry.{Geometry}
use Rattle.flash_model.specs.Layouts.{layout_of}
use Rattle.record_model.specs.Records.{second_copies}
use Rattle.record_store.specs.Store.{records_of as records_in}
use Rattle.apei_space.specs.Accesses.{Move, Trail}
use Rattle.erst_machine.specs.MachineState.{MachineState, IsMachine, records_of}
use Rattle.erst_machine.specs.Events.{Event, Happens}
use Rattle.erst_machine.proofs.CrashTrail.{events_are_shown}
use Rattle.erst_machine.proofs.EventLemmas.{events_keep}
use Rattle.erst_commands.specs.Equivalence.{machine_outline, EquivalentMachines, FailedNothing, asked_event, answered_event, BootsFrom}
use Rattle.erst_commands.proofs.Dialogues.{quiet_first, quiet_second}
use Rattle.erst_commands.proofs.EventOutlines.{happens_alike, boots_alike}
use Rattle.erst_commands.proofs.Terms.{asked_by, answered_by}

abbrev faults_of : MachineState → ℕ
faults_of state = state.device.store.flash.faults

abbrev Moves : Type 0
Moves = List (Move Event MachineState)

module _ (tells : Type 0) (told : tells) where
  trail_grows : (first last : MachineState) (trail : Moves) → Trail (Happens tells) first trail last → faults_of first ≤ faults_of last
  trail_grows first last trail is = (events_are_shown tells told first last trail is).goes_on.never_falls

  abbrev one_move : Move Event MachineState → Moves
  one_move move = move ∷ []

  pub trails_alike : (first second : Moves) (one other one_after other_after : MachineState) → EquivalentMachines one other → IsMachine one → asked_by first ≡ asked_by second
      → Trail (Happens tells) one first one_after → FailedNothing one one_after → Trail (Happens tells) other second other_after → FailedNothing other other_after
      → (answered_by first ≡ answered_by second) × EquivalentMachines one_after other_after
  trails_alike [] [] one other one_after other_after equivalent machine asks trail quiet also also_quiet = (refl, ap machine_outline trail ∙ equivalent ∙ sym (ap machine_outline also))
  trails_alike (move ∷ rest) (next ∷ more) one other one_after other_after equivalent machine asks trail quiet also also_quiet =
      let head : asked_event move.event ≡ asked_event next.event = cc in
      let tail : asked_by rest ≡ asked_by more = cc in
      let one_step = trail_grows one move.left (one_move move) (trail.0, refl) in
      let one_rest = trail_grows move.left one_after rest trail.1 in
      let other_step = trail_grows other next.left (one_move next) (also.0, refl) in
      let other_rest = trail_grows next.left other_after more also.1 in
      let both = happens_alike one other equivalent tells told machine move.event next.event move.left next.left head
      trail.0 (quiet_first (faults_of one) (faults_of move.left) (faults_of one_after) one_step one_rest quiet)
      also.0 (quiet_first (faults_of other) (faults_of next.left) (faults_of other_after) other_step other_rest also_quiet) in
      let after = trails_alike rest more move.left next.left one_after other_after both.1 (events_keep tells one move.left (one_move move) (trail.0, refl) machine) tail
      trail.1 (quiet_second (faults_of one) (faults_of move.left) (faults_of one_after) one_step one_rest quiet)
      also.1 (quiet_second (faults_of other) (faults_of next.left) (faults_of other_after) other_step other_rest also_quiet) in
      (ap (λ (e : Event). e ∷ answered_by rest) both.0 ∙ ap (λ (es : List Event). answered_event next.event ∷ es) after.0, after.1)
  trails_alike first second one other one_after other_after equivalent machine asks trail quiet also also_quiet = absurd (cc)

-- the records of a machine that was booted over a flash are the flash's
booted_records : (geometry : Geometry) (flash : FlashState) (machine : MachineState) → BootsFrom geometry flash machine → records_of machine ≡ records_in (layout_of geometry) flash.told.image
booted_records geometry flash machine boots =
    ap (λ (l : Layout). records_in l machine.device.store.flash.told.image) boots.booted.opened.layout
    ∙ Leaves-exit flash.told machine.device.store.flash.told (λ image. records_in (layout_of geometry) image ≡ records_in (layout_of geometry) flash.told.image) boots.kept

pub boots_from_alike : (geometry : Geometry) (first second : FlashState) (one other : MachineState) → records_in (layout_of geometry) first.told.image
    ≡ records_in (layout_of geometry) second.told.image → first.steps ≡ second.steps
    → second_copies geometry.slot_size geometry.slots first.told.image ≡ second_copies geometry.slot_size geometry.slots second.told.image →
    BootsFrom geometry first one → BootsFrom geometry second other → EquivalentMachines one other
boots_from_alike geometry first second one other records steps copies one_boots other_boots =
    boots_alike geometry one other one_boots.booted other_boots.booted (booted_records geometry first one one_boots ∙ records ∙ sym (booted_records geometry second other other_boots))
    (one_boots.steps ∙ ap (λ (n : ℕ). n + second_copies geometry.slot_size geometry.slots first.told.image) steps ∙ ap (λ (n : ℕ). second.steps + n) copies ∙ sym other_boots.steps)
