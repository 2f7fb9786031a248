-- The laws.
use Rattle.std.proofs.Common.{◌≡◌, ◌∙◌, ℕ, List, drop, sym, ap, subst, arith}
use Rattle.base_model.specs.Flash.{CrashImage}
use Rattle.base_model.specs.Layout.{Layout}
use Rattle.base_model.proofs.CrashLemmas.{Leaves-exit}
use Rattle.flash_model.specs.declared.geometry.Geometry.{Geometry}
use Rattle.flash_model.specs.Layouts.{layout_of}
use Rattle.erst_port.specs.States.{first_state}
use Rattle.record_model.specs.Records.{Stored}
use Rattle.record_store.specs.Store.{records_of as records_in}
use Rattle.apei_space.specs.Accesses.{Trail}
use Rattle.image_survey.specs.Headers.{IsMedium}
use Rattle.erst_port.specs.PortState.{flash_of, IsMade}
use Rattle.erst_port.proofs.PartLemmas.{held_now}
use Rattle.port_laws.specs.Beginnings.{Begins}
use Rattle.port_laws.specs.Calls.{Embedded, Happens, IsInStep, IsCounted}
use Rattle.port_laws.specs.Commands.{records_of}
use Rattle.port_laws.specs.Losses.{IsLeft, SameFront}
use Rattle.port_laws.specs.Prefixes.{Calls, ShowsPrefix, CountsNoFault, ShowsFirst}
use Rattle.port_laws.proofs.CallLemmas.{told_of}
use Rattle.port_laws.proofs.Sectors.{medium_stays}
use Rattle.port_laws.proofs.StepLemmas.{front_then, left_is, left_front}
use Rattle.port_laws.proofs.TrailLemmas.{goes_on, steps_on, first_step, lost_shows, is_history}
use Rattle.port_laws.proofs.PlayLemmas.{shows_first}

pub keeps_step : (origin : ℕ) (geometry : Geometry) (first : Embedded) (calls : Calls) (last : Embedded) → Begins origin geometry first → Trail Happens first calls last → IsInStep last
keeps_step origin geometry first calls last begins is = (steps_on first calls last is (first_step origin geometry first begins)).step

last_origin : (origin : ℕ) (geometry : Geometry) (first : Embedded) (calls : Calls) (last : Embedded) → Begins origin geometry first → Trail Happens first calls last → last.port.origin ≡ origin
last_origin origin geometry first calls last begins is = (goes_on first calls last is).origin ∙ begins.origin_is

pub holds_all : (origin : ℕ) (geometry : Geometry) (first : Embedded) (calls : Calls) (last : Embedded) → Begins origin geometry first → Trail Happens first calls last
    → IsCounted last.port → IsMade last.port → drop origin last.medium ≡ (flash_of last.port).told.image
holds_all origin geometry first calls last begins is counted made =
    let step = keeps_step origin geometry first calls last begins is in
    let origin_is = last_origin origin geometry first calls last begins is in
    ap (λ (k : ℕ). drop k last.medium) (sym origin_is) ∙ step.image ∙ held_now (told_of last.port) last.port.made (omega (arith, counted, made))

pub keeps_front : (origin : ℕ) (geometry : Geometry) (first : Embedded) (calls : Calls) (last : Embedded) → Begins origin geometry first → Trail Happens first calls last
    → SameFront origin first.medium last.medium
keeps_front origin geometry first calls last begins is =
    subst (λ (k : ℕ). SameFront k first.medium last.medium) begins.origin_is (steps_on first calls last is (first_step origin geometry first begins)).front

pub loss_is : (origin : ℕ) (geometry : Geometry) (first : Embedded) (calls : Calls) (last : Embedded) (left : List ℕ) → Begins origin geometry first → Trail Happens first calls last
    → IsLeft last left → CrashImage (flash_of last.port).told last.port.made.changes (drop origin left)
loss_is origin geometry first calls last left begins is lost =
    subst (λ (k : ℕ). CrashImage (flash_of last.port).told last.port.made.changes (drop k left)) (last_origin origin geometry first calls last begins is)
    (left_is last left (keeps_step origin geometry first calls last begins is) lost)

pub loss_front : (origin : ℕ) (geometry : Geometry) (first : Embedded) (calls : Calls) (last : Embedded) (left : List ℕ) → Begins origin geometry first → Trail Happens first calls last
    → IsLeft last left → SameFront origin first.medium left
loss_front origin geometry first calls last left begins is lost =
    front_then origin first.medium last.medium left (keeps_front origin geometry first calls last begins is)
    (subst (λ (k : ℕ). SameFront k last.medium left) (last_origin origin geometry first calls last begins is) (left_front last left lost))

pub loss_medium : (geometry : Geometry) (first : Embedded) (calls : Calls) (last : Embedded) (left : List ℕ) → Begins geometry.sector geometry first → Trail Happens first calls last
    → IsMedium geometry first.medium → IsLeft last left → IsMedium geometry left
loss_medium geometry first calls last left begins is medium lost =
    medium_stays geometry first.medium left (loss_front geometry.sector geometry first calls last left begins is lost) medium

pub loss_shows : (origin : ℕ) (geometry : Geometry) (first : Embedded) (calls : Calls) (last : Embedded) (left : List ℕ) → Begins origin geometry first → Trail Happens first calls last
    → IsLeft last left → ShowsPrefix first calls (records_in (layout_of geometry) (drop origin left))
loss_shows origin geometry first calls last left begins is lost =
    lost_shows origin geometry first calls last (drop origin left) begins is (loss_is origin geometry first calls last left begins is lost)

pub found_are : (origin : ℕ) (geometry : Geometry) (next : Embedded) → Begins origin geometry next → records_of next.port ≡ records_in (layout_of geometry) (drop origin next.medium)
found_are origin geometry next begins =
    ap (λ (l : Layout). records_in l (told_of next.port).image) begins.layout
    ∙ Leaves-exit (first_state (drop origin next.medium) geometry.sector).told (told_of next.port) _ begins.kept

pub loss_found : (origin : ℕ) (geometry : Geometry) (first : Embedded) (calls : Calls) (last next : Embedded) → Begins origin geometry first → Trail Happens first calls last
    → IsLeft last next.medium → Begins origin geometry next → ShowsPrefix first calls (records_of next.port)
loss_found origin geometry first calls last next begins is lost again =
    subst (λ (m : Stored). ShowsPrefix first calls m) (sym (found_are origin geometry next again)) (loss_shows origin geometry first calls last next.medium begins is lost)

pub loss_first : (origin : ℕ) (geometry : Geometry) (first : Embedded) (calls : Calls) (last next : Embedded) → Begins origin geometry first →
    Trail Happens first calls last → CountsNoFault first calls
    → IsLeft last next.medium → Begins origin geometry next → ShowsFirst first calls (records_of next.port)
loss_first origin geometry first calls last next begins is no_fault lost again =
    shows_first first calls (records_of next.port) (is_history first calls last is) no_fault (loss_found origin geometry first calls last next begins is lost again)
