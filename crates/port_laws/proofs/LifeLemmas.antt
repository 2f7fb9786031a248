-- Runs of ports over one medium.
use Rattle.std.proofs.Common.{◌≡◌, ◌∙◌, ℕ, ◌≤◌, List, [], ◌∷◌, ◌++◌, length, take, drop, refl, sym, ap, subst, arith}
use Rattle.flash_model.specs.declared.geometry.Geometry.{Geometry}
use Rattle.flash_model.specs.Layouts.{layout_of}
use Rattle.record_model.specs.Records.{Stored}
use Rattle.record_model.specs.RecordMap.{Command, made_by}
use Rattle.record_store.specs.Store.{StoreView, KeepsRecordsOf, records_of as records_in}
use Rattle.image_survey.specs.Headers.{IsMedium}
use Rattle.erst_port.specs.States.{first_state}
use Rattle.erst_port.specs.Openings.{OpenedAs}
use Rattle.erst_port.specs.Loaded.{LoadedBy}
use Rattle.erst_port.specs.PortState.{PortState}
use Rattle.port_laws.specs.Beginnings.{Begins}
use Rattle.port_laws.specs.Calls.{Embedded}
use Rattle.port_laws.specs.Commands.{records_of}
use Rattle.port_laws.specs.Lives.{Starts, Opened, Loaded, Failed, Run, IsRun, IsLife, IsKeptOf, AreKept}
use Rattle.port_laws.specs.Losses.{IsLeft, SameFront}
use Rattle.port_laws.specs.Prefixes.{commands_in, played, ShowsFirst}
use Rattle.port_laws.proofs.DurabilityLemmas.{found_are, loss_front, loss_shows}
use Rattle.port_laws.proofs.FailureLemmas.{failure_begins}
use Rattle.port_laws.proofs.FaultLemmas.{no_fault}
use Rattle.port_laws.proofs.PlayLemmas.{shows_first}
use Rattle.port_laws.proofs.Sectors.{medium_stays}
use Rattle.port_laws.proofs.StepLemmas.{front_refl, front_then}
use Rattle.port_laws.proofs.TrailLemmas.{opened_begins, is_history}

-- A load

pub loaded_begins : (origin : ℕ) (geometry : Geometry) (saved : List ℕ) (first : Embedded) → origin ≤ length first.medium
    → LoadedBy (OpenedAs origin geometry (drop origin first.medium)) saved first.port → Begins origin geometry first
loaded_begins origin geometry saved first room loaded =
    let opened = loaded.is_opened in
    let others = loaded.resumes.others in
    let store = loaded.resumes.store in
    record {
      room = room;
      origin_is = ap (λ (p : PortState). p.origin) others ∙ opened.origin_is;
      made = ap (λ (p : PortState). p.made) others ∙ opened.made;
      layout = ap (λ (s : StoreView). s.layout) store ∙ opened.store.layout;
      kept = subst (λ (s : StoreView). KeepsRecordsOf geometry (first_state (drop origin first.medium) geometry.sector) s.flash) (sym store) opened.kept;
    }

starts_begins : (origin : ℕ) (geometry : Geometry) (first : Embedded) → origin ≤ length first.medium → Starts origin geometry first → Begins origin geometry first
starts_begins origin geometry first room (Opened addresses opened) = opened_begins origin geometry addresses first room opened
starts_begins origin geometry first room (Loaded saved loaded) = loaded_begins origin geometry saved first room loaded
starts_begins origin geometry first room (Failed old stands divided fails) =
    subst (λ (k : ℕ). Begins k geometry first) stands (failure_begins geometry old first divided (omega (arith, room, stands)) fails)

pub found : (origin : ℕ) (geometry : Geometry) (next : Embedded) → origin ≤ length next.medium → Starts origin geometry next
    → records_of next.port ≡ records_in (layout_of geometry) (drop origin next.medium)
found origin geometry next room starts = found_are origin geometry next (starts_begins origin geometry next room starts)

-- One run

begins_of : (origin : ℕ) (geometry : Geometry) (medium : List ℕ) (run : Run) → origin ≤ length medium → IsRun origin geometry medium run → Begins origin geometry run.first
begins_of origin geometry medium run room is =
    let size = ap (λ (m : List ℕ). length m) is.over in
    starts_begins origin geometry run.first (omega (arith, room, size)) is.starts

front_of_run : (origin : ℕ) (geometry : Geometry) (medium : List ℕ) (run : Run) (next : List ℕ) → origin ≤ length medium → IsRun origin geometry medium run → IsLeft run.last next
    → SameFront origin medium next
front_of_run origin geometry medium run next room is lost =
    front_then origin medium run.first.medium next (front_refl origin medium run.first.medium is.over)
    (loss_front origin geometry run.first run.calls run.last next (begins_of origin geometry medium run room is) is.happened lost)

kept_of_run : (origin : ℕ) (geometry : Geometry) (medium : List ℕ) (run : Run) (next : List ℕ) → origin ≤ length medium → IsRun origin geometry medium run → IsLeft run.last next
    → (kept : List Command) × IsKeptOf run kept
    × (records_in (layout_of geometry) (drop origin next) ≡ played kept (records_in (layout_of geometry) (drop origin medium)))
kept_of_run origin geometry medium run next room is lost =
    let begins = begins_of origin geometry medium run room is in
    let none = no_fault run.first run.calls run.last is.happened is.fails_last is.countable in
    let history = is_history run.first run.calls run.last is.happened in
    let prefix = loss_shows origin geometry run.first run.calls run.last next begins is.happened lost in
    let shows : ShowsFirst run.first run.calls (records_in (layout_of geometry) (drop origin next)) = shows_first run.first run.calls _ history none prefix in
    let kept = take shows.count (commands_in (length run.calls) run.first run.calls) in
    let over = ap (λ (m : List ℕ). records_in (layout_of geometry) (drop origin m)) is.over in (
      kept,
      record { count = shows.count; within = shows.within; settled = shows.settled; first_ones = refl },
      shows.shown_are ∙ ap (played kept) (found_are origin geometry run.first begins ∙ over),
    )

-- All runs

played_both : (front back : List Command) (stored : Stored) → played (front ++ back) stored ≡ played back (played front stored)
played_both [] back stored = refl
played_both (command ∷ rest) back stored = played_both rest back (made_by command stored)

pub life_keeps : (origin : ℕ) (geometry : Geometry) (medium left : List ℕ) (runs : List Run) → origin ≤ length medium → IsLife origin geometry medium runs left
    → (kept : List Command) × AreKept runs kept × (records_in (layout_of geometry) (drop origin left) ≡ played kept (records_in (layout_of geometry) (drop origin medium)))
life_keeps origin geometry medium left [] room is = ([], refl, ap (λ (m : List ℕ). records_in (layout_of geometry) (drop origin m)) is)
life_keeps origin geometry medium left (run ∷ rest) room is =
    let next = is.1.0 in
    let front = front_of_run origin geometry medium run next room is.0 is.1.1 in
    let one = kept_of_run origin geometry medium run next room is.0 is.1.1 in
    let more = life_keeps origin geometry next left rest (omega (arith, room, front.size)) is.1.2 in (
      one.0 ++ more.0,
      (one.0, more.0, one.1, more.1, refl),
      more.2 ∙ ap (played more.0) one.2 ∙ sym (played_both one.0 more.0 (records_in (layout_of geometry) (drop origin medium))),
    )

pub life_medium : (geometry : Geometry) (medium left : List ℕ) (runs : List Run) → IsMedium geometry medium → IsLife geometry.sector geometry medium runs left
    → IsMedium geometry left
life_medium geometry medium left [] whole is = subst (IsMedium geometry) (sym is) whole
life_medium geometry medium left (run ∷ rest) whole is =
    let room : geometry.sector ≤ length medium = omega (arith, whole.size) in
    let front = front_of_run geometry.sector geometry medium run is.1.0 room is.0 is.1.1 in
    life_medium geometry is.1.0 left rest (medium_stays geometry medium is.1.0 front whole) is.1.2
