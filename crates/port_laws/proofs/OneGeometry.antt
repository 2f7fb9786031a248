-- A medium has one geometry: a port that was opened on it is one of that geometry.
use Rattle.std.proofs.Common.{◌≡◌, ◌≢◌, ◌∙◌, ℕ, ◌-◌, List, drop, Ok, sym, ap, subst, arith}
use Rattle.base_model.specs.Bytes.{zeros}
use Rattle.base_model.specs.Flash.{Leaves}
use Rattle.base_model.specs.Layout.{Layout, reach_of}
use Rattle.flash_model.specs.declared.geometry.Geometry.{Geometry}
use Rattle.flash_model.specs.Layouts.{layout_of}
use Rattle.record_model.specs.Records.{second_copies}
use Rattle.record_store.specs.Store.{IsFlashOf, records_of}
use Rattle.image_survey.specs.Headers.{IsMedium}
use Rattle.image_survey.proofs.HeaderLemmas.{has_numbers}
use Rattle.erst_port.specs.declared.windows.Addresses.{Addresses}
use Rattle.erst_port.specs.States.{first_state}
use Rattle.erst_port.specs.Failures.{Fails}
use Rattle.erst_port.specs.Openings.{OpenedAs, OpenedOn}
use Rattle.erst_port.specs.PortState.{PortState, flash_of}
use Rattle.erst_port.specs.Loaded.{LoadedBy}
use Rattle.erst_port.proofs.SavedLemmas.{same_layout}
use Rattle.port_laws.specs.Calls.{Embedded}
use Rattle.port_laws.specs.Lives.{Starts, Opened, Loaded, Failed}

module _ (one other : Geometry) (medium : List ℕ) (is_one : IsMedium one medium) (is_other : IsMedium other medium) where
  sector : other.sector ≡ one.sector
  sector = sym (has_numbers other medium is_other.has.header).sector ∙ (has_numbers one medium is_one.has.header).sector

  per_slot : other.per_slot ≡ one.per_slot
  per_slot = sym (has_numbers other medium is_other.has.header).per_slot ∙ (has_numbers one medium is_one.has.header).per_slot

  slots : other.slots ≡ one.slots
  slots = sym (has_numbers other medium is_other.has.header).slots ∙ (has_numbers one medium is_one.has.header).slots

  layout : layout_of other ≡ layout_of one
  layout = same_layout (layout_of other) (layout_of one) sector per_slot slots

  slot_size : other.slot_size ≡ one.slot_size
  slot_size = ap (λ (l : Layout). l.slot_size) layout

  opened_as : (addresses : Addresses) (port : PortState) → OpenedAs other.sector other (drop other.sector medium) addresses port
      → OpenedAs one.sector one (drop one.sector medium) addresses port
  opened_as addresses port opened = record {
    store = record { layout = opened.store.layout ∙ layout; ready = opened.store.ready };
    first = opened.first;
    range = opened.range ∙ ap (λ (n : ℕ). zeros (reach_of (n - 64))) slot_size;
    table = opened.table;
    erst = opened.erst;
    addresses_are = opened.addresses_are;
    origin_is = opened.origin_is ∙ sector;
    made = opened.made;
    settled = opened.settled;
    flash = subst (λ (n : ℕ). IsFlashOf (first_state (drop n medium) n) (flash_of port)) sector opened.flash;
    steps = opened.steps ∙ ap (λ (n : ℕ). second_copies n other.slots (drop other.sector medium)) slot_size
        ∙ ap (λ (n : ℕ). second_copies one.slot_size n (drop other.sector medium)) slots
        ∙ ap (λ (n : ℕ). second_copies one.slot_size one.slots (drop n medium)) sector;
    kept =
        subst (λ (l : Layout). Leaves (first_state (drop one.sector medium) one.sector).told (flash_of port).told (λ image. records_of l image ≡ records_of l (drop one.sector medium))) layout
        (subst (λ (n : ℕ). Leaves (first_state (drop n medium) n).told (flash_of port).told (λ image. records_of (layout_of other) image ≡ records_of (layout_of other) (drop n medium))) sector
        opened.kept);
  }

pub opened_starts : (geometry : Geometry) (addresses : Addresses) (first : Embedded) → IsMedium geometry first.medium → OpenedOn first.medium addresses first.port
    → Starts geometry.sector geometry first
opened_starts geometry addresses first medium opened =
    Opened addresses (opened_as geometry opened.0 first.medium medium opened.1 addresses first.port opened.2)

pub loaded_starts : (geometry : Geometry) (saved : List ℕ) (first : Embedded) → IsMedium geometry first.medium → LoadedBy (OpenedOn first.medium) saved first.port
    → Starts geometry.sector geometry first
loaded_starts geometry saved first medium loaded =
    let opened = loaded.is_opened in
    Loaded saved (record {
      opened = loaded.opened;
      is_opened = opened_as geometry opened.0 first.medium medium opened.1 _ loaded.opened opened.2;
      resumes = loaded.resumes;
    })

pub failed_starts : (geometry : Geometry) (old : PortState) (first : Embedded) → IsMedium geometry first.medium → old.origin ≡ geometry.sector
    → Fails first.medium old (Ok tt) first.port → Starts geometry.sector geometry first
failed_starts geometry old first medium stands fails =
    let least = geometry.least_sector in
    let headed : old.origin ≢ 0 = λ none. omega (arith, stands, least, none) in
    let own = fails.1.1 in
    Failed old stands (sym (layout geometry fails.1.0 first.medium medium (own.headed headed)) ∙ own.divided) fails
