-- A port that is loaded goes on as the one that was saved.
use Rattle.std.proofs.Common.{◌≡◌, ℕ, ◌≤◌, List, length, drop, Option, Result, Ok, Err, sym, ap, subst, ◌∙◌, arith}
use Rattle.std.specs.Prelude.{IfOk, IfErr}
use Rattle.base_model.specs.Bytes.{number_at}
use Rattle.base_model.specs.Layout.{Layout}
use Rattle.base_model.proofs.CrashLemmas.{image_at-now, Leaves-exit}
use Rattle.flash_model.specs.declared.geometry.Geometry.{Geometry}
use Rattle.flash_model.specs.Layouts.{layout_of}
use Rattle.record_model.specs.Records.{second_copies}
use Rattle.record_store.specs.Store.{StoreView, Pending, Idle, IsReady, IsSettled, records_of, stored, abandoned}
use Rattle.record_store.specs.Answers.{copies_in}
use Rattle.erst_port.specs.States.{first_state}
use Rattle.erst_entries.specs.Layout.{spelling}
use Rattle.erst_device.specs.declared.registers.Operation.{Operation}
use Rattle.erst_device.specs.declared.status.CommandStatus.{CommandStatus}
use Rattle.erst_device.specs.DeviceState.{DeviceState}
use Rattle.erst_port.specs.declared.parts.Made.{Made}
use Rattle.erst_port.specs.declared.windows.Addresses.{Addresses}
use Rattle.erst_port.specs.Parts.{nothing_made}
use Rattle.erst_port.specs.declared.errors.OpenError.{OpenError}
use Rattle.erst_port.specs.declared.errors.LoadError.{LoadError}
use Rattle.erst_port.specs.declared.errors.LoadError.TheVariants as errors
use Rattle.erst_port.specs.PortState.{PortState, flash_of}
use Rattle.erst_port.specs.PortTables.{port_erst}
use Rattle.erst_port.specs.Openings.{OpenedAs, OpenedOn}
use Rattle.erst_port.specs.Saved.{IsSaved}
use Rattle.erst_port.specs.Loaded.{addresses_in, Resumes, GoesOn, AnswersAsSaved, LoadedBy, RefusesResume, RefusesLoad}
use Rattle.erst_port.proofs.SavedLemmas.{HasNumbers, has_numbers, range_behind, same_operation, same_status, same_layout}
use Rattle.record_store.proofs.Words.{doubt_after}

-- the same registers
same_device : (new old : DeviceState) → new.value ≡ old.value → new.operation ≡ old.operation → new.offset ≡ old.offset → new.id ≡ old.id → new.status ≡ old.status
    → new.cursor ≡ old.cursor → new.reading ≡ old.reading → new ≡ record old { store = new.store }
same_device new old value operation offset id status cursor reading =
    ap (λ (n : ℕ). record new { value = n }) value
    ∙ ap (λ (o : Option Operation). record new { value = old.value; operation = o }) operation
    ∙ ap (λ (n : ℕ). record new { value = old.value; operation = old.operation; offset = n }) offset
    ∙ ap (λ (n : ℕ). record old { id = n; status = new.status; cursor = new.cursor; reading = new.reading; store = new.store }) id
    ∙ ap (λ (s : CommandStatus). record old { status = s; cursor = new.cursor; reading = new.reading; store = new.store }) status
    ∙ ap (λ (n : ℕ). record old { cursor = n; reading = new.reading; store = new.store }) cursor
    ∙ ap (λ (r : Option ℕ). record old { reading = r; store = new.store }) reading

-- the same port, but for its origin and what its medium has made
same_port : (new old : PortState) (device : DeviceState) → new.device ≡ device → new.range ≡ old.range → new.table ≡ old.table → new.addresses ≡ old.addresses
    → new ≡ record old { device = device; origin = new.origin; made = new.made }
same_port new old device is range table addresses =
    ap (λ (d : DeviceState). record new { device = d }) is
    ∙ ap (λ (r : List ℕ). record new { device = device; range = r }) range
    ∙ ap (λ (t : List ℕ). record new { device = device; range = old.range; table = t }) table
    ∙ ap (λ (a : Addresses). record old { device = device; addresses = a; origin = new.origin; made = new.made }) addresses

module _ (start : ℕ) (geometry : Geometry) (image saved : List ℕ) (opened new : PortState) (as_opened : OpenedAs start geometry image (addresses_in saved) opened)
    (resumes : Resumes saved opened new) (counted : length (flash_of opened).told.past ≡ (flash_of opened).steps)
    (old : PortState) (is : IsSaved old saved) (same : (flash_of old).told.image ≡ image) where
  numbers : HasNumbers old.device.store.layout old.addresses old.device saved
  numbers = subst (HasNumbers old.device.store.layout old.addresses old.device) (sym is.form) (has_numbers old.device.store.layout old.addresses old.device old.range is.small)

  addresses_are : addresses_in saved ≡ old.addresses
  addresses_are =
      ap (λ (n : ℕ). record { registers = n; range = number_at saved 40 8 }) numbers.registers
      ∙ ap (λ (n : ℕ). record { registers = old.addresses.registers; range = n }) numbers.range

  range_is : new.range ≡ old.range
  range_is = resumes.range ∙ ap (drop 80) is.form ∙ range_behind old.device.store.layout old.addresses old.device old.range

  table_is : new.table ≡ old.table
  table_is =
      ap (λ (p : PortState). p.table) resumes.others ∙ as_opened.table
      ∙ ap (λ (a : Addresses). spelling (port_erst a.registers)) addresses_are ∙ sym is.whole.tells

  device_is : new.device ≡ record old.device { store = new.device.store }
  device_is =
      let held = resumes.registers in
      same_device new.device old.device (held.value ∙ numbers.value)
      (same_operation new.device.operation old.device.operation (held.operation ∙ numbers.operation))
      (held.offset ∙ numbers.offset) (held.id ∙ numbers.id)
      (same_status new.device.status old.device.status (held.status ∙ numbers.status))
      (held.cursor ∙ numbers.cursor) (held.still ∙ sym is.still.no_read)

  port_is : new ≡ record old { device = record old.device { store = new.device.store }; origin = new.origin; made = new.made }
  port_is =
      same_port new old (record old.device { store = new.device.store }) device_is range_is table_is
      (ap (λ (p : PortState). p.addresses) resumes.others ∙ as_opened.addresses_are ∙ addresses_are)

  layout_is : layout_of geometry ≡ old.device.store.layout
  layout_is =
      let of = resumes.layout in
      sym as_opened.store.layout
      ∙ same_layout opened.device.store.layout old.device.store.layout (sym of.sector ∙ numbers.sector) (sym of.per_slot ∙ numbers.per_slot) (sym of.slots ∙ numbers.slots)

  opened_layout : opened.device.store.layout ≡ old.device.store.layout
  opened_layout = as_opened.store.layout ∙ layout_is

  opened_records : stored opened.device.store ≡ stored old.device.store
  opened_records =
      ap (λ (l : Layout). records_of l (flash_of opened).told.image) as_opened.store.layout
      ∙ Leaves-exit (first_state image geometry.sector).told (flash_of opened).told (λ left. records_of (layout_of geometry) left ≡ records_of (layout_of geometry) image) as_opened.kept
      ∙ ap (λ (l : Layout). records_of l image) layout_is
      ∙ ap (records_of old.device.store.layout) (sym same)

  opened_steps : (flash_of opened).steps ≡ copies_in old.device.store
  opened_steps =
      as_opened.steps
      ∙ ap (λ (l : Layout). second_copies l.slot_size l.slots image) layout_is
      ∙ ap (second_copies old.device.store.layout.slot_size old.device.store.layout.slots) (sym same)

  opened_image : copies_in old.device.store ≡ 0 → (flash_of opened).told.image ≡ (flash_of old).told.image
  opened_image none =
      let no_past : length (flash_of opened).told.past ≤ 0 = let steps = opened_steps in omega arith in
      sym (image_at-now (flash_of opened).told 0 no_past) ∙ as_opened.kept.later.image ∙ sym same

  none_made : new.made ≡ nothing_made
  none_made = ap (λ (p : PortState). p.made) resumes.others ∙ as_opened.made

  pub goes_on : GoesOn old new
  goes_on =
      let back : opened.device.store ≡ new.device.store = sym resumes.store in
      let steps_are : (flash_of new).steps ≡ copies_in old.device.store = ap (λ (s : StoreView). s.flash.steps) resumes.store ∙ opened_steps in
      record {
        port = port_is;
        layout = ap (λ (s : StoreView). s.layout) resumes.store ∙ opened_layout;
        records_are = ap stored resumes.store ∙ opened_records;
        ready = subst IsReady back as_opened.store.ready;
        settled = subst IsSettled back as_opened.settled;
        image = λ none. ap (λ (s : StoreView). s.flash.told.image) resumes.store ∙ opened_image none;
        made = λ none. ap (λ (m : Made). m.changes) none_made ∙ sym (steps_are ∙ none);
        changes = steps_are;
        none_made = none_made;
      }

-- A store that has begun nothing gives nothing up
pub abandoned_idle : (store : StoreView) → store.pending ≡ Idle → abandoned store ≡ store
abandoned_idle store idle =
    ap (λ (p : Pending). record { flash = store.flash; layout = store.layout; in_doubt = doubt_after p store.in_doubt; pending = Idle }) idle
    ∙ ap (λ (p : Pending). record { flash = store.flash; layout = store.layout; in_doubt = store.in_doubt; pending = p }) (sym idle)

-- What an opening is made into

pub loaded_by : (Opens : Addresses → PortState → Type 0) (saved : List ℕ) (opened : PortState) (result : Result PortState LoadError) → Opens (addresses_in saved) opened
    → IfOk result (Resumes saved opened) → IfOk result (LoadedBy Opens saved)
loaded_by Opens saved opened (Ok port) is resumes = record { opened = opened; is_opened = is; resumes = resumes }
loaded_by Opens saved opened (Err error) is resumes = tt

pub answers_raw : (geometry : Geometry) (image saved : List ℕ) (opened : PortState) (result : Result PortState LoadError) → OpenedAs 0 geometry image (addresses_in saved) opened
    → length (flash_of opened).told.past ≡ (flash_of opened).steps → IfOk result (Resumes saved opened) → IfOk result (AnswersAsSaved image saved)
answers_raw geometry image saved opened (Ok port) is counted resumes = λ old saved_as same. goes_on 0 geometry image saved opened port is resumes counted old saved_as same
answers_raw geometry image saved opened (Err error) is counted resumes = tt

pub answers_on : (medium saved : List ℕ) (opened : PortState) (result : Result PortState LoadError) → OpenedOn medium (addresses_in saved) opened
    → length (flash_of opened).told.past ≡ (flash_of opened).steps → IfOk result (Resumes saved opened)
    → IfOk result (λ port. AnswersAsSaved (drop port.origin medium) saved port)
answers_on medium saved opened (Ok port) is counted resumes = λ old saved_as same.
    let geometry : Geometry = is.0 in
    let start : port.origin ≡ geometry.sector = ap (λ (p : PortState). p.origin) resumes.others ∙ is.2.origin_is in
    goes_on geometry.sector geometry (drop geometry.sector medium) saved opened port is.2 resumes counted old saved_as (same ∙ ap (λ (n : ℕ). drop n medium) start)
answers_on medium saved opened (Err error) is counted resumes = tt

refuses_by : (Opens : Addresses → PortState → Type 0) (Refuses : Addresses → OpenError → Type 0) (saved : List ℕ) (opened : PortState) (error : LoadError) → Opens (addresses_in saved) opened
    → RefusesResume saved opened error → RefusesLoad Opens Refuses saved error
refuses_by Opens Refuses saved opened errors.Foreign is refused = absurd refused
refuses_by Opens Refuses saved opened (errors.Version found) is refused = absurd refused
refuses_by Opens Refuses saved opened errors.Registers is refused = absurd refused
refuses_by Opens Refuses saved opened (errors.Medium error) is refused = absurd refused
refuses_by Opens Refuses saved opened errors.Geometry is refused = (opened, is, refused)
refuses_by Opens Refuses saved opened (errors.Size found wanted) is refused = (opened, is, refused)

pub refuses_load : (Opens : Addresses → PortState → Type 0) (Refuses : Addresses → OpenError → Type 0) (saved : List ℕ) (opened : PortState)
    (result : Result PortState LoadError) → Opens (addresses_in saved) opened
    → IfErr result (RefusesResume saved opened) → IfErr result (RefusesLoad Opens Refuses saved)
refuses_load Opens Refuses saved opened (Ok port) is refused = tt
refuses_load Opens Refuses saved opened (Err error) is refused = refuses_by Opens Refuses saved opened error is refused
