-- A read by the machine's own table is the map's.
use Rattle.std.proofs.Common.{◌≡◌, ◌≢◌, ◌⊎◌, ℕ, zero, suc, ◌+◌, ◌^◌, ◌<◌, ◌≤◌, Bool, true, false, cond, is_ok, if◌then◌else◌, eqb, List, ◌++◌, length, take}
use Rattle.std.proofs.Common.{drop, Option, Some, None, Result, Ok, Err, refl, sym, ap, subst, ◌∙◌, arith, inl, inr}
use Rattle.std.specs.Prelude.{◌||◌, is_some, IsSome}
use Rattle.std.specs.Ordering.{nat_cmp}
use Rattle.std.specs.FinMap.{empty, get, len, get-empty, len-empty, same_map, nat_cmp-IsAntisymmetric}
use Rattle.std.specs.Cmp.{nat_cmp_total}
use Rattle.std.proofs.lemmas.Bool.{cases_eq, eq-eqb, ne_eqb}
use Rattle.std.proofs.lemmas.Option.{none-some, same_Some}
use Rattle.base_model.specs.Faults.{Rose}
use Rattle.base_model.specs.Flash.{FlashState}
use Rattle.base_model.specs.Layout.{Layout}
use Rattle.base_model.proofs.CrashLemmas.{Leaves-none, Leaves-weaker, Leaves-then}
use Rattle.record_model.specs.Records.{Stored, is_reserved}
use Rattle.record_model.specs.RecordMap.{Read, Refusal, NotFound as not_found, Empty as empty_map, IsNextAbove, refusal_of}
use Rattle.record_model.specs.History.{IsNamed}
use Rattle.record_model.proofs.RefusalLemmas.{read_empty}
use Rattle.record_model.proofs.SizeLemmas.{len_some}
use Rattle.record_store.specs.Store.{StoreView, stored, records_of as records_in, KeepsMap, DividesAlike, abandoned}
use Rattle.record_store.specs.Answers.{AnswersRead, HasFaultsOf, copies_of}
use Rattle.record_store.specs.declared.errors.StoreError.{StoreError}
use Rattle.record_store.specs.declared.errors.StoreError.TheVariants as errors
use Rattle.record_store.proofs.StoredLemmas.{stored_says, reserved_absent}
use Rattle.erst_entries.specs.declared.actions.Action.TheVariants.{CheckBusyStatus}
use Rattle.erst_entries.specs.Programs.{entries_of}
use Rattle.erst_interp.specs.declared.stops.RunStop.{RunStop}
use Rattle.erst_interp.specs.declared.stops.RunStop.TheVariants.{Budget}
use Rattle.erst_client.specs.declared.errors.ClientError.{ClientError}
use Rattle.erst_client.specs.declared.errors.ClientError.TheVariants.{Hardware, Empty, NotFound, Stopped}
use Rattle.erst_client.specs.Requests.{Performs, Asks}
use Rattle.erst_client.specs.Sequences.{Busy, NotYet, Again, Waits, IsIdle, IsStopped, IsLate, judged, read_requests, Sequence}
use Rattle.erst_client.specs.Steps.{steps_needed}
use Rattle.erst_device.specs.declared.status.CommandStatus.{CommandStatus}
use Rattle.erst_device.specs.declared.status.CommandStatus.TheVariants as statuses
use Rattle.erst_device.specs.Statuses.{number_of, status_of}
use Rattle.erst_device.specs.StoreCalls.{FoundNext, ReadOut}
use Rattle.erst_device.specs.DeviceState.{DeviceState, IsStill}
use Rattle.erst_device.specs.Starts.{Starts, NoneBegun, WritesDummy, NoDraft, Writes, LookFails, FindsNone, Misses, GoesBeyond, Finds, NoneToClear, Clears, HasLength, named}
use Rattle.erst_device.specs.Actions.{shown}
use Rattle.erst_device.proofs.ActionLemmas.{kept_map}
use Rattle.erst_device.proofs.EffectLemmas.{faults_rise}
use Rattle.erst_machine.specs.MachineState.{MachineState, IsMachine, records_of}
use Rattle.erst_machine.specs.Allowed.{Allows, ActsOn}
use Rattle.erst_machine.specs.OwnTables.{own_entries}
use Rattle.erst_commands.specs.OwnPrograms.{with_value, with_range, answer_of, IsMade, StopsAtOnce, StopsBefore as stops_before, StopsBehind as stops_behind, OwnProgramsRun}
use Rattle.erst_commands.specs.Looks.{OnlyLooked, HasAsked}
use Rattle.erst_commands.specs.Changes.{OfEmpty, OfNotFound}
use Rattle.erst_commands.specs.Reads.{ReadMade, IsRead, IsRefused, IsFailed, ReadCommand, Answers, StopsBehind, StopsBefore}
use Rattle.erst_commands.proofs.ActionCases.{checks_reading}
use Rattle.erst_commands.proofs.MachineSteps.{on_device, acted_range}
use Rattle.erst_commands.proofs.OwnProgramLemmas.{steps-check}
use Rattle.erst_commands.proofs.LookLemmas.{has_asked, has_failed}
use Rattle.erst_commands.proofs.RangeLemmas.{at-start}
use Rattle.erst_commands.proofs.ChangeLemmas.{abandoned_idle}
use Rattle.erst_commands.proofs.SequenceLemmas.{Untouched, StillWaited, IsAtOnce, IsShort, wait_still, ended_from, status_in, HasTold, HasNotTold, HasNotWaited}
use Rattle.erst_commands.proofs.SequenceLemmas.{HasNotAsked, sequence_ends, opened_ok, opened_short}
use Rattle.erst_commands.proofs.OpenLemmas.{IsOn, reading_device, read_opens}
use Rattle.erst_commands.proofs.SharedLemmas.{equivalent_then, no_answer, no_stop, same_stop, same_number}

pub needs-read : (id : ℕ) → steps_needed own_entries (read_requests id) 1 ≡ 10
unfolding own_entries entries_of
needs-read id = refl

-- From a machine to the end of the sequence
abbrev ReadLeaves : MachineState → MachineState → Type 0
ReadLeaves first last = OnlyLooked (with_range last.memory.range first) last

abbrev ReadAsked : MachineState → MachineState → Type 0
ReadAsked first last = HasAsked (with_range last.memory.range first) last

of_looked : (first last : MachineState) → OnlyLooked first last → ReadLeaves first last
of_looked first last looked = record {
  kept = looked.kept;
  few = looked.few;
  idle = looked.idle;
  equivalent = looked.equivalent;
  never_falls = looked.never_falls;
  elsewhere = looked.elsewhere ∙ ap (λ (r : List ℕ). record first { device = last.device; memory = record first.memory { range = r } })
      (sym (ap (λ (m : MachineState). m.memory.range) looked.elsewhere));
}

of_asked : (first last : MachineState) → HasAsked first last → ReadAsked first last
of_asked first last asked = record { looked = of_looked first last asked.looked; steps = asked.steps; certain = asked.certain; faults = asked.faults }

same_range : (first last : MachineState) → OnlyLooked first last → last.memory.range ≡ first.memory.range
same_range first last looked = ap (λ (m : MachineState). m.memory.range) looked.elsewhere

leaves_end : (first w : MachineState) (value : ℕ) → ReadLeaves first w → ReadLeaves first (ended_from (with_value value w))
leaves_end first w value leaves = record {
  kept = leaves.kept;
  few = leaves.few;
  idle = refl;
  equivalent = record { layout = leaves.equivalent.layout; size = leaves.equivalent.size; sector_size = leaves.equivalent.sector_size };
  never_falls = leaves.never_falls;
  elsewhere = let device : DeviceState = (ended_from (with_value value w)).device in ap (λ (m : MachineState). record m { device = device }) leaves.elsewhere;
}

asked_end : (first w : MachineState) (value : ℕ) → ReadAsked first w → ReadAsked first (ended_from (with_value value w))
asked_end first w value asked = record {
  looked = leaves_end first w value asked.looked;
  steps = asked.steps;
  certain = ap (λ (s : StoreView). s.in_doubt) (abandoned_idle w.device.store asked.looked.idle) ∙ asked.certain;
  faults = asked.faults;
}

made_end : (first w : MachineState) (value id : ℕ) (result : Result (Unit {0}) ClientError) → ReadMade first w id result → ReadMade first (ended_from (with_value value w)) id result
made_end first w value id result made = elim made as (λ result made. ReadMade first (ended_from (with_value value w)) id result) [
  | IsRead found body generation asked is_named here fits range cursor ↦ IsRead found body generation (asked_end first w value asked) is_named here fits range cursor
  | IsRefused refusal error asked refused is range cursor ↦ IsRefused refusal error (asked_end first w value asked) refused is range cursor
  | IsFailed leaves rose range cursor ↦ IsFailed (leaves_end first w value leaves) rose range cursor
]

untouched_end : (first w : MachineState) → Untouched first w → ReadLeaves first (ended_from w)
untouched_end first w is = record {
  kept = subst (λ (f : FlashState). KeepsMap first.device.store (record first.device.store { flash = f })) (sym is.flash) (Leaves-none first.device.store.flash.told _ refl);
  few = omega (arith, ap (λ (f : FlashState). f.steps) is.flash);
  idle = refl;
  equivalent = record { layout = is.layout; size = ap (λ (f : FlashState). f.size) is.flash; sector_size = ap (λ (f : FlashState). f.sector_size) is.flash };
  never_falls = omega (arith, ap (λ (f : FlashState). f.faults) is.flash);
  elsewhere =
      let range : w.memory.range ≡ first.memory.range = ap (λ (m : MachineState). m.memory.range) is.elsewhere in
      let device : DeviceState = (ended_from w).device in
      ap (λ (m : MachineState). record m { device = device }) is.elsewhere ∙ ap (λ (r : List ℕ). record first { device = device; memory = record first.memory { range = r } }) (sym range);
}

-- The map

is_empty : (map : Stored) → ((id : ℕ) → get map id ≡ None) → len map ≡ 0
is_empty map none = ap (λ (m : Stored). len m) (same_map nat_cmp_total nat_cmp-IsAntisymmetric map empty (λ id. none id ∙ sym (get-empty nat_cmp id))) ∙ len-empty nat_cmp (List ℕ × ℕ)

none_above : (layout : Layout) (image : List ℕ) → IsNextAbove 0 (records_in layout image) None → (id : ℕ) → get (records_in layout image) id ≡ None
unfolding is_reserved
none_above layout image none zero = reserved_absent layout 0 image refl
none_above layout image none (suc id) = none (suc id) (omega arith)

some_kept : (found : Option (List ℕ × ℕ)) → IsSome found → (kept : List ℕ × ℕ) × (found ≡ Some kept)
some_kept None h = absurd (cc h)
some_kept (Some kept) h = (kept, refl)

read_absent : (layout : Layout) (id : ℕ) (map : Stored) → len map ≢ 0 → id ≢ 0 → get map id ≡ None → refusal_of layout (Read id) map ≡ Some not_found
unfolding refusal_of
read_absent layout id map some other absent =
    ap (λ (b : Bool). cond {A = Option Refusal} b (Some empty_map) (cond (eqb id 0 || is_some (get map id)) None (Some not_found))) (ne_eqb (len map) 0 some)
    ∙ ap (λ (b : Bool). cond {A = Option Refusal} (b || is_some (get map id)) None (Some not_found)) (ne_eqb id 0 other)
    ∙ ap (λ (o : Option (List ℕ × ℕ)). cond {A = Option Refusal} (is_some o) None (Some not_found)) absent

either_way : (a b : Bool) → (a ≡ true) ⊎ (b ≡ true) → (a || b) ≡ true
either_way true b either = refl
either_way false b (inl is) = absurd (cc)
either_way false b (inr is) = is

named_stands : (id found : ℕ) (map : Stored) (kept : List ℕ × ℕ) → IsNamed id found map → get map found ≡ Some kept → (eqb id 0 ≡ true) ⊎ (is_some (get map id) ≡ true)
named_stands id found map kept (inl other) here = inr (ap (λ (o : Option (List ℕ × ℕ)). is_some o) (ap (λ (n : ℕ). get map n) (sym other.1) ∙ here))
named_stands id found map kept (inr least) here = inl (eq-eqb id 0 least.0)

read_named : (layout : Layout) (id found : ℕ) (map : Stored) (kept : List ℕ × ℕ) → IsNamed id found map → get map found ≡ Some kept → refusal_of layout (Read id) map ≡ None
unfolding refusal_of
read_named layout id found map kept is_named here =
    let some = len_some map found kept here in
    ap (λ (b : Bool). cond {A = Option Refusal} b (Some empty_map) (cond (eqb id 0 || is_some (get map id)) None (Some not_found))) (ne_eqb (len map) 0 (λ e. absurd (omega (arith, some, e))))
    ∙ ap (λ (b : Bool). cond {A = Option Refusal} b None (Some not_found)) (either_way (eqb id 0) (is_some (get map id)) (named_stands id found map kept is_named here))

least_named : (id least : ℕ) (map : Stored) → IsNextAbove 0 map (Some least) → IsNamed id (named id least) map
least_named id least map next = elim (cases_eq id 0) [
  | inl zero_id ↦
      let is : named id least ≡ least = ap (λ (b : Bool). cond {A = ℕ} b least id) (eq-eqb id 0 zero_id) in
      inr (zero_id, subst (λ (n : ℕ). IsNextAbove 0 map (Some n)) (sym is) next)
  | inr other ↦
      let is : named id least ≡ id = ap (λ (b : Bool). cond {A = ℕ} b least id) (ne_eqb id 0 other) in
      inl (other, is)
]

missing_not_zero : (id least : ℕ) (map : Stored) → IsNextAbove 0 map (Some least) → get map (named id least) ≡ None → (id ≢ 0) × (get map id ≡ None)
missing_not_zero id least map next none = elim (cases_eq id 0) [
  | inl zero_id ↦
      let is : named id least ≡ least = ap (λ (b : Bool). cond {A = ℕ} b least id) (eq-eqb id 0 zero_id) in
      let kept = some_kept (get map least) next.1 in
      absurd (none-some kept.0 (sym (ap (λ (n : ℕ). get map n) (sym is) ∙ none) ∙ kept.1))
  | inr other ↦
      let is : named id least ≡ id = ap (λ (b : Bool). cond {A = ℕ} b least id) (ne_eqb id 0 other) in
      (other, ap (λ (n : ℕ). get map n) (sym is) ∙ none)
]

-- The start

-- nothing runs, and all is done; or the record of an identifier is to be shown
pub data ReadStarted (first start : MachineState) (id : ℕ) : Type 0 where
  IsQuiet : (error : ClientError) → IsStill start.device → judged (status_in start) ≡ Err error → ReadMade first start id (Err error) → ReadStarted first start id
  IsReading : (found : ℕ) (body : List ℕ) (generation : ℕ) → HasAsked first start → start.device.reading ≡ Some found → start.device.offset ≡ 0 → start.device.status ≡ statuses.Success
      → start.device.cursor ≡ first.device.cursor → IsNamed id found (records_of first) → get (records_of first) found ≡ Some (body, generation) →
      length body ≤ length first.memory.range → ReadStarted first start id

module _ (tells : Type 0) (told : tells) (first start : MachineState) (machine : IsMachine first) (id : ℕ) (elsewhere : start ≡ on_device first start.device) where
  not_there : (store : StoreView) (least : ℕ) → FoundNext tells (abandoned first.device.store) store 0 (Ok (Some least)) → get (records_of first) (named id least) ≡ None
      → start.device ≡ record (reading_device first.device id) { status = statuses.RecordNotFound; cursor = 0; store = store } → ReadStarted first start id
  not_there store least looks none is =
      let there : start.device.store ≡ store = ap (λ (d : DeviceState). d.store) is in
      let asked = has_asked tells told first start store (Some least) looks.leaves there elsewhere in
      let next = looks.answer told in
      let kept = some_kept (get (records_of first) least) next.1 in
      let other = missing_not_zero id least (records_of first) next none in
      let some = len_some (records_of first) least kept.0 kept.1 in
      IsQuiet NotFound (record { no_read = ap (λ (d : DeviceState). d.reading) is; no_change = asked.looked.idle }) (ap (λ (d : DeviceState). judged (number_of d.status)) is)
      (IsRefused not_found NotFound (of_asked first start asked) (read_absent first.device.store.layout id (records_of first) (λ e. absurd (omega (arith, some, e))) other.0 other.1) OfNotFound
      (same_range first start asked.looked) (ap (λ (d : DeviceState). d.cursor) is))

  none_there : (store : StoreView) → FoundNext tells (abandoned first.device.store) store 0 (Ok None)
      → start.device ≡ record (reading_device first.device id) { status = statuses.RecordStoreEmpty; store = store } → ReadStarted first start id
  none_there store looks is =
      let there : start.device.store ≡ store = ap (λ (d : DeviceState). d.store) is in
      let asked = has_asked tells told first start store None looks.leaves there elsewhere in
      let none = none_above first.device.store.layout first.device.store.flash.told.image (looks.answer told) in
      IsQuiet Empty (record { no_read = ap (λ (d : DeviceState). d.reading) is; no_change = asked.looked.idle }) (ap (λ (d : DeviceState). judged (number_of d.status)) is)
      (IsRefused empty_map Empty (of_asked first start asked) (read_empty first.device.store.layout id (records_of first) (is_empty (records_of first) none)) OfEmpty
      (same_range first start asked.looked) (ap (λ (d : DeviceState). d.cursor) is))

  look_failed : (store : StoreView) (error : StoreError) → FoundNext tells (abandoned first.device.store) store 0 (Err error)
      → start.device ≡ record (reading_device first.device id) { status = status_of error; store = store } → ReadStarted first start id
  look_failed store error looks is =
      let there : start.device.store ≡ store = ap (λ (d : DeviceState). d.store) is in
      let failed = has_failed {T = Option ℕ} tells told first start store error looks.leaves looks.error there elsewhere (ap (λ (d : DeviceState). d.cursor) is) in
      let status : start.device.status ≡ statuses.HardwareNotAvailable = ap (λ (d : DeviceState). d.status) is ∙ ap status_of looks.error in
      IsQuiet Hardware (record { no_read = ap (λ (d : DeviceState). d.reading) is; no_change = failed.looked.idle }) (ap (λ (s : CommandStatus). judged (number_of s)) status)
      (IsFailed (of_looked first start failed.looked) failed.rose (same_range first start failed.looked) failed.cursor)

  fits_range : (found size : ℕ) (long : HasLength (records_of first) found size) → length long.body ≤ length first.memory.range
  fits_range found size long =
      let says = stored_says first.device.store.layout found first.device.store.flash.told.image (long.body, long.generation) long.here in
      omega (arith, says.most, machine.sizes.range)

  found_there : (store : StoreView) (least size : ℕ) → FoundNext tells (abandoned first.device.store) store 0 (Ok (Some least)) → HasLength (records_of first) (named id least) size
      → start.device ≡ record (reading_device first.device id) { status = statuses.Success; reading = Some (named id least); store = store } → ReadStarted first start id
  found_there store least size looks long is =
      let there : start.device.store ≡ store = ap (λ (d : DeviceState). d.store) is in
      let asked = has_asked tells told first start store (Some least) looks.leaves there elsewhere in
      IsReading (named id least) long.body long.generation asked (ap (λ (d : DeviceState). d.reading) is) (ap (λ (d : DeviceState). d.offset) is) (ap (λ (d : DeviceState). d.status) is)
      (ap (λ (d : DeviceState). d.cursor) is) (least_named id least (records_of first) (looks.answer told)) long.here (fits_range (named id least) size long)

  pub read_started : Starts tells (reading_device first.device id) first.memory.range start.device → ReadStarted first start id
  read_started starts = by_case start.device starts refl
    where
      by_case : (device : DeviceState) → Starts tells (reading_device first.device id) first.memory.range device → start.device ≡ device → ReadStarted first start id
      by_case device starts = elim starts as (λ device starts. start.device ≡ device → ReadStarted first start id) [
        | NoneBegun none ↦ λ is. absurd (cc none)
        | WritesDummy none ↦ λ is. absurd (cc none)
        | NoDraft begun none ↦ λ is. absurd (cc begun)
        | Writes size number store result begun found call ↦ λ is. absurd (cc begun)
        | LookFails store error begun looks ↦ λ is. look_failed store error looks is
        | FindsNone store begun looks ↦ λ is. none_there store looks is
        | Misses store least begun looks none ↦ λ is. not_there store least looks (none told) is
        | GoesBeyond store least size begun looks long beyond ↦ λ is.
            let here = long told in
            let fits = fits_range (named id least) size here in
            absurd (omega (arith, fits, here.size_is, beyond))
        | Finds store least size begun looks long fits ↦ λ is. found_there store least size looks (long told) is
        | NoneToClear begun reserved ↦ λ is. absurd (cc begun)
        | Clears store result begun usable call ↦ λ is. absurd (cc begun)
      ]

-- The step that shows the record

kept_then : (a b c : StoreView) → KeepsMap a b → DividesAlike a b → KeepsMap b c → KeepsMap a c
kept_then a b c first equivalent second =
    Leaves-then a.flash.told b.flash.told c.flash.told (λ image. records_in a.layout image ≡ stored a) first
    (Leaves-weaker b.flash.told c.flash.told (λ image. records_in b.layout image ≡ stored b) (λ image. records_in a.layout image ≡ stored a) second
    (λ image same. ap (λ (l : Layout). records_in l image) (sym equivalent.layout) ∙ same ∙ kept_map a b first equivalent))

no_copies : (store : StoreView) → store.in_doubt ≡ false → copies_of store ≡ 0
no_copies store certain = rw certain refl

module _ (tells : Type 0) (told : tells) (first start : MachineState) (id found : ℕ) (body : List ℕ) (generation : ℕ) (asked : HasAsked first start) (offset : start.device.offset ≡ 0)
    (success : start.device.status ≡ statuses.Success) (cursor : start.device.cursor ≡ first.device.cursor) (is_named : IsNamed id found (records_of first))
    (here : get (records_of first) found ≡ Some (body, generation)) (fits : length body ≤ length first.memory.range) where
  shown_leaves : (new : MachineState) (store : StoreView) (result : Result ℕ StoreError) (out : List ℕ) → ReadOut tells start.device.store store found
      (drop start.device.offset start.memory.range) out result → new.device.store ≡ store
      → new ≡ record start { device = new.device; memory = record start.memory { range = new.memory.range } } → ReadLeaves first new
  shown_leaves new store result out read there elsewhere =
      let leaves = read.leaves in
      let none = no_copies start.device.store asked.certain in
      let most : store.flash.steps ≤ start.device.store.flash.steps + copies_of start.device.store = leaves.at_most told in
      let looked = asked.looked in
      record {
        kept = subst (λ (s : StoreView). KeepsMap first.device.store s) (sym there) (kept_then first.device.store start.device.store store looked.kept looked.equivalent (leaves.kept told));
        few = subst (λ (s : StoreView). s.flash.steps ≤ first.device.store.flash.steps + 1) (sym there) (omega (arith, most, none, looked.few));
        idle = ap (λ (s : StoreView). s.pending) there ∙ leaves.idle;
        equivalent = subst (λ (s : StoreView). DividesAlike first.device.store s) (sym there) (equivalent_then first.device.store start.device.store store looked.equivalent leaves.equivalent);
        never_falls = subst (λ (s : StoreView). first.device.store.flash.faults ≤ s.flash.faults) (sym there)
            (omega (arith, looked.never_falls, faults_rise start.device.store.flash.faults store.flash.faults result leaves.cause));
        elsewhere = elsewhere ∙ ap (λ (m : MachineState). record m { device = new.device; memory = record m.memory { range = new.memory.range } }) looked.elsewhere;
      }

  added : (a b c d e : ℕ) → a ≡ b + c → c ≡ 0 → b ≡ d + e → a ≡ d + e
  added a b c d e sum none is = omega arith

  range_from : (new : MachineState) (out : List ℕ) → new.memory.range ≡ take start.device.offset start.memory.range ++ out → new.memory.range ≡ out
  range_from new out is = is ∙ ap (λ (n : ℕ). take n start.memory.range ++ out) offset

  rest_is : drop start.device.offset start.memory.range ≡ first.memory.range
  rest_is = ap (λ (n : ℕ). drop n start.memory.range) offset ∙ same_range first start asked.looked

  shown_by : (new : MachineState) (store : StoreView) (result : Result ℕ StoreError) (out : List ℕ) → ReadOut tells start.device.store store found
      (drop start.device.offset start.memory.range) out result
      → new.device ≡ shown found result store start.device → new.memory.range ≡ take start.device.offset start.memory.range ++ out
      → new ≡ record start { device = new.device; memory = record start.memory { range = new.memory.range } } → ReadMade first new id (judged (status_in new))
  shown_by new store (Ok size) out read is range elsewhere =
      let there : new.device.store ≡ store = ap (λ (d : DeviceState). d.store) is in
      let leaves = read.leaves in
      let got : AnswersRead start.device.store found (drop start.device.offset start.memory.range) out (Ok size) = read.answer told in
      let map_same : stored start.device.store ≡ records_of first = kept_map first.device.store start.device.store asked.looked.kept asked.looked.equivalent in
      let same : (got.0, got.1.0) ≡ (body, generation) = same_Some _ _ (sym got.1.1 ∙ ap (λ (m : Stored). get m found) map_same ∙ here) in
      let body_is : got.0 ≡ body = ap (λ (p : List ℕ × ℕ). p.0) same in
      let size_is : size ≡ length body = got.2 ∙ ap length body_is in
      let out_is : out ≡ body ++ drop (length body) first.memory.range =
      got.3 ∙ ap (λ (xs : List ℕ). xs ++ drop size (drop start.device.offset start.memory.range)) body_is ∙ ap (λ (n : ℕ). body ++ drop n (drop start.device.offset start.memory.range)) size_is
      ∙ ap (λ (xs : List ℕ). body ++ drop (length body) xs) rest_is in
      let none = no_copies start.device.store asked.certain in
      let steps : store.flash.steps ≡ start.device.store.flash.steps + copies_of start.device.store = leaves.ended told in
      subst (λ (r : Result (Unit {0}) ClientError). ReadMade first new id r) (sym (ap (λ (d : DeviceState). judged (number_of d.status)) is))
      (IsRead found body generation
      (record {
        looked = shown_leaves new store (Ok size) out read there elsewhere;
        steps = ap (λ (s : StoreView). s.flash.steps) there ∙ added store.flash.steps start.device.store.flash.steps (copies_of start.device.store) _ _ steps none asked.steps;
        certain = ap (λ (s : StoreView). s.in_doubt) there ∙ leaves.doubt.certain;
        faults = ap (λ (s : StoreView). s.flash.faults) there ∙ leaves.cause ∙ asked.faults;
      })
      is_named here fits (range_from new out range ∙ out_is ∙ sym (at-start first.memory.range body)) (ap (λ (d : DeviceState). d.cursor) is))
  shown_by new store (Err error) out read is range elsewhere =
      let there : new.device.store ≡ store = ap (λ (d : DeviceState). d.store) is in
      let leaves = read.leaves in
      let flash : error ≡ errors.Flash = read.error told in
      let cause = subst (λ (e : StoreError). HasFaultsOf {T = ℕ} start.device.store.flash.faults store.flash.faults (Err e)) flash leaves.cause in
      let kept = subst (λ (e : StoreError). AnswersRead start.device.store found (drop start.device.offset start.memory.range) out (Err e)) flash (read.answer told) in
      let status : new.device.status ≡ statuses.HardwareNotAvailable = ap (λ (d : DeviceState). d.status) is ∙ ap status_of flash in
      subst (λ (r : Result (Unit {0}) ClientError). ReadMade first new id r) (sym (ap (λ (s : CommandStatus). judged (number_of s)) status))
      (IsFailed (shown_leaves new store (Err error) out read there elsewhere)
      (subst (λ (s : StoreView). Rose first.device.store.flash.faults s.flash.faults) (sym there) (subst (λ (n : ℕ). Rose n store.flash.faults) asked.faults cause.1))
      (range_from new out range ∙ kept ∙ rest_is) (ap (λ (d : DeviceState). d.cursor) is ∙ cursor))

  pub is_shown : (reading : start.device.reading ≡ Some found) (new : MachineState) → ActsOn tells start 0x6 new → ReadMade first new id (judged (status_in new))
  is_shown reading new acted =
      let made = checks_reading tells start.device start.memory.range new.device new.memory.range found reading acted.acts in
      shown_by new made.store made.result made.out made.read made.new_is made.range_is (acted_range tells start 0x6 new acted)

pub value_shown : (id : ℕ) (result : Result ℕ StoreError) (store : StoreView) (old : DeviceState) → (shown id result store old).value ≡ 0
value_shown id (Ok size) store old = refl
value_shown id (Err error) store old = refl

-- Checks of a device whose first check answers 0

module _ (tells : Type 0) (own : OwnProgramsRun tells) (w : MachineState) (answers_zero : (new : MachineState) → ActsOn tells w 0x6 new → new.device.value ≡ 0) where
  data OnceChecked (budget : ℕ) : Result ℕ RunStop → ℕ → MachineState → Type 0 where
    ChecksOnce : (left : ℕ) (new : MachineState) → ActsOn tells w 0x6 new → left + 2 ≡ budget → OnceChecked budget (Ok 0) left new
    ChecksNone : budget ≡ 0 → OnceChecked budget (Err Budget) 0 w
    ChecksHalf : (new : MachineState) → ActsOn tells w 0x6 new → budget ≡ 1 → OnceChecked budget (Err Budget) 0 new

  check_once : (budget : ℕ) (result : Result ℕ RunStop) (left : ℕ) (last : MachineState) → Performs (Allows tells) own_entries CheckBusyStatus 0 budget w result
      left last → OnceChecked budget result left last
  check_once budget result left last run = elim (own CheckBusyStatus 0 budget w result left last run) as (λ result left last made. OnceChecked budget result left last) [
    | IsMade left last acted spent ↦
        subst (λ (n : ℕ). OnceChecked budget (Ok (answer_of CheckBusyStatus 0 n)) left last) (sym (answers_zero last acted))
        (ChecksOnce left last acted (ap (λ (n : ℕ). left + n) (sym steps-check) ∙ spent))
    | StopsAtOnce none ↦ ChecksNone none
    | stops_before few took ↦ absurd (cc)
    | stops_behind last few told acted ↦ ChecksHalf last acted few
  ]

  record NotBusy (budget busy left : ℕ) (mid : MachineState) : Type 0 where
    none : busy ≡ 0
    left_is : left ≡ budget
    mid_is : mid ≡ w

  zero_of : (budget : ℕ) (result : Result ℕ RunStop) (left : ℕ) (last : MachineState) (answer : ℕ) → result ≡ Ok answer → OnceChecked budget result left last → answer ≡ 0
  zero_of budget result left last answer is checked = (elim checked as (λ result left last checked. result ≡ Ok answer → answer ≡ 0) [
    | ChecksOnce left new acted spent ↦ λ e. sym (same_number 0 answer e)
    | ChecksNone none ↦ λ e. absurd (no_stop answer Budget e)
    | ChecksHalf new acted one ↦ λ e. absurd (no_stop answer Budget e)
  ]) is

  not_busy : (timings : Option (ℕ × ℕ)) (budget busy left : ℕ) (mid : MachineState) → Busy (Allows tells) own_entries timings budget w busy left mid → NotBusy budget busy left mid
  not_busy timings budget busy left mid NotYet = record { none = refl; left_is = refl; mid_is = refl }
  not_busy timings budget busy left mid (Again before asked from answer behind next new earlier run more pause) =
      let is = not_busy timings budget before asked from earlier in
      let checked = check_once asked (Ok answer) behind next (subst (λ (m : MachineState). Performs (Allows tells) own_entries CheckBusyStatus 0 asked m (Ok answer) behind next) is.mid_is run) in
      absurd (more (zero_of asked (Ok answer) behind next answer refl checked))

  pub data OnceWaited (budget : ℕ) : Result (Unit {0}) ClientError → ℕ → MachineState → Type 0 where
    IsOnce : (left : ℕ) (last : MachineState) → ActsOn tells w 0x6 last → left + 2 ≡ budget → OnceWaited budget (Ok tt) left last
    IsNone : budget ≡ 0 → OnceWaited budget (Err (Stopped Budget)) 0 w
    IsHalf : (last : MachineState) → ActsOn tells w 0x6 last → budget ≡ 1 → OnceWaited budget (Err (Stopped Budget)) 0 last

  pub wait_once : (timings : Option (ℕ × ℕ)) (budget : ℕ) (result : Result (Unit {0}) ClientError) (left : ℕ) (last : MachineState) → Waits (Allows tells) own_entries timings budget w result left last
      → OnceWaited budget result left last
  wait_once timings budget result left last waits = elim waits as (λ result left last waits. OnceWaited budget result left last) [
    | IsIdle busy asked mid left last earlier run ↦ once (Ok 0) left last refl (checked busy asked mid (Ok 0) left last earlier run)
    | IsStopped busy asked mid stop left last earlier run ↦ short stop left last (Err stop) refl (checked busy asked mid (Err stop) left last earlier run)
    | IsLate busy asked mid answer behind next error last earlier run more pause ↦ absurd
        (more (zero_of budget (Ok answer) behind next answer refl (checked busy asked mid (Ok answer) behind next earlier run)))
  ]
    where
      checked : (busy asked : ℕ) (mid : MachineState) (result : Result ℕ RunStop) (left : ℕ) (last : MachineState) → Busy (Allows tells) own_entries timings budget w busy asked mid
          → Performs (Allows tells) own_entries CheckBusyStatus 0 asked mid result left last → OnceChecked budget result left last
      checked busy asked mid result left last earlier run =
          let is = not_busy timings budget busy asked mid earlier in
          check_once budget result left last
          (subst (λ (n : ℕ). Performs (Allows tells) own_entries CheckBusyStatus 0 n w result left last) is.left_is
          (subst (λ (m : MachineState). Performs (Allows tells) own_entries CheckBusyStatus 0 asked m result left last) is.mid_is run))

      once : (result : Result ℕ RunStop) (left : ℕ) (last : MachineState) → result ≡ Ok 0 → OnceChecked budget result left last → OnceWaited budget (Ok tt) left last
      once result left last is checked = (elim checked as (λ result left last checked. result ≡ Ok 0 → OnceWaited budget (Ok tt) left last) [
        | ChecksOnce left new acted spent ↦ λ e. IsOnce left new acted spent
        | ChecksNone none ↦ λ e. absurd (no_stop 0 Budget e)
        | ChecksHalf new acted one ↦ λ e. absurd (no_stop 0 Budget e)
      ]) is

      short : (stop : RunStop) (left : ℕ) (last : MachineState) (result : Result ℕ RunStop) → result ≡ Err stop → OnceChecked budget result left last → OnceWaited budget (Err (Stopped stop)) left last
      short stop left last result is checked = (elim checked as (λ result left last checked. result ≡ Err stop → OnceWaited budget (Err (Stopped stop)) left last) [
        | ChecksOnce left new acted spent ↦ λ e. absurd (no_answer 0 stop e)
        | ChecksNone none ↦ λ e. subst (λ (s : RunStop). OnceWaited budget (Err (Stopped s)) 0 w) (same_stop Budget stop e) (IsNone none)
        | ChecksHalf new acted one ↦ λ e. subst (λ (s : RunStop). OnceWaited budget (Err (Stopped s)) 0 new) (same_stop Budget stop e) (IsHalf new acted one)
      ]) is

few_to : (result : Result (Unit {0}) ClientError) → (if is_ok result then 7 else 6) ≤ 7
few_to (Ok done) = omega arith
few_to (Err error) = omega arith

-- The whole sequence

module _ (tells : Type 0) (own : OwnProgramsRun tells) (told : tells) (first : MachineState) (machine : IsMachine first) (id : ℕ) (small : id < 2 ^ 64) where
  abbrev IsStarted : MachineState → Type 0
  IsStarted w = IsOn tells first (reading_device first.device id) w

  not_opened : (budget : ℕ) (w : MachineState) → Untouched first w → budget < 6 → ReadCommand first (ended_from w) id budget (Err (Stopped Budget)) 0
  not_opened budget w untouched short = StopsBefore (untouched_end first w untouched) (ap (λ (m : MachineState). m.memory.range) untouched.elsewhere)
      untouched.cursor (inl short) (omega (arith, short))

  opened_read : (budget : ℕ) (answers : List ℕ) (left : ℕ) (w : MachineState) → Asks (Allows tells) own_entries (read_requests id) budget first (Ok answers)
      left w → ReadStarted first w id × (left + 6 ≡ budget)
  opened_read budget answers left w asks =
      let opened = opened_ok first IsStarted 6 budget answers (Ok answers) left w refl (read_opens tells own first id small budget (Ok answers) left w asks) in
      (read_started tells told first w machine id opened.0.1 opened.0.0, opened.1)

  -- a quiet device
  module _ (start : MachineState) (why : ClientError) (status : judged (status_in start) ≡ Err why) (made : ReadMade first start id (Err why)) (budget asked : ℕ) (opened : asked + 6 ≡ budget) where
    quiet_told : (waited left : ℕ) (idle : MachineState) (answer : Result (Unit {0}) ClientError) → answer ≡ Ok tt → left + 2 ≡ waited → StillWaited start asked answer waited idle
        → ReadCommand first (ended_from (with_value (status_in idle) idle)) id budget (judged (status_in idle)) left
    quiet_told waited left idle answer is spent ends =
        (elim ends as (λ answer waited idle ends. answer ≡ Ok tt → left + 2 ≡ waited → ReadCommand first (ended_from (with_value (status_in idle) idle)) id budget (judged (status_in idle)) left) [
          | IsAtOnce waited idle at sum ↦ λ e behind.
              subst (λ (m : MachineState). ReadCommand first (ended_from (with_value (status_in m) m)) id budget (judged (status_in m)) left) (sym at)
              (subst (λ (r : Result (Unit {0}) ClientError). ReadCommand first (ended_from (with_value (status_in start) start)) id budget r left) (sym status)
              (Answers (Err why) left (made_end first start (status_in start) id (Err why) made) (omega (arith, opened, sum, behind, needs-read id))))
          | IsShort idle which few ↦ λ e behind. absurd (cc e)
        ]) is spent

    quiet_cut : (other : MachineState) → other ≡ with_value other.device.value start → budget < 10 → ReadCommand first (ended_from other) id budget (Err (Stopped Budget)) 0
    quiet_cut other is few =
        subst (λ (m : MachineState). ReadCommand first (ended_from m) id budget (Err (Stopped Budget)) 0) (sym is)
        (StopsBehind (Err why) (made_end first start other.device.value id (Err why) made) (omega (arith, opened)) (omega (arith, few, needs-read id)))

    quiet_not_told : (waited : ℕ) (idle other : MachineState) (answer : Result (Unit {0}) ClientError) → answer ≡ Ok tt → waited < 2 →
        other ≡ with_value other.device.value idle → StillWaited start asked answer waited idle
        → ReadCommand first (ended_from other) id budget (Err (Stopped Budget)) 0
    quiet_not_told waited idle other answer is short same ends =
        (elim ends as (λ answer waited idle ends. answer ≡ Ok tt → waited < 2 → other ≡ with_value other.device.value idle → ReadCommand first (ended_from other) id budget (Err (Stopped Budget)) 0) [
          | IsAtOnce waited idle at sum ↦ λ e few is_value. quiet_cut other (is_value ∙ ap (λ (m : MachineState). with_value other.device.value m) at) (omega (arith, opened, sum, few))
          | IsShort idle which less ↦ λ e few is_value. absurd (cc e)
        ]) is short same

    quiet_not_waited : (error : ClientError) (answer : Result (Unit {0}) ClientError) (left : ℕ) (last : MachineState) → answer ≡ Err error → StillWaited start asked answer left last
        → ReadCommand first (ended_from last) id budget (Err error) left
    quiet_not_waited error answer left last is ends = (elim ends as (λ answer left last ends. answer ≡ Err error → ReadCommand first (ended_from last) id budget (Err error) left) [
      | IsAtOnce left last at sum ↦ λ e. absurd (cc e)
      | IsShort last which few ↦ λ e.
          subst (λ (r : Result (Unit {0}) ClientError). ReadCommand first (ended_from last) id budget r 0) e (quiet_cut last (of_start last which) (omega (arith, opened, few)))
    ]) is
      where
        of_start : (last : MachineState) → (last ≡ start) ⊎ (last ≡ with_value 0 start) → last ≡ with_value last.device.value start
        of_start last which = elim which [
          | inl same ↦ ap (λ (m : MachineState). with_value last.device.value m) same
          | inr same ↦ ap (λ (m : MachineState). with_value last.device.value m) same
        ]

  same_value : (w : MachineState) (value : ℕ) (other : MachineState) → (other ≡ w) ⊎ (other ≡ with_value value w) → other ≡ with_value other.device.value w
  same_value w value other either = elim either [
    | inl same ↦ ap (λ (m : MachineState). with_value other.device.value m) same
    | inr same ↦ ap (λ (m : MachineState). with_value other.device.value m) same
  ]

  -- one that shows the record by its first check
  module _ (start : MachineState) (zero_is : (new : MachineState) → ActsOn tells start 0x6 new → new.device.value ≡ 0) (shows : (new : MachineState) →
      ActsOn tells start 0x6 new → ReadMade first new id (judged (status_in new)))
      (before : ReadLeaves first start) (range_is : start.memory.range ≡ first.memory.range) (cursor_is : start.device.cursor ≡ first.device.cursor)
      (taken : refusal_of first.device.store.layout (Read id) (records_of first) ≡ None) (budget asked : ℕ) (opened : asked + 6 ≡ budget) where
    shown_told : (waited left : ℕ) (idle : MachineState) (answer : Result (Unit {0}) ClientError) → answer ≡ Ok tt → left + 2 ≡ waited → OnceWaited tells own start zero_is asked answer waited idle
        → ReadCommand first (ended_from (with_value (status_in idle) idle)) id budget (judged (status_in idle)) left
    shown_told waited left idle answer is spent ends =
        (elim ends as (λ answer waited idle ends. answer ≡ Ok tt → left + 2 ≡ waited → ReadCommand first (ended_from (with_value (status_in idle) idle)) id budget (judged (status_in idle)) left) [
          | IsOnce waited idle acted sum ↦ λ e behind. Answers _ left (made_end first idle (status_in idle) id (judged (status_in idle)) (shows idle acted))
              (omega (arith, opened, sum, behind, needs-read id))
          | IsNone none ↦ λ e behind. absurd (cc e)
          | IsHalf idle acted one ↦ λ e behind. absurd (cc e)
        ]) is spent

    shown_cut : (idle other : MachineState) → ActsOn tells start 0x6 idle → other ≡ with_value other.device.value idle → 7 ≤ budget → budget < 10 →
        ReadCommand first (ended_from other) id budget (Err (Stopped Budget)) 0
    shown_cut idle other acted is behind few =
        subst (λ (m : MachineState). ReadCommand first (ended_from m) id budget (Err (Stopped Budget)) 0) (sym is)
        (StopsBehind (judged (status_in idle)) (made_end first idle other.device.value id (judged (status_in idle)) (shows idle acted))
        (omega (arith, behind, few_to (judged (status_in idle)))) (omega (arith, few, needs-read id)))

    shown_not_told : (waited : ℕ) (idle other : MachineState) (answer : Result (Unit {0}) ClientError) → answer ≡ Ok tt → waited < 2 → other ≡ with_value other.device.value idle
        → OnceWaited tells own start zero_is asked answer waited idle → ReadCommand first (ended_from other) id budget (Err (Stopped Budget)) 0
    shown_not_told waited idle other answer is short same ends =
        (elim ends as (λ answer waited idle ends. answer ≡ Ok tt → waited < 2 → other ≡ with_value other.device.value idle → ReadCommand first (ended_from other) id budget (Err (Stopped Budget)) 0) [
          | IsOnce waited idle acted sum ↦ λ e few is_value. shown_cut idle other acted is_value (omega (arith, opened, sum)) (omega (arith, opened, sum, few))
          | IsNone none ↦ λ e few is_value. absurd (cc e)
          | IsHalf idle acted one ↦ λ e few is_value. absurd (cc e)
        ]) is short same

    shown_not_waited : (error : ClientError) (answer : Result (Unit {0}) ClientError) (left : ℕ) (last : MachineState) → answer ≡ Err error → OnceWaited tells own start zero_is asked answer left last
        → ReadCommand first (ended_from last) id budget (Err error) left
    shown_not_waited error answer left last is ends = (elim ends as (λ answer left last ends. answer ≡ Err error → ReadCommand first (ended_from last) id budget (Err error) left) [
      | IsOnce left last acted sum ↦ λ e. absurd (cc e)
      | IsNone none ↦ λ e.
          subst (λ (r : Result (Unit {0}) ClientError). ReadCommand first (ended_from start) id budget r 0) e
          (StopsBefore (leaves_end first start start.device.value before) range_is cursor_is (inr (omega (arith, opened, none), taken)) (omega (arith, opened, none)))
      | IsHalf last acted one ↦ λ e.
          subst (λ (r : Result (Unit {0}) ClientError). ReadCommand first (ended_from last) id budget r 0) e (shown_cut last last acted refl (omega (arith, opened, one)) (omega (arith, opened, one)))
    ]) is

  reading_zero : (start : MachineState) (found : ℕ) → start.device.reading ≡ Some found → (new : MachineState) → ActsOn tells start 0x6 new → new.device.value ≡ 0
  reading_zero start found reading new acted =
      let made = checks_reading tells start.device start.memory.range new.device new.memory.range found reading acted.acts in
      ap (λ (d : DeviceState). d.value) made.new_is ∙ value_shown found made.result made.store start.device

  by_told : (timings : Option (ℕ × ℕ)) (budget asked waited left : ℕ) (start idle : MachineState) → ReadStarted first start id → asked + 6 ≡ budget → left + 2 ≡ waited
      → Waits (Allows tells) own_entries timings asked start (Ok tt) waited idle → ReadCommand first (ended_from (with_value (status_in idle) idle)) id budget (judged (status_in idle)) left
  by_told timings budget asked waited left start idle started opened spent waits = elim started [
    | IsQuiet why still status made ↦ quiet_told start why status made budget asked opened waited left idle (Ok tt) refl spent
        (wait_still tells own timings start still asked (Ok tt) waited idle waits)
    | IsReading found body generation has reading offset success at is_named here fits ↦
        shown_told start (reading_zero start found reading) (is_shown tells told first start id found body generation has offset success at is_named here fits
        reading) (of_looked first start has.looked)
        (same_range first start has.looked) at (read_named first.device.store.layout id found (records_of first) (body, generation) is_named here) budget asked
        opened waited left idle (Ok tt) refl spent (wait_once tells own start (reading_zero start found reading) timings asked (Ok tt) waited idle waits)
  ]

  by_not_told : (timings : Option (ℕ × ℕ)) (budget asked waited : ℕ) (start idle other : MachineState) → ReadStarted first start id → asked + 6 ≡ budget →
      waited < 2 → other ≡ with_value other.device.value idle
      → Waits (Allows tells) own_entries timings asked start (Ok tt) waited idle → ReadCommand first (ended_from other) id budget (Err (Stopped Budget)) 0
  by_not_told timings budget asked waited start idle other started opened short same waits = elim started [
    | IsQuiet why still status made ↦ quiet_not_told start why status made budget asked opened waited idle other (Ok tt) refl short same
        (wait_still tells own timings start still asked (Ok tt) waited idle waits)
    | IsReading found body generation has reading offset success at is_named here fits ↦
        shown_not_told start (reading_zero start found reading) (is_shown tells told first start id found body generation has offset success at is_named here
        fits reading) (of_looked first start has.looked)
        (same_range first start has.looked) at (read_named first.device.store.layout id found (records_of first) (body, generation) is_named here) budget asked
        opened waited idle other (Ok tt) refl short same (wait_once tells own start (reading_zero start found reading) timings asked (Ok tt) waited idle
        waits)
  ]

  by_not_waited : (timings : Option (ℕ × ℕ)) (budget asked : ℕ) (error : ClientError) (left : ℕ) (start last : MachineState) → ReadStarted first start id → asked + 6 ≡ budget
      → Waits (Allows tells) own_entries timings asked start (Err error) left last → ReadCommand first (ended_from last) id budget (Err error) left
  by_not_waited timings budget asked error left start last started opened waits = elim started [
    | IsQuiet why still status made ↦ quiet_not_waited start why status made budget asked opened error (Err error) left last refl
        (wait_still tells own timings start still asked (Err error) left last waits)
    | IsReading found body generation has reading offset success at is_named here fits ↦
        shown_not_waited start (reading_zero start found reading) (is_shown tells told first start id found body generation has offset success at is_named here
        fits reading) (of_looked first start has.looked)
        (same_range first start has.looked) at (read_named first.device.store.layout id found (records_of first) (body, generation) is_named here) budget asked
        opened error (Err error) left last refl (wait_once tells own start (reading_zero start found reading) timings asked (Err error) left last waits)
  ]

  pub read_command : (timings : Option (ℕ × ℕ)) (budget : ℕ) (result : Result (Unit {0}) ClientError) (left : ℕ) (last : MachineState) →
      Sequence (Allows tells) own_entries timings (read_requests id) budget first result left last
      → ReadCommand first last id budget result left
  read_command timings budget result left last sequence =
      elim (sequence_ends tells own timings (read_requests id) budget first result left last sequence) as (λ result left last ends. ReadCommand first last id budget result left) [
        | HasTold answers asked mid waited idle left asks waits spent ↦
            let opened = opened_read budget answers asked mid asks in
            by_told timings budget asked waited left mid idle opened.0 opened.1 spent waits
        | HasNotTold answers asked mid waited idle other asks waits short either ↦
            let opened = opened_read budget answers asked mid asks in
            by_not_told timings budget asked waited mid idle other opened.0 opened.1 short (same_value idle (status_in idle) other either) waits
        | HasNotWaited answers asked mid error left other asks waits ↦
            let opened = opened_read budget answers asked mid asks in
            by_not_waited timings budget asked error left mid other opened.0 opened.1 waits
        | HasNotAsked stop left other asks ↦
            opened_short first IsStarted 6 budget (λ stop left w. ReadCommand first (ended_from w) id budget (Err (Stopped stop)) left) stop (Err stop) left other (not_opened budget) refl
            (read_opens tells own first id small budget (Err stop) left other asks)
      ]
