-- The changes of a write or clear that runs, one a check.
use Rattle.std.proofs.Common.{◌≡◌, ◌≢◌, ◌⊎◌, ℕ, zero, suc, ◌+◌, ◌-◌, ◌*◌, ◌^◌, ◌<◌, ◌≤◌, Bool, true, false, cond, List, length, Option, Some, None, Result, Ok}
use Rattle.std.proofs.Common.{Err, refl, sym, ap, subst, ◌∙◌, arith, inl, inr}
use Rattle.std.specs.Prelude.{nat_eq, is_some, min}
use Rattle.std.specs.FinMap.{get}
use Rattle.std.proofs.lemmas.Bool.{cases_eq, cond-true, cond-false, eq-eqb, ne_eqb}
use Rattle.base_model.specs.Faults.{Rose}
use Rattle.base_model.specs.Layout.{Layout, room_of}
use Rattle.base_model.proofs.CrashLemmas.{Leaves-weaker, Leaves-then, Leaves-exit}
use Rattle.record_model.specs.Records.{Stored, parts_of}
use Rattle.record_model.specs.RecordMap.{Write, made_by, refusal_of, changes_of, changes_of_parts}
use Rattle.record_model.proofs.RefusalLemmas.{changes_of-new, changes_of-over}
use Rattle.record_store.specs.Store.{StoreView, Pending, Idle, Writing, stored, records_of as records_in, map_after, pending_after, changes_before_gate}
use Rattle.record_store.specs.Store.{changes_in_all, IsBusy, KeepsOrMakes, DividesAlike}
use Rattle.record_store.specs.Answers.{HasFaultsOf}
use Rattle.record_store.specs.declared.errors.StoreError.{StoreError}
use Rattle.record_store.specs.declared.errors.StoreError.TheVariants.{Flash}
use Rattle.erst_entries.specs.declared.actions.Action.TheVariants.{CheckBusyStatus}
use Rattle.erst_interp.specs.declared.stops.RunStop.{RunStop}
use Rattle.erst_interp.specs.declared.stops.RunStop.TheVariants.{Budget}
use Rattle.erst_client.specs.declared.errors.ClientError.{ClientError}
use Rattle.erst_client.specs.declared.errors.ClientError.TheVariants.{Stopped}
use Rattle.erst_client.specs.Requests.{Performs}
use Rattle.erst_client.specs.Sequences.{Pauses, Untimed, Timed, TooOften, Busy, NotYet, Again, Waits, IsIdle, IsStopped, IsLate}
use Rattle.erst_device.specs.declared.status.CommandStatus.TheVariants.{Success, HardwareNotAvailable}
use Rattle.erst_device.specs.Statuses.{status_of}
use Rattle.erst_device.specs.StoreCalls.{Stepped}
use Rattle.erst_device.specs.DeviceState.{DeviceState}
use Rattle.erst_device.specs.Actions.{stepped}
use Rattle.erst_machine.specs.MachineState.{MachineState}
use Rattle.erst_machine.specs.Allowed.{Allows, ActsOn}
use Rattle.erst_machine.specs.OwnTables.{own_entries}
use Rattle.erst_commands.specs.OwnPrograms.{answer_of, IsMade, StopsAtOnce, StopsBefore, StopsBehind, OwnProgramsRun}
use Rattle.erst_commands.specs.Changes.{waits_after}
use Rattle.erst_commands.proofs.ActionCases.{checks_busy}
use Rattle.erst_commands.proofs.MachineSteps.{on_device, acted_is}
use Rattle.erst_commands.proofs.OwnProgramLemmas.{steps-check}
use Rattle.erst_commands.proofs.SharedLemmas.{equivalent_then, idle_busy, same_number, no_stop, no_answer, same_stop, differ}

-- So many changes of what is pending are left. Each makes no other map, or the one that stands at the end
abbrev pub Leads : ℕ → Layout → Pending → Stored → Stored → Type 0
Leads zero layout pending map made = (pending ≡ Idle) × (map ≡ made)
Leads (suc left) layout pending map made =
    IsBusy pending × ((map_after layout pending map ≡ map) ⊎ (map_after layout pending map ≡ made)) × Leads left layout (pending_after layout pending) (map_after layout pending map) made

-- A write

module _ (layout : Layout) (id : ℕ) (bytes slots : List ℕ) (replaces : Bool) (map : Stored) where
  -- before the change that opens the gate, or behind it
  abbrev MapAt : ℕ → Stored → Type 0
  MapAt n m = ((n ≤ changes_before_gate layout bytes) × (m ≡ map)) ⊎ ((changes_before_gate layout bytes < n) × (m ≡ made_by (Write id bytes) map))

  at_gate : (n : ℕ) (m : Stored) → n ≡ changes_before_gate layout bytes → map_after layout (Writing id bytes slots replaces n) m ≡ made_by (Write id bytes) m
  at_gate n m is = cond-true {A = Stored} (nat_eq n (changes_before_gate layout bytes)) (made_by (Write id bytes) m) m (eq-eqb n (changes_before_gate layout bytes) is)

  off_gate : (n : ℕ) (m : Stored) → n ≢ changes_before_gate layout bytes → map_after layout (Writing id bytes slots replaces n) m ≡ m
  off_gate n m apart = cond-false {A = Stored} (nat_eq n (changes_before_gate layout bytes)) (made_by (Write id bytes) m) m (ne_eqb n (changes_before_gate layout bytes) apart)

  at_next : (n : ℕ) (m : Stored) → MapAt n m → MapAt (n + 1) (map_after layout (Writing id bytes slots replaces n) m)
  at_next n m at = elim at [
    | inl before ↦ elim (cases_eq n (changes_before_gate layout bytes)) [
      | inl is ↦ inr (omega (arith, is), at_gate n m is ∙ ap (made_by (Write id bytes)) before.1)
      | inr apart ↦ inl (omega (arith, apart, before.0), off_gate n m apart ∙ before.1)
    ]
    | inr behind ↦ inr (omega (arith, behind.0), off_gate n m (λ e. absurd (omega (arith, e, behind.0))) ∙ behind.1)
  ]

  either : (n : ℕ) (m : Stored) → MapAt n m → (map_after layout (Writing id bytes slots replaces n) m ≡ m) ⊎ (map_after layout (Writing id bytes slots replaces n) m ≡ made_by (Write id bytes) map)
  either n m at = elim (cases_eq n (changes_before_gate layout bytes)) [
    | inl is ↦ elim at [
      | inl before ↦ inr (at_gate n m is ∙ ap (made_by (Write id bytes)) before.1)
      | inr behind ↦ absurd (omega (arith, is, behind.0))
    ]
    | inr apart ↦ inl (off_gate n m apart)
  ]

  last_pending : (n : ℕ) → n + 1 ≡ changes_in_all layout bytes replaces → pending_after layout (Writing id bytes slots replaces n) ≡ Idle
  last_pending n is = cond-true {A = Pending} (nat_eq (n + 1) (changes_in_all layout bytes replaces)) Idle (Writing id bytes slots replaces (n + 1))
      (eq-eqb (n + 1) (changes_in_all layout bytes replaces) is)

  next_pending : (n : ℕ) → n + 1 ≢ changes_in_all layout bytes replaces → pending_after layout (Writing id bytes slots replaces n) ≡ Writing id bytes slots replaces (n + 1)
  next_pending n apart =
      cond-false {A = Pending} (nat_eq (n + 1) (changes_in_all layout bytes replaces)) Idle (Writing id bytes slots replaces (n + 1)) (ne_eqb (n + 1) (changes_in_all layout bytes replaces) apart)

  gate_below : (b : Bool) → changes_before_gate layout bytes < changes_before_gate layout bytes + cond b 2 1
  gate_below true = omega arith
  gate_below false = omega arith

  at_end : (n : ℕ) (m : Stored) → n ≡ changes_in_all layout bytes replaces → MapAt n m → m ≡ made_by (Write id bytes) map
  at_end n m is at = elim at [
    | inl before ↦ let below = gate_below replaces in absurd (omega (arith, is, before.0, below))
    | inr behind ↦ behind.1
  ]

  leads_on : (left n : ℕ) (m : Stored) → n + suc left ≡ changes_in_all layout bytes replaces → MapAt n m → Leads (suc left) layout (Writing id bytes slots replaces n) m (made_by (Write id bytes) map)
  leads_on zero n m sum at =
      let last : n + 1 ≡ changes_in_all layout bytes replaces = omega (arith, sum) in
      (tt, either n m at, (last_pending n last, at_end (n + 1) (map_after layout (Writing id bytes slots replaces n) m) last (at_next n m at)))
  leads_on (suc left) n m sum at = (
    tt,
    either n m at,
    subst (λ (p : Pending). Leads (suc left) layout p (map_after layout (Writing id bytes slots replaces n) m) (made_by (Write id bytes) map))
        (sym (next_pending n (λ e. absurd (omega (arith, sum, e)))))
        (leads_on left (n + 1) (map_after layout (Writing id bytes slots replaces n) m) (omega (arith, sum)) (at_next n m at)),
  )

  all_of : (n : ℕ) → n ≡ changes_in_all layout bytes replaces → Leads n layout (Writing id bytes slots replaces 0) map (made_by (Write id bytes) map)
  all_of zero is = let below = gate_below replaces in absurd (omega (arith, is, below))
  all_of (suc left) is = leads_on left 0 map (omega (arith, is)) (inl (omega arith, refl))

changes_by : (layout : Layout) (id : ℕ) (bytes : List ℕ) (map : Stored) (kept : Option (List ℕ × ℕ)) → get map id ≡ kept → refusal_of layout (Write id bytes) map ≡ None
    → changes_of layout (Write id bytes) map ≡ changes_in_all layout bytes (is_some kept)
changes_by layout id bytes map None is taken = changes_of-new layout id bytes map taken is
changes_by layout id bytes map (Some kept) is taken = changes_of-over layout id bytes map kept taken is

-- a write that has begun is led by exactly the changes that the map gives it
pub write_leads : (layout : Layout) (id : ℕ) (bytes slots : List ℕ) (map : Stored) → refusal_of layout (Write id bytes) map ≡ None
    → Leads (changes_of layout (Write id bytes) map) layout (Writing id bytes slots (is_some (get map id)) 0) map (made_by (Write id bytes) map)
write_leads layout id bytes slots map taken =
    all_of layout id bytes slots (is_some (get map id)) map (changes_of layout (Write id bytes) map) (changes_by layout id bytes map (get map id) refl taken)

pub some_changes : (layout : Layout) (id : ℕ) (bytes : List ℕ) (map : Stored) → refusal_of layout (Write id bytes) map ≡ None
    → (1 ≤ changes_of layout (Write id bytes) map) × (changes_of layout (Write id bytes) map ≤ changes_of_parts layout (length bytes) (parts_of (room_of layout) (length bytes)) + 2)
some_changes layout id bytes map taken = by_kept (get map id) (changes_by layout id bytes map (get map id) refl taken)
  where
    by_kept : (kept : Option (List ℕ × ℕ)) → changes_of layout (Write id bytes) map ≡ changes_in_all layout bytes (is_some kept)
        → (1 ≤ changes_of layout (Write id bytes) map) × (changes_of layout (Write id bytes) map ≤ changes_of_parts layout (length bytes) (parts_of (room_of layout) (length bytes)) + 2)
    by_kept None is = (omega (arith, is), omega (arith, is))
    by_kept (Some kept) is = (omega (arith, is), omega (arith, is))

-- A machine whose write or clear runs, after n of its changes, with so many left

pub record OnWay (start : MachineState) (made : Stored) (all n left pauses : ℕ) (w : MachineState) : Type 0 where
  pub sum : n + left ≡ all
  pub leads : Leads left start.device.store.layout w.device.store.pending (stored w.device.store) made
  pub crash : KeepsOrMakes start.device.store w.device.store made
  pub steps : w.device.store.flash.steps ≡ start.device.store.flash.steps + n
  pub faults : w.device.store.flash.faults ≡ start.device.store.flash.faults
  pub certain : w.device.store.in_doubt ≡ false
  pub equivalent : DividesAlike start.device.store w.device.store
  pub no_read : w.device.reading ≡ None
  pub status : w.device.status ≡ Success
  pub cursor : w.device.cursor ≡ start.device.cursor
  pub elsewhere : w ≡ record start { device = w.device; waited = waits_after pauses start.waited }

-- whatever came
pub record Midway (start : MachineState) (made : Stored) (all pauses : ℕ) (w : MachineState) : Type 0 where
  pub crash : KeepsOrMakes start.device.store w.device.store made
  pub few : w.device.store.flash.steps ≤ start.device.store.flash.steps + all
  pub never_falls : start.device.store.flash.faults ≤ w.device.store.flash.faults
  pub equivalent : DividesAlike start.device.store w.device.store
  pub cursor : w.device.cursor ≡ start.device.cursor
  pub elsewhere : w ≡ record start { device = w.device; waited = waits_after pauses start.waited }

-- its flash failed a change
pub record Broken (start : MachineState) (made : Stored) (all pauses : ℕ) (w : MachineState) : Type 0 where
  pub midway : Midway start made all pauses w
  pub rose : Rose start.device.store.flash.faults w.device.store.flash.faults
  pub idle : w.device.store.pending ≡ Idle
  pub status : w.device.status ≡ HardwareNotAvailable

pub of_way : (start : MachineState) (made : Stored) (all n left pauses : ℕ) (w : MachineState) → OnWay start made all n left pauses w → Midway start made all pauses w
of_way start made all n left pauses w way =
    record { crash = way.crash; few = omega (arith, way.sum, way.steps); never_falls = omega (arith, way.faults); equivalent = way.equivalent; cursor = way.cursor; elsewhere = way.elsewhere }

-- a check answers 1 where changes are left
abbrev value_of : ℕ → ℕ
value_of zero = 0
value_of (suc left) = 1

pub data Moved (start : MachineState) (made : Stored) (all n left pauses : ℕ) (new : MachineState) : Type 0 where
  MovedOn : OnWay start made all (n + 1) left pauses new → new.device.value ≡ value_of left → Moved start made all n left pauses new
  Broke : Broken start made all pauses new → new.device.value ≡ 0 → Moved start made all n left pauses new

-- power lost in one more change
way_crash : (old mid new : StoreView) (made : Stored) → DividesAlike old mid → KeepsOrMakes old mid made →
    (map_after old.layout mid.pending (stored mid) ≡ stored mid) ⊎ (map_after old.layout mid.pending (stored mid) ≡ made)
    → KeepsOrMakes mid new (map_after mid.layout mid.pending (stored mid)) → KeepsOrMakes old new made
way_crash old mid new made equivalent before step_map step =
    Leaves-then old.flash.told mid.flash.told new.flash.told (λ image. (records_in old.layout image ≡ stored old) ⊎ (records_in old.layout image ≡ made)) before
    (Leaves-weaker mid.flash.told new.flash.told
    (λ image. (records_in mid.layout image ≡ stored mid) ⊎ (records_in mid.layout image ≡ map_after mid.layout mid.pending (stored mid)))
    (λ image. (records_in old.layout image ≡ stored old) ⊎ (records_in old.layout image ≡ made)) step
    (λ image either. elim either [
      | inl kept ↦ at_mid image kept
      | inr changed ↦ elim step_map [
        | inl same ↦ at_mid image (changed ∙ by_layout ∙ same)
        | inr ends ↦ inr (equivalent_stored image ∙ changed ∙ by_layout ∙ ends)
      ]
    ]))
  where
    by_layout : map_after mid.layout mid.pending (stored mid) ≡ map_after old.layout mid.pending (stored mid)
    by_layout = ap (λ (l : Layout). map_after l mid.pending (stored mid)) equivalent.layout

    equivalent_stored : (image : List ℕ) → records_in old.layout image ≡ records_in mid.layout image
    equivalent_stored image = ap (λ (l : Layout). records_in l image) (sym equivalent.layout)

    at_mid : (image : List ℕ) → records_in mid.layout image ≡ stored mid → (records_in old.layout image ≡ stored old) ⊎ (records_in old.layout image ≡ made)
    at_mid image same = elim (Leaves-exit old.flash.told mid.flash.told (λ x. (records_in old.layout x ≡ stored old) ⊎ (records_in old.layout x ≡ made)) before) [
      | inl first ↦ inl (equivalent_stored image ∙ same ∙ sym (equivalent_stored mid.flash.told.image) ∙ first)
      | inr last ↦ inr (equivalent_stored image ∙ same ∙ sym (equivalent_stored mid.flash.told.image) ∙ last)
    ]

module _ (tells : Type 0) (told : tells) (start : MachineState) (made : Stored) (all n left pauses : ℕ) (mid : MachineState) (way : OnWay start made all n (suc left) pauses mid) where
  led : (store : StoreView) (last : Bool) → Stepped tells mid.device.store store (Ok last) → Leads left start.device.store.layout store.pending (stored store) made
  led store last step =
      let layout = way.equivalent.layout in
      subst (λ (p : Pending). Leads left start.device.store.layout p (stored store) made)
      (ap (λ (l : Layout). pending_after l mid.device.store.pending) (sym layout) ∙ sym step.stepped.1)
      (subst (λ (m : Stored). Leads left start.device.store.layout (pending_after start.device.store.layout mid.device.store.pending) m made)
      (ap (λ (l : Layout). map_after l mid.device.store.pending (stored mid.device.store)) (sym layout) ∙ sym (step.answer told)) way.leads.2)

  crashed : (store : StoreView) → KeepsOrMakes mid.device.store store (map_after mid.device.store.layout mid.device.store.pending (stored mid.device.store)) →
      KeepsOrMakes start.device.store store made
  crashed store step = way_crash start.device.store mid.device.store store made way.equivalent way.crash way.leads.1 step

  went : (new : MachineState) (store : StoreView) (last : Bool) → Stepped tells mid.device.store store (Ok last) → new.device ≡ stepped (Ok last) store mid.device → new ≡ on_device mid new.device
      → OnWay start made all (n + 1) left pauses new
  went new store last step is there =
      let store_is : store ≡ new.device.store = sym (ap (λ (d : DeviceState). d.store) is) in
      let one : store.flash.steps ≡ mid.device.store.flash.steps + 1 = step.one in
      let before : mid.device.store.flash.steps ≡ start.device.store.flash.steps + n = way.steps in
      record {
        sum = omega (arith, way.sum);
        leads = subst (λ (s : StoreView). Leads left start.device.store.layout s.pending (stored s) made) store_is (led store last step);
        crash = subst (λ (s : StoreView). KeepsOrMakes start.device.store s made) store_is (crashed store (step.crash told));
        steps = subst (λ (s : StoreView). s.flash.steps ≡ start.device.store.flash.steps + (n + 1)) store_is (omega (arith, one, before));
        faults = subst (λ (s : StoreView). s.flash.faults ≡ start.device.store.flash.faults) store_is (step.cause ∙ way.faults);
        certain = subst (λ (s : StoreView). s.in_doubt ≡ false) store_is step.stepped.0;
        equivalent = subst (λ (s : StoreView). DividesAlike start.device.store s) store_is (equivalent_then start.device.store mid.device.store store way.equivalent step.equivalent);
        no_read = ap (λ (d : DeviceState). d.reading) is ∙ way.no_read;
        status = ap (λ (d : DeviceState). d.status) is ∙ way.status;
        cursor = ap (λ (d : DeviceState). d.cursor) is ∙ way.cursor;
        elsewhere = there ∙ ap (λ (m : MachineState). on_device m new.device) way.elsewhere;
      }

  value_moved : (k : ℕ) (store : StoreView) (last : Bool) → Leads k start.device.store.layout store.pending (stored store) made →
      (last ≡ true) ⊎ (last ≡ false × (store.pending ≡ Idle → ⊥)) → (last ≡ true → store.pending ≡ Idle)
      → (stepped (Ok last) store mid.device).value ≡ value_of k
  value_moved zero store true leads ends idle = refl
  value_moved zero store false leads ends idle = elim ends [
    | inl is ↦ differ (sym is)
    | inr more ↦ absurd (more.1 leads.0)
  ]
  value_moved (suc k) store true leads ends idle = absurd (idle_busy store.pending (idle refl) leads.0)
  value_moved (suc k) store false leads ends idle = refl

  by_result : (new : MachineState) (store : StoreView) (result : Result Bool StoreError) → Stepped tells mid.device.store store result →
      new.device ≡ stepped result store mid.device → new ≡ on_device mid new.device
      → Moved start made all n left pauses new
  by_result new store (Ok last) step is there =
      MovedOn (went new store last step is there)
      (ap (λ (d : DeviceState). d.value) is ∙ value_moved left store last (led store last step) step.stepped.2 step.stepped.3)
  by_result new store (Err error) step is there =
      let store_is : store ≡ new.device.store = sym (ap (λ (d : DeviceState). d.store) is) in
      let flash : error ≡ Flash = step.error in
      let cause = subst (λ (e : StoreError). HasFaultsOf {T = Bool} mid.device.store.flash.faults store.flash.faults (Err e)) flash step.cause in
      let most : store.flash.steps ≤ mid.device.store.flash.steps + 1 = step.at_most in
      Broke
      (record {
        midway = record {
          crash = subst (λ (s : StoreView). KeepsOrMakes start.device.store s made) store_is (crashed store (step.crash told));
          few = subst (λ (s : StoreView). s.flash.steps ≤ start.device.store.flash.steps + all) store_is (omega (arith, most, way.steps, way.sum));
          never_falls = subst (λ (s : StoreView). start.device.store.flash.faults ≤ s.flash.faults) store_is (omega (arith, way.faults, cause.0));
          equivalent = subst (λ (s : StoreView). DividesAlike start.device.store s) store_is (equivalent_then start.device.store mid.device.store store way.equivalent step.equivalent);
          cursor = ap (λ (d : DeviceState). d.cursor) is ∙ way.cursor;
          elsewhere = there ∙ ap (λ (m : MachineState). on_device m new.device) way.elsewhere;
        };
        rose = subst (λ (s : StoreView). Rose start.device.store.flash.faults s.flash.faults) store_is (subst (λ (k : ℕ). Rose k store.flash.faults) way.faults cause.1);
        idle = subst (λ (s : StoreView). s.pending ≡ Idle) store_is step.stepped.idle;
        status = ap (λ (d : DeviceState). d.status) is ∙ ap status_of flash;
      })
      (ap (λ (d : DeviceState). d.value) is)

  pub moves : (new : MachineState) → ActsOn tells mid 0x6 new → Moved start made all n left pauses new
  moves new acted =
      let made_one = checks_busy tells mid.device mid.memory.range new.device new.memory.range way.leads.0 way.no_read acted.acts in
      by_result new made_one.store made_one.result made_one.step made_one.new_is (acted_is tells mid 0x6 new new.device acted refl made_one.range_is)

-- The checks

data BusyChecked (start : MachineState) (made : Stored) (all n left pauses : ℕ) (w : MachineState) (budget : ℕ) : Result ℕ RunStop → ℕ → MachineState → Type 0 where
  Checks : (new : MachineState) (after : ℕ) → Moved start made all n left pauses new → after + 2 ≡ budget → BusyChecked start made all n left pauses w budget
      (Ok (answer_of CheckBusyStatus 0 new.device.value)) after new
  ChecksNot : (new : MachineState) → Midway start made all pauses new → budget < 2 → BusyChecked start made all n left pauses w budget (Err Budget) 0 new

of_moved : (start : MachineState) (made : Stored) (all n left pauses : ℕ) (new : MachineState) → Moved start made all n left pauses new → Midway start made all pauses new
of_moved start made all n left pauses new moved = elim moved [
  | MovedOn way value ↦ of_way start made all (n + 1) left pauses new way
  | Broke broken value ↦ broken.midway
]

check_busy : (tells : Type 0) → OwnProgramsRun tells → tells → (start : MachineState) (made : Stored) (all n left pauses : ℕ) (w : MachineState) →
    OnWay start made all n (suc left) pauses w → (budget : ℕ) (result : Result ℕ RunStop)
    (after : ℕ) (last : MachineState) → Performs (Allows tells) own_entries CheckBusyStatus 0 budget w result after last → BusyChecked start made all n left pauses w budget result after last
check_busy tells own told start made all n left pauses w way budget result after last run =
    elim (own CheckBusyStatus 0 budget w result after last run) as (λ result after last run. BusyChecked start made all n left pauses w budget result after last) [
      | IsMade after last acted spent ↦ Checks last after (moves tells told start made all n left pauses w way last acted) (ap (λ (k : ℕ). after + k) (sym steps-check) ∙ spent)
      | StopsAtOnce none ↦ ChecksNot w (of_way start made all n (suc left) pauses w way) (omega (arith, none))
      | StopsBefore few took ↦ absurd (cc)
      | StopsBehind last few shows acted ↦ ChecksNot last (of_moved start made all n left pauses last (moves tells told start made all n left pauses w way last acted)) (omega (arith, few))
    ]

record CheckedOk (start : MachineState) (made : Stored) (all n left pauses budget answer after : ℕ) (last : MachineState) : Type 0 where
  moved : Moved start made all n left pauses last
  answer_is : answer ≡ answer_of CheckBusyStatus 0 last.device.value
  spent : after + 2 ≡ budget

checked_ok : (start : MachineState) (made : Stored) (all n left pauses : ℕ) (w : MachineState) (budget : ℕ) (result : Result ℕ RunStop) (after : ℕ)
    (last : MachineState) (answer : ℕ) → result ≡ Ok answer
    → BusyChecked start made all n left pauses w budget result after last → CheckedOk start made all n left pauses budget answer after last
checked_ok start made all n left pauses w budget result after last answer is checked =
    (elim checked as (λ result after last checked. result ≡ Ok answer → CheckedOk start made all n left pauses budget answer after last) [
      | Checks new after moved spent ↦ λ e. record { moved = moved; answer_is = sym (same_number _ answer e); spent = spent }
      | ChecksNot new midway short ↦ λ e. absurd (no_stop answer Budget e)
    ]) is

-- a pause of a client that knows its timings
pause_ok : (tells : Type 0) (known : ℕ × ℕ) (busy : ℕ) (old : MachineState) (result : Result (Unit {0}) ClientError) (new : MachineState) → result ≡ Ok tt →
    Pauses (Allows tells) (Some known) busy old result new
    → new ≡ record old { waited = min (old.waited + 10) (2 ^ 64 - 1) }
pause_ok tells known busy old result new is pauses = (elim pauses as (λ result new pauses. result ≡ Ok tt → new ≡ record old { waited = min (old.waited + 10) (2 ^ 64 - 1) }) [
  | Untimed none ↦ λ e. absurd (cc none)
  | Timed times new same early waited ↦ λ e. waited
  | TooOften times same late ↦ λ e. absurd (cc e)
]) is

same_known : (x y : ℕ × ℕ) → Some x ≡ Some y → x ≡ y
same_known x y e = cc

pub pause_late : (tells : Type 0) (known : ℕ × ℕ) (busy : ℕ) (old : MachineState) (result : Result (Unit {0}) ClientError) (new : MachineState) (error : ClientError) → result ≡ Err error
    → Pauses (Allows tells) (Some known) busy old result new → known.0 < 10 * busy
pause_late tells known busy old result new error is pauses = (elim pauses as (λ result new pauses. result ≡ Err error → known.0 < 10 * busy) [
  | Untimed none ↦ λ e. absurd (cc none)
  | Timed times new same early waited ↦ λ e. absurd (cc e)
  | TooOften times same late ↦ λ e. subst (λ (k : ℕ × ℕ). k.0 < 10 * busy) (sym (same_known known times same)) late
]) is

pause_way : (start : MachineState) (made : Stored) (all n left pauses : ℕ) (next new : MachineState) →
    new ≡ record next { waited = min (next.waited + 10) (2 ^ 64 - 1) } → OnWay start made all n left pauses next
    → OnWay start made all n left (suc pauses) new
pause_way start made all n left pauses next new is way =
    let device : new.device ≡ next.device = ap (λ (m : MachineState). m.device) is in
    let waited : next.waited ≡ waits_after pauses start.waited = ap (λ (m : MachineState). m.waited) way.elsewhere in
    subst (λ (m : MachineState). OnWay start made all n left (suc pauses) m) (sym is)
    (record {
      sum = way.sum;
      leads = way.leads;
      crash = way.crash;
      steps = way.steps;
      faults = way.faults;
      certain = way.certain;
      equivalent = way.equivalent;
      no_read = way.no_read;
      status = way.status;
      cursor = way.cursor;
      elsewhere = ap (λ (m : MachineState). record m { waited = min (next.waited + 10) (2 ^ 64 - 1) }) way.elsewhere
          ∙ ap (λ (k : ℕ). record start { device = next.device; waited = min (k + 10) (2 ^ 64 - 1) }) waited;
    })

-- the checks so far
record WentOn (start : MachineState) (made : Stored) (all budget busy left : ℕ) (w : MachineState) : Type 0 where
  rest : ℕ
  way : OnWay start made all busy (suc rest) busy w
  spent : left + 2 * busy ≡ budget

module _ (tells : Type 0) (own : OwnProgramsRun tells) (told : tells) (start : MachineState) (made : Stored) (more : ℕ) (known : ℕ × ℕ) (begun : OnWay start made (suc more) 0 (suc more) 0 start) where
  went_on : (budget busy left : ℕ) (w : MachineState) → Busy (Allows tells) own_entries (Some known) budget start busy left w → WentOn start made (suc more) budget busy left w
  went_on budget busy left w NotYet = record { rest = more; way = begun; spent = omega arith }
  went_on budget busy left w (Again before asked mid answer after next new earlier run some pause) =
      let so_far = went_on budget before asked mid earlier in
      let checked = checked_ok start made (suc more) before so_far.rest before mid asked (Ok answer) after next answer refl
      (check_busy tells own told start made (suc more) before so_far.rest before mid so_far.way asked (Ok answer) after next run) in
      let paused = pause_ok tells known (suc before) next (Ok tt) new refl pause in
      further before answer after asked next new so_far.rest checked some paused so_far.spent
    where
      further : (before answer after asked : ℕ) (next new : MachineState) (rest : ℕ) → CheckedOk start made (suc more) before rest before asked answer after next → (answer ≡ 0 → ⊥)
          → new ≡ record next { waited = min (next.waited + 10) (2 ^ 64 - 1) } → asked + 2 * before ≡ budget → WentOn start made (suc more) budget (suc before) after new
      further before answer after asked next new zero checked some paused spent = elim checked.moved [
        | MovedOn way value ↦ absurd (some (checked.answer_is ∙ ap (answer_of CheckBusyStatus 0) value))
        | Broke broken value ↦ absurd (some (checked.answer_is ∙ ap (answer_of CheckBusyStatus 0) value))
      ]
      further before answer after asked next new (suc rest) checked some paused spent = elim checked.moved [
        | MovedOn way value ↦
            let one_more : before + 1 ≡ suc before = omega arith in
            record {
              rest = rest;
              way = pause_way start made (suc more) (suc before) (suc rest) before next new paused (subst (λ (n : ℕ). OnWay start made (suc more) n (suc rest) before next) one_more way);
              spent = omega (arith, checked.spent, spent);
            }
        | Broke broken value ↦ absurd (some (checked.answer_is ∙ ap (answer_of CheckBusyStatus 0) value))
      ]

-- how the checks end
pub data WayWaited (start : MachineState) (made : Stored) (all budget : ℕ) : Result (Unit {0}) ClientError → ℕ → MachineState → Type 0 where
  WayEnds : (busy left : ℕ) (last : MachineState) → OnWay start made all (busy + 1) 0 busy last → left + 2 * (busy + 1) ≡ budget → WayWaited start made all budget (Ok tt) left last
  WayBreaks : (busy left : ℕ) (last : MachineState) → Broken start made all busy last → busy + 1 ≤ all → left + 2 * (busy + 1) ≡ budget → WayWaited start made all budget (Ok tt) left last
  WayStops : (busy : ℕ) (last : MachineState) → Midway start made all busy last → busy + 1 ≤ all → budget < 2 * (busy + 1) → WayWaited start made all budget (Err (Stopped Budget)) 0 last

module _ (tells : Type 0) (own : OwnProgramsRun tells) (told : tells) (start : MachineState) (made : Stored) (more : ℕ) (known : ℕ × ℕ)
    (begun : OnWay start made (suc more) 0 (suc more) 0 start) (enough : 10 * suc more ≤ known.0) where
  ended : (budget busy asked left : ℕ) (last : MachineState) (rest : ℕ) → busy + suc rest ≡ suc more → CheckedOk start made (suc more) busy rest busy asked 0 left last → asked + 2 * busy ≡ budget
      → WayWaited start made (suc more) budget (Ok tt) left last
  ended budget busy asked left last zero sum checked spent = elim checked.moved [
    | MovedOn way value ↦ WayEnds busy left last way (omega (arith, checked.spent, spent))
    | Broke broken value ↦ WayBreaks busy left last broken (omega (arith, sum)) (omega (arith, checked.spent, spent))
  ]
  ended budget busy asked left last (suc rest) sum checked spent = elim checked.moved [
    | MovedOn way value ↦ let clash : 0 ≡ 1 = checked.answer_is ∙ ap (answer_of CheckBusyStatus 0) value in absurd (omega (arith, clash))
    | Broke broken value ↦ WayBreaks busy left last broken (omega (arith, sum)) (omega (arith, checked.spent, spent))
  ]

  stopped : (budget busy asked rest left : ℕ) (w last : MachineState) (stop : RunStop) (result : Result ℕ RunStop) → result ≡ Err stop → busy + suc rest ≡ suc more → asked + 2 * busy ≡ budget
      → BusyChecked start made (suc more) busy rest busy w asked result left last → WayWaited start made (suc more) budget (Err (Stopped stop)) left last
  stopped budget busy asked rest left w last stop result is sum spent checked =
      (elim checked as (λ result left last checked. result ≡ Err stop → WayWaited start made (suc more) budget (Err (Stopped stop)) left last) [
        | Checks new after moved took ↦ λ e. absurd (no_answer _ stop e)
        | ChecksNot new midway short ↦ λ e.
            subst (λ (s : RunStop). WayWaited start made (suc more) budget (Err (Stopped s)) 0 new) (same_stop Budget stop e)
            (WayStops busy new midway (omega (arith, sum)) (omega (arith, spent, short)))
      ]) is

  never_late : (busy answer after asked rest : ℕ) (next : MachineState) → CheckedOk start made (suc more) busy rest busy asked answer after next →
      (answer ≡ 0 → ⊥) → busy + suc rest ≡ suc more → known.0 < 10 * suc busy → ⊥
  never_late busy answer after asked zero next checked some sum late = elim checked.moved [
    | MovedOn way value ↦ some (checked.answer_is ∙ ap (answer_of CheckBusyStatus 0) value)
    | Broke broken value ↦ some (checked.answer_is ∙ ap (answer_of CheckBusyStatus 0) value)
  ]
  never_late busy answer after asked (suc rest) next checked some sum late = absurd (omega (arith, sum, late, enough))

  pub wait_way : (budget : ℕ) (result : Result (Unit {0}) ClientError) (left : ℕ) (last : MachineState) → Waits (Allows tells) own_entries (Some known) budget start result left last
      → WayWaited start made (suc more) budget result left last
  wait_way budget result left last waits = elim waits as (λ result left last waits. WayWaited start made (suc more) budget result left last) [
    | IsIdle busy asked mid left last earlier run ↦
        let so_far = went_on tells own told start made more known begun budget busy asked mid earlier in
        ended budget busy asked left last so_far.rest so_far.way.sum
        (checked_ok start made (suc more) busy so_far.rest busy mid asked (Ok 0) left last 0 refl (check_busy tells own told start made (suc more) busy
        so_far.rest busy mid so_far.way asked (Ok 0) left last run)) so_far.spent
    | IsStopped busy asked mid stop left last earlier run ↦
        let so_far = went_on tells own told start made more known begun budget busy asked mid earlier in
        stopped budget busy asked so_far.rest left mid last stop (Err stop) refl so_far.way.sum so_far.spent
        (check_busy tells own told start made (suc more) busy so_far.rest busy mid so_far.way asked (Err stop) left last run)
    | IsLate busy asked mid answer after next error last earlier run some pause ↦
        let so_far = went_on tells own told start made more known begun budget busy asked mid earlier in
        absurd (never_late busy answer after asked so_far.rest next
        (checked_ok start made (suc more) busy so_far.rest busy mid asked (Ok answer) after next answer refl
        (check_busy tells own told start made (suc more) busy so_far.rest busy mid so_far.way asked (Ok answer) after next run)) some so_far.way.sum
        (pause_late tells known (suc busy) next (Err error) last error refl pause))
  ]
