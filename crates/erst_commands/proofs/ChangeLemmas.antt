-- A write or clear from its start to END_OPERATION.
use Rattle.std.proofs.Common.{◌≡◌, ◌⊎◌, ℕ, suc, ◌+◌, ◌*◌, ◌<◌, ◌≤◌, max, true, false, cond, List, Some, None, Result, Ok, Err, refl, sym, ap, subst, ◌∙◌, arith, inl, inr}
use Rattle.base_model.specs.Faults.{Rose}
use Rattle.base_model.specs.Flash.{FlashState}
use Rattle.base_model.specs.Layout.{Layout}
use Rattle.base_model.proofs.CrashLemmas.{Leaves-none, Leaves-weaker, Leaves-then, Leaves-exit}
use Rattle.record_model.specs.Records.{Stored, is_reserved}
use Rattle.record_model.specs.RecordMap.{Command, Refusal, refusal_of, after, changes_of}
use Rattle.record_model.proofs.RefusalLemmas.{changes_of-refused}
use Rattle.record_store.specs.Store.{StoreView, Pending, Idle, stored, records_of as records_in, KeepsMap, KeepsOrMakes, DividesAlike, abandoned}
use Rattle.record_store.specs.Answers.{copies_of}
use Rattle.erst_interp.specs.declared.stops.RunStop.{RunStop}
use Rattle.erst_interp.specs.declared.stops.RunStop.TheVariants.{Budget}
use Rattle.erst_client.specs.declared.errors.ClientError.{ClientError}
use Rattle.erst_client.specs.declared.errors.ClientError.TheVariants.{Hardware, Stopped}
use Rattle.erst_client.specs.declared.requests.Request.{Request}
use Rattle.erst_client.specs.Requests.{Asks}
use Rattle.erst_client.specs.Sequences.{Waits, judged, Sequence}
use Rattle.erst_client.specs.Steps.{steps_needed}
use Rattle.erst_device.specs.declared.status.CommandStatus.{CommandStatus}
use Rattle.erst_device.specs.declared.status.CommandStatus.TheVariants.{Success, HardwareNotAvailable}
use Rattle.erst_device.specs.Statuses.{number_of}
use Rattle.erst_device.specs.Timings.{most_changes}
use Rattle.erst_device.specs.DeviceState.{DeviceState, IsStill}
use Rattle.erst_device.proofs.ActionLemmas.{kept_map}
use Rattle.erst_machine.specs.MachineState.{MachineState, records_of}
use Rattle.erst_machine.specs.Allowed.{Allows}
use Rattle.erst_machine.specs.OwnTables.{own_entries}
use Rattle.erst_commands.specs.OwnPrograms.{with_value, OwnProgramsRun}
use Rattle.erst_commands.specs.Attached.{own_client}
use Rattle.erst_commands.specs.Changes.{IsErrorOf, waits_after, ChangeLeaves, ChangeCommand, IsTaken, IsRefused, IsFailed, IsStopped}
use Rattle.erst_commands.proofs.MachineSteps.{on_device}
use Rattle.erst_commands.proofs.SequenceLemmas.{Untouched, Opened, StillWaited, IsAtOnce, IsShort, wait_still, ended_from, status_in, HasTold, HasNotTold}
use Rattle.erst_commands.proofs.SequenceLemmas.{HasNotWaited, HasNotAsked, sequence_ends, opened_ok, opened_short}
use Rattle.erst_commands.proofs.WayLemmas.{Leads, OnWay, Broken, Midway, of_way, WayWaited, WayEnds, WayBreaks, WayStops, wait_way}
use Rattle.erst_commands.proofs.SharedLemmas.{equivalent_then}
use Rattle.record_store.proofs.Words.{doubt_after}

-- what a start leaves, whatever it answers
pub record Base (first start : MachineState) : Type 0 where
  pub kept : KeepsMap first.device.store start.device.store
  pub equivalent : DividesAlike first.device.store start.device.store
  pub few : start.device.store.flash.steps ≤ first.device.store.flash.steps + 1
  pub never_falls : first.device.store.flash.faults ≤ start.device.store.flash.faults
  pub cursor : start.device.cursor ≡ first.device.cursor
  pub elsewhere : start ≡ on_device first start.device

-- a command that runs
pub record StartedChange (first start : MachineState) (id : ℕ) (command : Command) : Type 0 where
  pub base : Base first start
  pub usable : is_reserved id ≡ false
  pub taken : refusal_of first.device.store.layout command (records_of first) ≡ None
  pub steps : start.device.store.flash.steps ≡ first.device.store.flash.steps + copies_of (abandoned first.device.store)
  pub faults : start.device.store.flash.faults ≡ first.device.store.flash.faults
  pub certain : start.device.store.in_doubt ≡ false
  pub no_read : start.device.reading ≡ None
  pub status : start.device.status ≡ Success
  pub more : ℕ
  pub all : changes_of first.device.store.layout command (records_of first) ≡ suc more
  pub leads : Leads (suc more) start.device.store.layout start.device.store.pending (stored start.device.store) (after first.device.store.layout command (records_of first))

-- the second copies that a command on an identifier ends before all else
abbrev pub copies_first : ℕ → StoreView → ℕ
copies_first id store = cond (is_reserved id) 0 (copies_of (abandoned store))

-- one that does not
pub data UnstartedAnswer (first start : MachineState) (id : ℕ) (command : Command) : Type 0 where
  RefusedBy : (refusal : Refusal) (error : ClientError) → refusal_of first.device.store.layout command (records_of first) ≡ Some refusal →
      IsErrorOf refusal error → judged (number_of start.device.status) ≡ Err error
      → start.device.store.flash.steps ≡ first.device.store.flash.steps + copies_first id first.device.store → start.device.store.flash.faults ≡ first.device.store.flash.faults
      → (is_reserved id ≡ false → start.device.store.in_doubt ≡ false) → (is_reserved id ≡ true → start.device.store ≡ abandoned first.device.store) → UnstartedAnswer first start id command
  FailedBy : is_reserved id ≡ false → Rose first.device.store.flash.faults start.device.store.flash.faults → start.device.status ≡ HardwareNotAvailable → UnstartedAnswer first start id command

pub record UnstartedChange (first start : MachineState) (id : ℕ) (command : Command) : Type 0 where
  pub base : Base first start
  pub still : IsStill start.device
  pub answer : UnstartedAnswer first start id command

-- the start keeps the records, and what follows keeps them or makes these
begun_then : (old mid new : StoreView) (made : Stored) → KeepsMap old mid → DividesAlike old mid → KeepsOrMakes mid new made → KeepsOrMakes old new made
begun_then old mid new made kept equivalent makes =
    Leaves-then old.flash.told mid.flash.told new.flash.told (λ image. (records_in old.layout image ≡ stored old) ⊎ (records_in old.layout image ≡ made))
    (Leaves-weaker old.flash.told mid.flash.told (λ image. records_in old.layout image ≡ stored old)
    (λ image. (records_in old.layout image ≡ stored old) ⊎ (records_in old.layout image ≡ made)) kept (λ image same. inl same))
    (Leaves-weaker mid.flash.told new.flash.told
    (λ image. (records_in mid.layout image ≡ stored mid) ⊎ (records_in mid.layout image ≡ made))
    (λ image. (records_in old.layout image ≡ stored old) ⊎ (records_in old.layout image ≡ made)) makes
    (λ image either. elim either [
      | inl same ↦ inl (by_layout image ∙ same ∙ kept_map old mid kept equivalent)
      | inr ends ↦ inr (by_layout image ∙ ends)
    ]))
  where
    by_layout : (image : List ℕ) → records_in old.layout image ≡ records_in mid.layout image
    by_layout image = ap (λ (l : Layout). records_in l image) (sym equivalent.layout)

pub abandoned_idle : (store : StoreView) → store.pending ≡ Idle → abandoned store ≡ store
abandoned_idle store idle =
    ap (λ (p : Pending). record store { in_doubt = doubt_after p store.in_doubt; pending = Idle }) idle ∙ ap (λ (p : Pending). record store { pending = p }) (sym idle)

-- the records at the end are those from before, or these
exit_of : (old new : StoreView) (made : Stored) → KeepsOrMakes old new made → DividesAlike old new → (stored new ≡ stored old) ⊎ (stored new ≡ made)
exit_of old new made crash equivalent =
    let same : stored new ≡ records_in old.layout new.flash.told.image = ap (λ (l : Layout). records_in l new.flash.told.image) equivalent.layout in
    elim (Leaves-exit old.flash.told new.flash.told (λ image. (records_in old.layout image ≡ stored old) ⊎ (records_in old.layout image ≡ made)) crash) [
      | inl kept ↦ inl (same ∙ kept)
      | inr is_made ↦ inr (same ∙ is_made)
    ]

-- from a machine on the way to the end of the sequence
leaves_from : (first start : MachineState) (command : Command) (all pauses value : ℕ) (w : MachineState) → Base first start → all ≤ changes_of first.device.store.layout command (records_of first)
    → Midway start (after first.device.store.layout command (records_of first)) all pauses w → ChangeLeaves first (ended_from (with_value value w)) command pauses
leaves_from first start command all pauses value w base few midway = record {
  crash = begun_then first.device.store start.device.store w.device.store (after first.device.store.layout command (records_of first)) base.kept base.equivalent midway.crash;
  few = omega (arith, base.few, midway.few, few);
  idle = refl;
  equivalent = let both = equivalent_then first.device.store start.device.store w.device.store base.equivalent midway.equivalent in
      record { layout = both.layout; size = both.size; sector_size = both.sector_size };
  never_falls = omega (arith, base.never_falls, midway.never_falls);
  cursor = midway.cursor ∙ base.cursor;
  elsewhere =
      let device : DeviceState = (ended_from (with_value value w)).device in
      ap (λ (m : MachineState). record m { device = device }) midway.elsewhere
      ∙ ap (λ (m : MachineState). record m { device = device; waited = waits_after pauses m.waited }) base.elsewhere;
}

midway_none : (start : MachineState) (made : Stored) → Midway start made 0 0 start
midway_none start made = record {
  crash = Leaves-none start.device.store.flash.told _ (inl refl);
  few = omega arith;
  never_falls = omega arith;
  equivalent = record { layout = refl; size = refl; sector_size = refl };
  cursor = refl;
  elsewhere = refl;
}

-- nothing was touched
base_untouched : (first w : MachineState) → Untouched first w → Base first w
base_untouched first w is = record {
  kept = subst (λ (f : FlashState). KeepsMap first.device.store (record first.device.store { flash = f })) (sym is.flash) (Leaves-none first.device.store.flash.told _ refl);
  equivalent = record { layout = is.layout; size = ap (λ (f : FlashState). f.size) is.flash; sector_size = ap (λ (f : FlashState). f.sector_size) is.flash };
  few = omega (arith, ap (λ (f : FlashState). f.steps) is.flash);
  never_falls = omega (arith, ap (λ (f : FlashState). f.faults) is.flash);
  cursor = is.cursor;
  elsewhere = is.elsewhere;
}

copies_usable : (id : ℕ) (store : StoreView) → is_reserved id ≡ false → copies_first id store ≡ copies_of (abandoned store)
copies_usable id store usable = rw usable refl

module _ (tells : Type 0) (own : OwnProgramsRun tells) (told : tells) (first : MachineState) (id : ℕ) (command : Command) (requests : List Request) (budget : ℕ)
    (needs : (checks : ℕ) → steps_needed own_entries requests checks ≡ 6 + 2 * checks)
    (limit : changes_of first.device.store.layout command (records_of first) ≤ most_changes first.device.store.layout) where
  -- one that runs
  way_of : (start : MachineState) (started : StartedChange first start id command) → OnWay start (after first.device.store.layout command (records_of first))
      (suc started.more) 0 (suc started.more) 0 start
  way_of start started = record {
    sum = omega arith;
    leads = started.leads;
    crash = Leaves-none start.device.store.flash.told _ (inl refl);
    steps = omega arith;
    faults = refl;
    certain = started.certain;
    equivalent = record { layout = refl; size = refl; sector_size = refl };
    no_read = started.no_read;
    status = started.status;
    cursor = refl;
    elsewhere = refl;
  }

  waited_way : (start : MachineState) (started : StartedChange first start id command) (asked : ℕ) (result : Result (Unit {0}) ClientError) (left : ℕ) (last : MachineState)
      → Waits (Allows tells) own_entries (own_client first).timings asked start result left last →
      WayWaited start (after first.device.store.layout command (records_of first)) (suc started.more) asked result left last
  waited_way start started asked result left last waits =
      wait_way tells own told start (after first.device.store.layout command (records_of first)) started.more
      (10 * most_changes first.device.store.layout, 10 * (first.device.store.layout.per_slot + 4)) (way_of start started) (omega (arith, limit, started.all)) asked result left last waits

  stopped : (start : MachineState) (all pauses value asked : ℕ) (w : MachineState) → Base first start → all ≤ changes_of first.device.store.layout command (records_of first)
      → Midway start (after first.device.store.layout command (records_of first)) all pauses w → pauses + 1 ≤ max 1 all → budget < 6 + 2 * (pauses + 1)
      → ChangeCommand first (ended_from (with_value value w)) id command requests budget (Err (Stopped Budget)) 0
  stopped start all pauses value asked w base few midway checks short =
      IsStopped pauses (leaves_from first start command all pauses value w base few midway) (omega (arith, few, checks)) (omega (arith, short, needs (pauses + 1)))

  -- the status of one that ran
  told_way : (start idle : MachineState) (started : StartedChange first start id command) (asked waited left : ℕ) (result : Result (Unit {0}) ClientError) →
      result ≡ Ok tt → asked + 4 ≡ budget → left + 2 ≡ waited
      → WayWaited start (after first.device.store.layout command (records_of first)) (suc started.more) asked result waited idle
      → ChangeCommand first (ended_from (with_value (status_in idle) idle)) id command requests budget (judged (status_in idle)) left
  told_way start idle started asked waited left result is opened spent ends =
      (elim ends as (λ result waited idle ends. result ≡ Ok tt → left + 2 ≡ waited → ChangeCommand first (ended_from (with_value (status_in idle) idle)) id
      command requests budget (judged (status_in idle)) left) [
        | WayEnds busy waited idle way sum ↦ λ e behind. ends_well busy waited idle way sum behind
        | WayBreaks busy waited idle broken few sum ↦ λ e behind. breaks busy waited idle broken few sum behind
        | WayStops busy idle midway few short ↦ λ e behind. absurd (cc e)
      ]) is spent
    where
      ends_well : (busy waited : ℕ) (idle : MachineState) → OnWay start (after first.device.store.layout command (records_of first)) (suc started.more)
          (busy + 1) 0 busy idle → waited + 2 * (busy + 1) ≡ asked → left + 2 ≡ waited
          → ChangeCommand first (ended_from (with_value (status_in idle) idle)) id command requests budget (judged (status_in idle)) left
      ends_well busy waited idle way sum behind =
          let last = ended_from (with_value (status_in idle) idle) in
          let pending_idle : idle.device.store.pending ≡ Idle = way.leads.0 in
          let store_is : last.device.store ≡ idle.device.store = abandoned_idle idle.device.store pending_idle in
          let midway = of_way start (after first.device.store.layout command (records_of first)) (suc started.more) (busy + 1) 0 busy idle way in
          let leaves = leaves_from first start command (suc started.more) busy (status_in idle) idle started.base (omega (arith, started.all)) midway in
          let answer : judged (status_in idle) ≡ Ok tt = ap (λ (s : CommandStatus). judged (number_of s)) way.status in
          subst (λ (r : Result (Unit {0}) ClientError). ChangeCommand first last id command requests budget r left) (sym answer)
          (IsTaken busy left started.taken way.leads.1
          (record {
            leaves = leaves;
            checks = omega (arith, way.sum, started.all);
            steps = omega (arith, way.steps, way.sum, started.steps, started.all, copies_usable id first.device.store started.usable);
            faults = way.faults ∙ started.faults;
            certain = λ usable. ap (λ (s : StoreView). s.in_doubt) store_is ∙ way.certain;
            unasked = λ reserved. differ (sym reserved ∙ started.usable);
          })
          (omega (arith, sum, behind, opened, needs (busy + 1))))
        where
          differ : {P : Type 0} → true ≡ false → P
          differ e = absurd (cc)

      breaks : (busy waited : ℕ) (idle : MachineState) → Broken start (after first.device.store.layout command (records_of first)) (suc started.more) busy idle
          → busy + 1 ≤ suc started.more → waited + 2 * (busy + 1) ≡ asked
          → left + 2 ≡ waited → ChangeCommand first (ended_from (with_value (status_in idle) idle)) id command requests budget (judged (status_in idle)) left
      breaks busy waited idle broken few sum behind =
          let last = ended_from (with_value (status_in idle) idle) in
          let leaves = leaves_from first start command (suc started.more) busy (status_in idle) idle started.base (omega (arith, started.all)) broken.midway in
          let answer : judged (status_in idle) ≡ Err Hardware = ap (λ (s : CommandStatus). judged (number_of s)) broken.status in
          subst (λ (r : Result (Unit {0}) ClientError). ChangeCommand first last id command requests budget r left) (sym answer)
          (IsFailed busy left started.usable (subst (λ (n : ℕ). Rose n idle.device.store.flash.faults) started.faults broken.rose)
          (exit_of first.device.store last.device.store (after first.device.store.layout command (records_of first)) leaves.crash leaves.equivalent)
          leaves (omega (arith, few, started.all)) (omega (arith, sum, behind, opened, needs (busy + 1))))

  -- the status of one that did not run
  told_still : (start : MachineState) (unstarted : UnstartedChange first start id command) (asked left : ℕ) → asked + 4 ≡ budget → left + 4 ≡ asked
      → ChangeCommand first (ended_from (with_value (status_in start) start)) id command requests budget (judged (status_in start)) left
  told_still start unstarted asked left opened spent = elim unstarted.answer [
    | RefusedBy refusal error refused is answer steps faults certain unasked ↦
        subst (λ (r : Result (Unit {0}) ClientError). ChangeCommand first (ended_from (with_value (status_in start) start)) id command requests budget r left) (sym answer)
        (IsRefused refusal error left refused is map_same
        (record {
          leaves = leaves;
          checks = omega (arith, changes_of-refused first.device.store.layout command (records_of first) refusal refused);
          steps = omega (arith, steps, changes_of-refused first.device.store.layout command (records_of first) refusal refused);
          faults = faults;
          certain = λ usable. ap (λ (s : StoreView). s.in_doubt) store_is ∙ certain usable;
          unasked = λ reserved. store_is ∙ unasked reserved;
        })
        (omega (arith, opened, spent, needs 1)))
    | FailedBy usable rose status ↦
        subst (λ (s : CommandStatus). ChangeCommand first (ended_from (with_value (status_in start) start)) id command requests budget (judged (number_of s)) left) (sym status)
        (IsFailed 0 left usable rose (inl map_same) leaves (omega arith) (omega (arith, opened, spent, needs 1)))
  ]
    where
      store_is : abandoned start.device.store ≡ start.device.store
      store_is = abandoned_idle start.device.store unstarted.still.no_change

      map_same : stored start.device.store ≡ records_of first
      map_same = kept_map first.device.store start.device.store unstarted.base.kept unstarted.base.equivalent

      leaves : ChangeLeaves first (ended_from (with_value (status_in start) start)) command 0
      leaves = leaves_from first start command 0 0 (status_in start) start unstarted.base (omega arith) (midway_none start _)

  same_value : (w : MachineState) (value : ℕ) (other : MachineState) → (other ≡ w) ⊎ (other ≡ with_value value w) → other ≡ with_value other.device.value w
  same_value w value other either = elim either [
    | inl same ↦ ap (λ (m : MachineState). with_value other.device.value m) same
    | inr same ↦ ap (λ (m : MachineState). with_value other.device.value m) same
  ]

  cut : (start : MachineState) (all pauses : ℕ) (w other : MachineState) → other ≡ with_value other.device.value w → Base first start →
      all ≤ changes_of first.device.store.layout command (records_of first)
      → Midway start (after first.device.store.layout command (records_of first)) all pauses w → pauses + 1 ≤ max 1 all → budget < 6 + 2 * (pauses + 1)
      → ChangeCommand first (ended_from other) id command requests budget (Err (Stopped Budget)) 0
  cut start all pauses w other is base few midway checks short =
      subst (λ (m : MachineState). ChangeCommand first (ended_from m) id command requests budget (Err (Stopped Budget)) 0) (sym is)
      (stopped start all pauses other.device.value 0 w base few midway checks short)

  -- stopped before its status
  not_told : (start : MachineState) (asked waited : ℕ) (idle other : MachineState) → (StartedChange first start id command) ⊎ (UnstartedChange first start id command) → asked + 4 ≡ budget
      → Waits (Allows tells) own_entries (own_client first).timings asked start (Ok tt) waited idle → waited < 2 → (other ≡ idle) ⊎ (other ≡ with_value (status_in idle) idle)
      → ChangeCommand first (ended_from other) id command requests budget (Err (Stopped Budget)) 0
  not_told start asked waited idle other which opened waits short either = elim which [
    | inl started ↦ by_way started (Ok tt) waited idle refl (same_value idle (status_in idle) other either) short (waited_way start started asked (Ok tt) waited idle waits)
    | inr unstarted ↦ by_still unstarted (Ok tt) waited idle refl (same_value idle (status_in idle) other either) short
        (wait_still tells own (own_client first).timings start unstarted.still asked (Ok tt) waited idle waits)
  ]
    where
      by_way : (started : StartedChange first start id command) (result : Result (Unit {0}) ClientError) (waited : ℕ) (idle : MachineState) → result ≡ Ok tt →
          other ≡ with_value other.device.value idle → waited < 2
          → WayWaited start (after first.device.store.layout command (records_of first)) (suc started.more) asked result waited idle →
          ChangeCommand first (ended_from other) id command requests budget (Err (Stopped Budget)) 0
      by_way started result waited idle is same short ends =
          (elim ends as (λ result waited idle ends. result ≡ Ok tt → other ≡ with_value other.device.value idle → waited < 2 →
          ChangeCommand first (ended_from other) id command requests budget (Err (Stopped Budget)) 0) [
            | WayEnds busy waited idle way sum ↦ λ e same few.
                cut start (suc started.more) busy idle other same started.base (omega (arith, started.all)) (of_way start _ (suc started.more) (busy + 1) 0 busy
                idle way) (omega (arith, way.sum)) (omega (arith, opened, sum, few))
            | WayBreaks busy waited idle broken checks sum ↦ λ e same few.
                cut start (suc started.more) busy idle other same started.base (omega (arith, started.all)) broken.midway (omega (arith, checks)) (omega (arith, opened, sum, few))
            | WayStops busy idle midway checks cut_short ↦ λ e same few. absurd (cc e)
          ]) is same short

      by_still : (unstarted : UnstartedChange first start id command) (result : Result (Unit {0}) ClientError) (waited : ℕ) (idle : MachineState) →
          result ≡ Ok tt → other ≡ with_value other.device.value idle → waited < 2
          → StillWaited start asked result waited idle → ChangeCommand first (ended_from other) id command requests budget (Err (Stopped Budget)) 0
      by_still unstarted result waited idle is same short ends =
          (elim ends as (λ result waited idle ends. result ≡ Ok tt → other ≡ with_value other.device.value idle → waited < 2 →
          ChangeCommand first (ended_from other) id command requests budget (Err (Stopped Budget)) 0) [
            | IsAtOnce waited idle at sum ↦ λ e same few.
                cut start 0 0 start other (same ∙ ap (λ (m : MachineState). with_value other.device.value m) at) unstarted.base (omega arith)
                (midway_none start _) (omega arith) (omega (arith, opened, sum, few))
            | IsShort idle which_one few_steps ↦ λ e same few. absurd (cc e)
          ]) is same short

  -- stopped in its checks
  not_waited : (start : MachineState) (asked : ℕ) (error : ClientError) (left : ℕ) (last : MachineState) → (StartedChange first start id command) ⊎
      (UnstartedChange first start id command) → asked + 4 ≡ budget
      → Waits (Allows tells) own_entries (own_client first).timings asked start (Err error) left last → ChangeCommand first (ended_from last) id command requests budget (Err error) left
  not_waited start asked error left last which opened waits = elim which [
    | inl started ↦ by_way started (Err error) left last refl (waited_way start started asked (Err error) left last waits)
    | inr unstarted ↦ by_still unstarted (Err error) left last refl (wait_still tells own (own_client first).timings start unstarted.still asked (Err error) left last waits)
  ]
    where
      by_way : (started : StartedChange first start id command) (result : Result (Unit {0}) ClientError) (left : ℕ) (last : MachineState) → result ≡ Err error
          → WayWaited start (after first.device.store.layout command (records_of first)) (suc started.more) asked result left last →
          ChangeCommand first (ended_from last) id command requests budget (Err error) left
      by_way started result left last is ends = (elim ends as (λ result left last ends. result ≡ Err error → ChangeCommand first (ended_from last) id command requests budget (Err error) left) [
        | WayEnds busy left last way sum ↦ λ e. absurd (cc e)
        | WayBreaks busy left last broken checks sum ↦ λ e. absurd (cc e)
        | WayStops busy last midway checks short ↦ λ e.
            subst (λ (r : Result (Unit {0}) ClientError). ChangeCommand first (ended_from last) id command requests budget r 0) e
            (stopped start (suc started.more) busy last.device.value 0 last started.base (omega (arith, started.all)) midway (omega (arith, checks)) (omega (arith, opened, short)))
      ]) is

      by_still : (unstarted : UnstartedChange first start id command) (result : Result (Unit {0}) ClientError) (left : ℕ) (last : MachineState) →
          result ≡ Err error → StillWaited start asked result left last
          → ChangeCommand first (ended_from last) id command requests budget (Err error) left
      by_still unstarted result left last is ends = (elim ends as (λ result left last ends. result ≡ Err error → ChangeCommand first (ended_from last) id command requests budget (Err error) left) [
        | IsAtOnce left last at sum ↦ λ e. absurd (cc e)
        | IsShort last either few ↦ λ e.
            subst (λ (r : Result (Unit {0}) ClientError). ChangeCommand first (ended_from last) id command requests budget r 0) e
            (cut start 0 0 start last (same_value start 0 last either) unstarted.base (omega arith) (midway_none start _) (omega arith) (omega (arith, opened, few)))
      ]) is

  abbrev pub IsStarted : MachineState → Type 0
  IsStarted w = (StartedChange first w id command) ⊎ (UnstartedChange first w id command)

  not_opened : (w : MachineState) → Untouched first w → budget < 4 → ChangeCommand first (ended_from w) id command requests budget (Err (Stopped Budget)) 0
  not_opened w untouched short = stopped w 0 0 w.device.value 0 w (base_untouched first w untouched) (omega arith) (midway_none w _) (omega arith) (omega (arith, short))

  pub change_command : ((result : Result (List ℕ) RunStop) (left : ℕ) (last : MachineState) → Asks (Allows tells) own_entries requests budget first result left
      last → Opened first IsStarted 4 budget result left last)
      → (result : Result (Unit {0}) ClientError) (left : ℕ) (last : MachineState) → Sequence (Allows tells) own_entries (own_client first).timings requests budget first result left last
      → ChangeCommand first last id command requests budget result left
  change_command opens result left last sequence =
      elim (sequence_ends tells own (own_client first).timings requests budget first result left last sequence) as
      (λ result left last ends. ChangeCommand first last id command requests budget result left) [
        | HasTold answers asked mid waited idle left asks waits spent ↦
            let opened = opened_ok first IsStarted 4 budget answers (Ok answers) asked mid refl (opens (Ok answers) asked mid asks) in
            has_told mid asked waited left idle opened.0 opened.1 waits spent
        | HasNotTold answers asked mid waited idle other asks waits short either ↦
            let opened = opened_ok first IsStarted 4 budget answers (Ok answers) asked mid refl (opens (Ok answers) asked mid asks) in
            not_told mid asked waited idle other opened.0 opened.1 waits short either
        | HasNotWaited answers asked mid error left other asks waits ↦
            let opened = opened_ok first IsStarted 4 budget answers (Ok answers) asked mid refl (opens (Ok answers) asked mid asks) in
            not_waited mid asked error left other opened.0 opened.1 waits
        | HasNotAsked stop left other asks ↦
            opened_short first IsStarted 4 budget (λ stop left w. ChangeCommand first (ended_from w) id command requests budget (Err (Stopped stop)) left) stop
            (Err stop) left other not_opened refl (opens (Err stop) left other asks)
      ]
    where
      still_told : (start idle : MachineState) (unstarted : UnstartedChange first start id command) (asked waited left : ℕ)
          (result : Result (Unit {0}) ClientError) → result ≡ Ok tt → asked + 4 ≡ budget → left + 2 ≡ waited
          → StillWaited start asked result waited idle → ChangeCommand first (ended_from (with_value (status_in idle) idle)) id command requests budget (judged (status_in idle)) left
      still_told start idle unstarted asked waited left result is opened spent ends =
          (elim ends as (λ result waited idle ends. result ≡ Ok tt → left + 2 ≡ waited → ChangeCommand first (ended_from (with_value (status_in idle) idle)) id
          command requests budget (judged (status_in idle)) left) [
            | IsAtOnce waited idle at sum ↦ λ e behind.
                subst (λ (m : MachineState). ChangeCommand first (ended_from (with_value (status_in m) m)) id command requests budget (judged (status_in m)) left) (sym at)
                (told_still start unstarted asked left opened (omega (arith, sum, behind)))
            | IsShort idle which_one few ↦ λ e behind. absurd (cc e)
          ]) is spent

      has_told : (start : MachineState) (asked waited left : ℕ) (idle : MachineState) → IsStarted start → asked + 4 ≡ budget →
          Waits (Allows tells) own_entries (own_client first).timings asked start (Ok tt) waited idle → left + 2 ≡ waited
          → ChangeCommand first (ended_from (with_value (status_in idle) idle)) id command requests budget (judged (status_in idle)) left
      has_told start asked waited left idle which opened waits spent = elim which [
        | inl started ↦ told_way start idle started asked waited left (Ok tt) refl opened spent (waited_way start started asked (Ok tt) waited idle waits)
        | inr unstarted ↦ still_told start idle unstarted asked waited left (Ok tt) refl opened spent (wait_still tells own (own_client first).timings start
            unstarted.still asked (Ok tt) waited idle waits)
      ]
