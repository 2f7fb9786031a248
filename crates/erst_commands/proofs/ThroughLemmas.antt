-- With the steps that are enough by the machine's timings every command goes through, whatever the flash tells.
use Rattle.std.proofs.Common.{◌≡◌, ℕ, ◌+◌, ◌*◌, ◌-◌, ◌^◌, ◌≤◌, ◌<◌, Bool, true, false, cond, List, length, Option, Some, None, Result, Ok, Err, refl, sym, ap, subst, ◌∙◌, arith}
use Rattle.std.specs.Prelude.{◌==◌}
use Rattle.base_model.specs.Bytes.{number_at}
use Rattle.apei_space.specs.declared.faults.SpaceFault.{SpaceFault}
use Rattle.base_model.specs.Layout.{Layout, room_of, reach_of}
use Rattle.record_store.specs.Store.{StoreView}
use Rattle.erst_entries.specs.declared.actions.Action.{Action}
use Rattle.erst_entries.specs.declared.actions.Action.TheVariants.{GetRecordCount, GetRecordIdentifier}
use Rattle.erst_interp.specs.declared.stops.RunStop.{RunStop}
use Rattle.erst_client.specs.declared.errors.ClientError.{ClientError}
use Rattle.erst_client.specs.declared.errors.ClientError.TheVariants.{Hardware, Stopped, Late, Range}
use Rattle.erst_client.specs.declared.requests.Request.{Request}
use Rattle.erst_client.specs.Timings.{enough_steps}
use Rattle.erst_client.specs.Requests.{Asks}
use Rattle.erst_client.specs.Commands.{ClientState, Writes, IsNoRecord, IsNotPut, IsAsked, CopiesOut, IsFilled, IsNotFilled, copied, Reads, IsNotRead}
use Rattle.erst_client.specs.Commands.{HasNoLength, IsNotCopied, IsCopied, Counts, Names}
use Rattle.erst_client.proofs.RefusalLemmas.{is_own, write_own, copy_own}
use Rattle.erst_client.specs.Sequences.{Waits, write_requests, read_requests, clear_requests, dummy_requests, judged, Sequence}
use Rattle.erst_device.specs.declared.registers.Operation.TheVariants as operations
use Rattle.erst_device.specs.declared.status.CommandStatus.{CommandStatus}
use Rattle.erst_device.specs.declared.status.CommandStatus.TheVariants as statuses
use Rattle.erst_device.specs.Statuses.{number_of}
use Rattle.erst_device.specs.Timings.{most_changes}
use Rattle.erst_device.specs.DeviceState.{DeviceState, IsStill}
use Rattle.erst_machine.specs.MachineState.{MachineState, IsMachine, reach_in}
use Rattle.erst_machine.specs.Allowed.{Allows}
use Rattle.erst_machine.specs.OwnTables.{own_entries}
use Rattle.erst_commands.specs.OwnPrograms.{OwnRun, IsMade, StopsAtOnce, StopsBefore, StopsBehind, OwnProgramsRun}
use Rattle.erst_commands.specs.Attached.{own_client}
use Rattle.erst_commands.specs.Causes.{GoesThrough}
use Rattle.erst_commands.proofs.SequenceLemmas.{Opened, HasTold, HasNotTold, HasNotWaited, HasNotAsked, sequence_ends, opened_ok, opened_short}
use Rattle.erst_commands.proofs.OpenLemmas.{IsOn, offset_device, clearing_device, reading_device, write_opens, dummy_opens, clear_opens, read_opens}
use Rattle.erst_commands.proofs.EnoughLemmas.{HasSteps, has_steps, enough-most}
use Rattle.erst_commands.proofs.PutLemmas.{has_put}
use Rattle.erst_commands.proofs.BusyLemmas.{StartsFinite, starts_finite, WaitsThrough, waits_through}
use Rattle.erst_client.proofs.Terms.{counted as count_answer, named as next_answer}

-- Answers that are neither a stop nor late

through_ok : {T : Type 0} (value : T) → GoesThrough {T = T} (Ok value)
through_ok value = record { not_stopped = λ stop e. absurd (cc e); in_time = λ waited e. absurd (cc e) }

through_hardware : {T : Type 0} → GoesThrough {T = T} (Err Hardware)
through_hardware = record { not_stopped = λ stop e. absurd (cc e); in_time = λ waited e. absurd (cc e) }

through_range : {T : Type 0} (fault : SpaceFault) → GoesThrough {T = T} (Err (Range fault))
through_range fault = record { not_stopped = λ stop e. absurd (cc e); in_time = λ waited e. absurd (cc e) }

judged_through : (status : CommandStatus) → GoesThrough (judged (number_of status))
judged_through statuses.Success = record { not_stopped = λ stop e. absurd (cc e); in_time = λ waited e. absurd (cc e) }
judged_through statuses.NotEnoughSpace = record { not_stopped = λ stop e. absurd (cc e); in_time = λ waited e. absurd (cc e) }
judged_through statuses.HardwareNotAvailable = record { not_stopped = λ stop e. absurd (cc e); in_time = λ waited e. absurd (cc e) }
judged_through statuses.Failed = record { not_stopped = λ stop e. absurd (cc e); in_time = λ waited e. absurd (cc e) }
judged_through statuses.RecordStoreEmpty = record { not_stopped = λ stop e. absurd (cc e); in_time = λ waited e. absurd (cc e) }
judged_through statuses.RecordNotFound = record { not_stopped = λ stop e. absurd (cc e); in_time = λ waited e. absurd (cc e) }

-- Sequences

-- the requests were made, and what runs then ends
abbrev EndsFrom : MachineState → MachineState → Type 0
EndsFrom first w = StartsFinite first.device.store.layout w.device

module _ (tells : Type 0) (own : OwnProgramsRun tells) (first : MachineState) (budget : ℕ) (enough : HasSteps first.device.store.layout budget) where
  sequence_through : (P : MachineState → Type 0) (cost : ℕ) (requests : List Request) → cost ≤ 6 → ((w : MachineState) → P w → EndsFrom first w)
      → ((result : Result (List ℕ) RunStop) (left : ℕ) (last : MachineState) → Asks (Allows tells) own_entries requests budget first result left last → Opened first P cost budget result left last)
      → (result : Result (Unit {0}) ClientError) (left : ℕ) (last : MachineState) → Sequence (Allows tells) own_entries (own_client first).timings requests
      budget first result left last → GoesThrough result
  sequence_through P cost requests few ends opens result left last sequence =
      elim (sequence_ends tells own (own_client first).timings requests budget first result left last sequence) as (λ result left last ends. GoesThrough result) [
        | HasTold answers asked mid waited idle left asks waits spent ↦ judged_through idle.device.status
        | HasNotTold answers asked mid waited idle other asks waits short either ↦
            let opened = opened_ok first P cost budget answers (Ok answers) asked mid refl (opens (Ok answers) asked mid asks) in
            let started = ends mid opened.0 in
            let through = waited_through asked (Ok tt) mid waited idle started (omega (arith, opened.1, few)) waits in
            absurd (omega (arith, through.enough, short, opened.1, few, enough, started.few))
        | HasNotWaited answers asked mid error left other asks waits ↦
            let opened = opened_ok first P cost budget answers (Ok answers) asked mid refl (opens (Ok answers) asked mid asks) in
            let started = ends mid opened.0 in
            let through = waited_through asked (Err error) mid left other started (omega (arith, opened.1, few)) waits in
            absurd (cc through.well)
        | HasNotAsked stop left other asks ↦
            let short = opened_short first P cost budget (λ stop left w. budget < cost) stop (Err stop) left other (λ w untouched short. short) refl (opens (Err stop) left other asks) in
            absurd (omega (arith, short, few, enough))
      ]
    where
      waited_through : (asked : ℕ) (result : Result (Unit {0}) ClientError) (mid : MachineState) (left : ℕ) (last : MachineState) → (started : EndsFrom first mid) → budget ≤ asked + 6
          → Waits (Allows tells) own_entries (own_client first).timings asked mid result left last → WaitsThrough started.n asked result left
      waited_through asked result mid left last started spent waits =
          waits_through tells own first.device.store.layout (10 * most_changes first.device.store.layout, 10 * (first.device.store.layout.per_slot + 4))
          started.n mid started.finite (omega (arith, started.few))
          asked (omega (arith, spent, enough, started.few)) result left last waits

  module _ (long : length first.memory.range ≡ reach_in first.device) where
    ends_on : (device : DeviceState) → IsStill device → device.store.layout ≡ first.device.store.layout → (w : MachineState) → IsOn tells first device w → EndsFrom first w
    ends_on device still same w on =
        subst (λ (l : Layout). StartsFinite l w.device) same
        (starts_finite tells device first.memory.range still (long ∙ ap (λ (l : Layout). reach_of (room_of l)) (sym same)) w.device on.0)

    pub write_through : (result : Result (Unit {0}) ClientError) (left : ℕ) (last : MachineState) →
        Sequence (Allows tells) own_entries (own_client first).timings write_requests budget first result left last → GoesThrough result
    write_through =
        sequence_through (IsOn tells first (offset_device operations.Write first.device)) 4 write_requests (omega arith)
        (ends_on (offset_device operations.Write first.device) (record { no_read = refl; no_change = refl }) refl)
        (write_opens tells own first budget)

    pub dummy_through : (result : Result (Unit {0}) ClientError) (left : ℕ) (last : MachineState) →
        Sequence (Allows tells) own_entries (own_client first).timings dummy_requests budget first result left last → GoesThrough result
    dummy_through =
        sequence_through (IsOn tells first (offset_device operations.Dummy first.device)) 4 dummy_requests (omega arith)
        (ends_on (offset_device operations.Dummy first.device) (record { no_read = refl; no_change = refl }) refl)
        (dummy_opens tells own first budget)

    pub clear_through : (id : ℕ) → id < 2 ^ 64 → (result : Result (Unit {0}) ClientError) (left : ℕ) (last : MachineState) → Sequence (Allows tells) own_entries
        (own_client first).timings (clear_requests id) budget first result left last
        → GoesThrough result
    clear_through id small =
        sequence_through (IsOn tells first (clearing_device first.device id)) 4 (clear_requests id) (omega arith)
        (ends_on (clearing_device first.device id) (record { no_read = refl; no_change = refl }) refl) (clear_opens tells own first id small budget)

    pub read_through : (id : ℕ) → id < 2 ^ 64 → (result : Result (Unit {0}) ClientError) (left : ℕ) (last : MachineState) → Sequence (Allows tells) own_entries
        (own_client first).timings (read_requests id) budget first result left last
        → GoesThrough result
    read_through id small =
        sequence_through (IsOn tells first (reading_device first.device id)) 6 (read_requests id) (omega arith)
        (ends_on (reading_device first.device id) (record { no_read = refl; no_change = refl }) refl) (read_opens tells own first id small budget)

-- Count and next

one_answers : (tells : Type 0) (action : Action) (given budget : ℕ) (first : MachineState) (result : Result ℕ RunStop) (left : ℕ) (last : MachineState) →
    2 ≤ budget → OwnRun tells action given budget first result left last
    → (answer : ℕ) × (result ≡ Ok answer)
one_answers tells action given budget first result left last enough run = elim run as (λ result left last run. (answer : ℕ) × (result ≡ Ok answer)) [
  | IsMade left last acted spent ↦ (_, refl)
  | StopsAtOnce none ↦ absurd (omega (arith, none, enough))
  | StopsBefore few took ↦ absurd (omega (arith, few, enough))
  | StopsBehind last few shows acted ↦ absurd (omega (arith, few, enough))
]

either_through : {T : Type 0} (test : Bool) (other : Result T ClientError) → GoesThrough other → GoesThrough (cond test (Err Hardware) other)
either_through true other through = through_hardware
either_through false other through = through

end_through : (test : Bool) (id : ℕ) → GoesThrough (cond {A = Result (Option ℕ) ClientError} test (Ok None) (Ok (Some id)))
end_through true id = through_ok None
end_through false id = through_ok (Some id)

count_answered : (answer : Result ℕ RunStop) (count : ℕ) → answer ≡ Ok count → GoesThrough (count_answer answer)
count_answered answer count is = subst (λ (a : Result ℕ RunStop). GoesThrough (count_answer a)) (sym is) (either_through (count == 2 ^ 32 - 1) (Ok count) (through_ok count))

next_answered : (answer : Result ℕ RunStop) (id : ℕ) → answer ≡ Ok id → GoesThrough (next_answer answer)
next_answered answer id is = subst (λ (a : Result ℕ RunStop). GoesThrough (next_answer a)) (sym is) (either_through (id == 0) _ (end_through (id == 2 ^ 64 - 1) id))

module _ (tells : Type 0) (own : OwnProgramsRun tells) (first : MachineState) (budget : ℕ) (enough : enough_steps (own_client first).timings ≤ budget) where
  pub count_through : (result : Result ℕ ClientError) (left : ℕ) (last : MachineState) → Counts (Allows tells) own_entries budget first result left last → GoesThrough result
  count_through result left last asked =
      let answered = one_answers tells GetRecordCount 0 budget first asked.answer left last (omega (arith, enough-most first, enough))
      (own GetRecordCount 0 budget first asked.answer left last asked.asks) in
      subst (λ (r : Result ℕ ClientError). GoesThrough r) (sym asked.result_is) (count_answered asked.answer answered.0 answered.1)

  pub next_through : (result : Result (Option ℕ) ClientError) (left : ℕ) (last : MachineState) → Names (Allows tells) own_entries budget first result left last → GoesThrough result
  next_through result left last asked =
      let answered = one_answers tells GetRecordIdentifier 0 budget first asked.answer left last (omega (arith, enough-most first, enough))
      (own GetRecordIdentifier 0 budget first asked.answer left last asked.asks) in
      subst (λ (r : Result (Option ℕ) ClientError). GoesThrough r) (sym asked.result_is) (next_answered asked.answer answered.0 answered.1)

-- A client's write and read

pub own_through : {T : Type 0} (error : ClientError) → is_own error ≡ true → GoesThrough {T = T} (Err error)
own_through {T} error own = record {
  not_stopped = λ stop e. absurd (cc (sym own ∙ ap is_own (same error (Stopped stop) e)));
  in_time =
      λ waited e. absurd (cc (sym own ∙ ap is_own (same error (Late waited) e)));
}
  where
    same : (x y : ClientError) → ◌≡◌ {A = Result T ClientError} (Err x) (Err y) → x ≡ y
    same x y e = cc

module _ (tells : Type 0) where
  copied_through : (address : ℕ) (before after : List ℕ) (old : MachineState) (answer : Result (Unit {0}) ClientError) (new : MachineState) (len : ℕ) →
      CopiesOut (Allows tells) address before after old answer new → GoesThrough (copied answer len)
  copied_through address before after old answer new len copies = elim copies as (λ answer new copies. GoesThrough (copied answer len)) [
    | IsFilled new allowed ↦ through_ok len
    | IsNotFilled fault new allowed ↦ through_range fault
  ]

error_through : (error : ClientError) → GoesThrough {T = Unit {0}} (Err error) → GoesThrough {T = ℕ} (Err error)
error_through error is = record {
  not_stopped = λ stop e. is.not_stopped stop (ap (λ (x : ClientError). Err x) (same error (Stopped stop) e));
  in_time =
      λ waited e. is.in_time waited (ap (λ (x : ClientError). Err x) (same error (Late waited) e));
}
  where
    same : (x y : ClientError) → ◌≡◌ {A = Result ℕ ClientError} (Err x) (Err y) → x ≡ y
    same x y e = cc

-- The write and the read of any client whose sequences go through

module _ (tells : Type 0) (client : ClientState) where
  pub writes_through : (bytes : List ℕ) (budget : ℕ) (first : MachineState) → IsMachine first → (result : Result (Unit {0}) ClientError) (left : ℕ) (last : MachineState)
      → ((mid : MachineState) (result : Result (Unit {0}) ClientError) (left : ℕ) (last : MachineState) → IsMachine mid → mid.device.store.layout ≡ first.device.store.layout
      → Sequence (Allows tells) client.table.entries client.timings write_requests budget mid result left last → GoesThrough result)
      → Writes (Allows tells) client bytes budget first result left last → GoesThrough result
  writes_through bytes budget first machine result left last by_sequence writes = elim writes as (λ result left last writes. GoesThrough result) [
    | IsNoRecord error is ↦ own_through error (write_own bytes client.range error is)
    | IsNotPut error last is puts ↦
        let by = (has_put tells _ bytes first (Err error) last puts).by_space error refl in
        subst (λ (x : ClientError). GoesThrough {T = Unit {0}} (Err x)) (sym by.1) (through_range by.0)
    | IsAsked mid result left last is puts sequence ↦
        let put = has_put tells _ bytes first (Ok tt) mid puts in
        by_sequence mid result left last (put.machine machine) (ap (λ (s : StoreView). s.layout) put.store) sequence
  ]

  pub reads_through : (id : ℕ) (out : List ℕ) (budget : ℕ) (first : MachineState) (result : Result ℕ ClientError) (after : List ℕ) (left : ℕ) (last : MachineState)
      → ((result : Result (Unit {0}) ClientError) (left : ℕ) (last : MachineState)
      → Sequence (Allows tells) client.table.entries client.timings (read_requests id) budget first result left last → GoesThrough result)
      → Reads (Allows tells) client id out budget first result after left last → GoesThrough result
  reads_through id out budget first result after left last by_sequence reads = elim reads as (λ result after left last reads. GoesThrough result) [
    | IsNotRead error left last sequence ↦ error_through error (by_sequence (Err error) left last sequence)
    | HasNoLength left mid field fault last sequence length_at ↦ through_range fault
    | IsNotCopied left mid field error last sequence length_at refused ↦ own_through error (copy_own (number_at field 0 4) client.range (length out) error refused)
    | IsCopied left mid field next whole answer last sequence length_at fits copies ↦ copied_through tells _ _ whole next answer last (number_at field 0 4) copies
  ]

-- by the machine's own table

module _ (tells : Type 0) (own : OwnProgramsRun tells) (first : MachineState) (machine : IsMachine first) (budget : ℕ) (enough : enough_steps (own_client first).timings ≤ budget) where
  abbrev timings_of_layout : Layout → Option (ℕ × ℕ)
  timings_of_layout layout = Some (10 * most_changes layout, 10 * (layout.per_slot + 4))

  -- a machine with the same layout has the same timings
  asked_through : (mid : MachineState) (result : Result (Unit {0}) ClientError) (left : ℕ) (last : MachineState) → IsMachine mid → mid.device.store.layout ≡ first.device.store.layout
      → Sequence (Allows tells) own_entries (own_client first).timings write_requests budget mid result left last → GoesThrough result
  asked_through mid result left last is same sequence =
      write_through tells own mid budget (subst (λ (l : Layout). HasSteps l budget) (sym same) (has_steps first budget enough)) is.sizes.range result left last
      (subst (λ (l : Layout). Sequence (Allows tells) own_entries (timings_of_layout l) write_requests budget mid result left last) (sym same) sequence)

  pub client_write_through : (bytes : List ℕ) (result : Result (Unit {0}) ClientError) (left : ℕ) (last : MachineState) →
      Writes (Allows tells) (own_client first) bytes budget first result left last → GoesThrough result
  client_write_through bytes result left last = writes_through tells (own_client first) bytes budget first machine result left last asked_through

  pub client_read_through : (id : ℕ) → id < 2 ^ 64 → (out : List ℕ) (result : Result ℕ ClientError) (after : List ℕ) (left : ℕ) (last : MachineState) →
      Reads (Allows tells) (own_client first) id out budget first result after left last
      → GoesThrough result
  client_read_through id small out result after left last =
      reads_through tells (own_client first) id out budget first result after left last (read_through tells own first budget (has_steps first budget enough) machine.sizes.range id small)
