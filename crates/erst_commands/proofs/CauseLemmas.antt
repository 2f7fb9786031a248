-- A call that is answered `Hardware` by the machine's own table has its cause, whatever the flash tells.
use Rattle.std.proofs.Common.{◌≡◌, ◌⊎◌, ℕ, ◌-◌, ◌%◌, ◌^◌, ◌<◌, ◌≤◌, Bool, true, false, cond, List, [], ◌∷◌, Option, Some, None, Result, Ok, Err, refl, sym, ap, subst, ◌∙◌, arith, inl, inr}
use Rattle.std.specs.Prelude.{suc, nat_eq, if◌then◌else◌}
use Rattle.std.proofs.lemmas.Bool.{cases_eq, ne_eqb}
use Rattle.base_model.specs.Faults.{Rose}
use Rattle.record_model.proofs.RefusalLemmas.{allowed_not_zero}
use Rattle.record_store.specs.Store.{StoreView}
use Rattle.record_store.specs.declared.errors.StoreError.{StoreError}
use Rattle.erst_entries.specs.declared.actions.Action.{Action}
use Rattle.erst_entries.specs.declared.actions.Action.TheVariants.{CheckBusyStatus, GetRecordIdentifier, GetRecordCount}
use Rattle.erst_entries.specs.Actions.{code_of}
use Rattle.erst_interp.specs.declared.stops.RunStop.{RunStop}
use Rattle.erst_interp.specs.declared.stops.RunStop.TheVariants.{Budget}
use Rattle.erst_client.specs.declared.errors.ClientError.{ClientError}
use Rattle.erst_client.specs.declared.errors.ClientError.TheVariants.{Hardware, Stopped, Late}
use Rattle.erst_client.specs.declared.requests.Request.{Request}
use Rattle.erst_client.specs.Requests.{Performs, Asks}
use Rattle.erst_client.specs.Commands.{Counts, Names}
use Rattle.erst_client.specs.Sequences.{Pauses, Untimed, Timed, TooOften, Busy, NotYet, Again, Waits, IsIdle, IsStopped, IsLate, judged, Sequence}
use Rattle.erst_device.specs.declared.registers.Operation.{Operation}
use Rattle.erst_device.specs.declared.status.CommandStatus.{CommandStatus}
use Rattle.erst_device.specs.declared.status.CommandStatus.TheVariants.{Success, NotEnoughSpace, HardwareNotAvailable, Failed, RecordStoreEmpty, RecordNotFound}
use Rattle.erst_device.specs.Statuses.{number_of}
use Rattle.erst_device.specs.StoreCalls.{Counted}
use Rattle.erst_device.specs.DeviceState.{DeviceState, given_up}
use Rattle.erst_device.specs.Actions.{found, counted}
use Rattle.erst_machine.specs.MachineState.{MachineState}
use Rattle.erst_machine.specs.Allowed.{Allows, ActsOn}
use Rattle.erst_machine.specs.OwnTables.{own_entries}
use Rattle.erst_commands.specs.OwnPrograms.{OwnRun, with_value, takes_value, given_to, answer_of, IsMade, StopsAtOnce, StopsBefore, StopsBehind, OwnProgramsRun}
use Rattle.erst_commands.specs.Causes.{HasItsCause}
use Rattle.erst_commands.proofs.ActionCases.{finds_next, counts}
use Rattle.erst_commands.proofs.MachineSteps.{on_device}
use Rattle.erst_commands.proofs.AskLemmas.{Went, Halted, first_asked, none_asked}
use Rattle.erst_commands.proofs.SequenceLemmas.{RunTo, ok_reaches, begun_device, status_in, HasTold, HasNotTold, HasNotWaited, HasNotAsked, sequence_ends}
use Rattle.erst_device.proofs.Words.{IsAllowed}
use Rattle.erst_client.proofs.Terms.{counted as count_answer, named as next_answer}

-- What rose

rose_before : (a b c : ℕ) → a ≤ b → Rose b c → Rose a c
rose_before a b c low (inl above) = inl (omega arith)
rose_before a b c low (inr full) = inr full

rose_behind : (a b c : ℕ) → a ≤ b → Rose a b → b ≤ c → Rose a c
rose_behind a b c low (inl above) more = inl (omega arith)
rose_behind a b c low (inr full) more = elim (cases_eq c (2 ^ 64 - 1)) [
  | inl last ↦ inr last
  | inr other ↦ inl (omega arith)
]

-- Between two machines the count of faults has not fallen, and a status of a fault is told only where it rose, or, where that
-- is granted, from before
record Grounded (granted : Type 0) (first w : MachineState) : Type 0 where
  never_falls : first.device.store.flash.faults ≤ w.device.store.flash.faults
  status : w.device.status ≡ HardwareNotAvailable → Rose first.device.store.flash.faults w.device.store.flash.faults ⊎ granted

grounded_itself : (first : MachineState) → Grounded (Unit {0}) first first
grounded_itself first = record { never_falls = omega arith; status = λ is. inr tt }

grounded_given : (granted : Type 0) (first w : MachineState) (value : ℕ) (takes : Bool) → Grounded granted first w → Grounded granted first (if takes then with_value value w else w)
grounded_given granted first w value true is = record { never_falls = is.never_falls; status = is.status }
grounded_given granted first w value false is = is

grounded_acted : (granted tells : Type 0) (first w : MachineState) (code : ℕ) (last : MachineState) → Grounded granted first w → ActsOn tells w code last → Grounded granted first last
grounded_acted granted tells first w code last is acted = record {
  never_falls = omega (arith, is.never_falls, acted.effect.never_falls);
  status = λ told. elim (acted.effect.status told) [
    | inl rose ↦ inl (rose_before first.device.store.flash.faults w.device.store.flash.faults last.device.store.flash.faults is.never_falls rose)
    | inr stays ↦ from_before (is.status (sym stays.0 ∙ told))
  ];
}
  where
    from_before : Rose first.device.store.flash.faults w.device.store.flash.faults ⊎ granted → Rose first.device.store.flash.faults last.device.store.flash.faults ⊎ granted
    from_before (inl rose) = inl (rose_behind first.device.store.flash.faults w.device.store.flash.faults last.device.store.flash.faults is.never_falls rose acted.effect.never_falls)
    from_before (inr given) = inr given

-- Of the answers that are not `Hardware`

no_halt : (answers : List ℕ) (stop : RunStop) → ◌≡◌ {A = Result (List ℕ) RunStop} (Ok answers) (Err stop) → ⊥
no_halt answers stop e = absurd (cc)

not_ok : {T : Type 0} (answer : T) → ◌≡◌ {A = Result T ClientError} (Ok answer) (Err Hardware) → ⊥
not_ok answer e = absurd (cc)

not_stopped : {T : Type 0} (stop : RunStop) → ◌≡◌ {A = Result T ClientError} (Err (Stopped stop)) (Err Hardware) → ⊥
not_stopped stop e = absurd (cc)

not_late : {T : Type 0} (waited : ℕ) → ◌≡◌ {A = Result T ClientError} (Err (Late waited)) (Err Hardware) → ⊥
not_late waited e = absurd (cc)

judged_hardware : (status : CommandStatus) → judged (number_of status) ≡ Err Hardware → status ≡ HardwareNotAvailable
judged_hardware HardwareNotAvailable e = refl
judged_hardware Success e = absurd (cc e)
judged_hardware NotEnoughSpace e = absurd (cc e)
judged_hardware Failed e = absurd (cc e)
judged_hardware RecordStoreEmpty e = absurd (cc e)
judged_hardware RecordNotFound e = absurd (cc e)

pauses_well : (tells : Type 0) (timings : Option (ℕ × ℕ)) (busy : ℕ) (w : MachineState) (result : Result (Unit {0}) ClientError) (last : MachineState) →
    Pauses (Allows tells) timings busy w result last → result ≡ Err Hardware → ⊥
pauses_well tells timings busy w result last pauses = elim pauses as (λ result last pauses. result ≡ Err Hardware → ⊥) [
  | Untimed none ↦ λ e. not_ok tt e
  | Timed known new some short waited ↦ λ e. not_ok tt e
  | TooOften known some long ↦ λ e. not_late _ e
]

waits_well : (tells : Type 0) (timings : Option (ℕ × ℕ)) (budget : ℕ) (w : MachineState) (result : Result (Unit {0}) ClientError) (left : ℕ)
    (last : MachineState) → Waits (Allows tells) own_entries timings budget w result left last
    → result ≡ Err Hardware → ⊥
waits_well tells timings budget w result left last waits = elim waits as (λ result left last waits. result ≡ Err Hardware → ⊥) [
  | IsIdle busy asked mid left last earlier run ↦ λ e. not_ok tt e
  | IsStopped busy asked mid stop left last earlier run ↦ λ e. not_stopped stop e
  | IsLate busy asked mid answer behind next error last earlier run more pause ↦ λ e. pauses_well tells timings (suc busy) next (Err error) last pause e
]

-- Runs, requests and waits

module _ (granted tells : Type 0) (own : OwnProgramsRun tells) (first : MachineState) where
  run_grounded : (action : Action) (given budget : ℕ) (w : MachineState) (result : Result ℕ RunStop) (left : ℕ) (last : MachineState) → Grounded granted first w
      → Performs (Allows tells) own_entries action given budget w result left last → Grounded granted first last
  run_grounded action given budget w result left last is run = elim (own action given budget w result left last run) as (λ result left last made. Grounded granted first last) [
    | IsMade left last acted spent ↦
        grounded_acted granted tells first (given_to action given w) (code_of action) last (grounded_given granted first w (given % 2 ^ 64) (takes_value action) is) acted
    | StopsAtOnce none ↦ is
    | StopsBefore few took ↦ grounded_given granted first w (given % 2 ^ 64) (takes_value action) is
    | StopsBehind last few told acted ↦ grounded_acted granted tells first w (code_of action) last is acted
  ]

  asks_grounded : (requests : List Request) (budget : ℕ) (w : MachineState) (result : Result (List ℕ) RunStop) (left : ℕ) (last : MachineState) → Grounded granted first w
      → Asks (Allows tells) own_entries requests budget w result left last → Grounded granted first last
  asks_grounded [] budget w result left last is asks =
      let end = none_asked (Allows tells) own_entries budget w result left last asks in
      subst (λ (m : MachineState). Grounded granted first m) (sym end.last_is) is
  asks_grounded (request ∷ rest) budget w result left last is asks = elim (first_asked (Allows tells) own_entries request rest budget w result left last asks) [
    | Went answer asked mid others run behind joined ↦
        asks_grounded rest asked mid others left last (run_grounded request.action request.given budget w (Ok answer) asked mid is run) behind
    | Halted stop run halted ↦ run_grounded request.action request.given budget w (Err stop) left last is run
  ]

  pauses_grounded : (timings : Option (ℕ × ℕ)) (busy : ℕ) (w : MachineState) (result : Result (Unit {0}) ClientError) (last : MachineState) →
      Grounded granted first w → Pauses (Allows tells) timings busy w result last
      → Grounded granted first last
  pauses_grounded timings busy w result last is pauses = elim pauses as (λ result last pauses. Grounded granted first last) [
    | Untimed none ↦ is
    | Timed known new some short waited ↦ subst (λ (m : MachineState). Grounded granted first m) (sym waited) (record { never_falls = is.never_falls; status = is.status })
    | TooOften known some long ↦ is
  ]

  busy_grounded : (timings : Option (ℕ × ℕ)) (w : MachineState) → Grounded granted first w → (budget busy left : ℕ) (mid : MachineState) →
      Busy (Allows tells) own_entries timings budget w busy left mid → Grounded granted first mid
  busy_grounded timings w is budget busy left mid NotYet = is
  busy_grounded timings w is budget busy left mid (Again before asked from answer behind next new earlier run more pause) =
      pauses_grounded timings (suc before) next (Ok tt) mid
      (run_grounded CheckBusyStatus 0 asked from (Ok answer) left next (busy_grounded timings w is budget before asked from earlier) run) pause

  waits_grounded : (timings : Option (ℕ × ℕ)) (budget : ℕ) (w : MachineState) → Grounded granted first w → (result : Result (Unit {0}) ClientError) (left : ℕ) (last : MachineState)
      → Waits (Allows tells) own_entries timings budget w result left last → Grounded granted first last
  waits_grounded timings budget w is result left last waits = elim waits as (λ result left last waits. Grounded granted first last) [
    | IsIdle busy asked mid left last earlier run ↦ run_grounded CheckBusyStatus 0 asked mid (Ok 0) left last (busy_grounded timings w is budget busy asked mid earlier) run
    | IsStopped busy asked mid stop left last earlier run ↦ run_grounded CheckBusyStatus 0 asked mid (Err stop) left last (busy_grounded timings w is budget busy asked mid earlier) run
    | IsLate busy asked mid answer behind next error last earlier run more pause ↦
        pauses_grounded timings (suc busy) next (Err error) last
        (run_grounded CheckBusyStatus 0 asked mid (Ok answer) behind next (busy_grounded timings w is budget busy asked mid earlier) run) pause
  ]

-- A sequence that begins an operation

module _ (tells : Type 0) (own : OwnProgramsRun tells) (first : MachineState) where
  begun : (operation : Operation) (w : MachineState) → w ≡ on_device first (begun_device operation first.device) → Grounded ⊥ first w
  begun operation w is = subst (λ (m : MachineState). Grounded ⊥ first m) (sym is) (record { never_falls = omega arith; status = λ told. absurd (cc told) })

  -- the first request begins an operation
  abbrev pub BeginsWith : Action → Operation → Type 0
  BeginsWith action operation = (budget : ℕ) (result : Result ℕ RunStop) (left : ℕ) (last : MachineState) → Performs (Allows tells) own_entries action 0 budget first result left last
      → RunTo first (λ w. w ≡ on_device first (begun_device operation first.device)) 1 budget result left last

  opened : (action : Action) (operation : Operation) (rest : List Request) → BeginsWith action operation → (budget : ℕ) (answers : List ℕ) (left : ℕ) (last : MachineState)
      → Asks (Allows tells) own_entries (record { action = action; given = 0 } ∷ rest) budget first (Ok answers) left last → Grounded ⊥ first last
  opened action operation rest begins budget answers left last asks = elim (first_asked (Allows tells) own_entries (record { action = action; given = 0 }) rest
      budget first (Ok answers) left last asks) [
        | Went answer asked mid others run behind joined ↦
            let reached = ok_reaches first (λ w. w ≡ on_device first (begun_device operation first.device)) 1 budget (Ok answer) asked mid answer refl (begins budget (Ok answer) asked mid run) in
            asks_grounded ⊥ tells own first rest asked mid others left last (begun operation mid reached.holds) behind
        | Halted stop run halted ↦ absurd (no_halt answers stop halted)
      ]

  judged_rose : (idle : MachineState) → Grounded ⊥ first idle → judged (status_in idle) ≡ Err Hardware → Rose first.device.store.flash.faults idle.device.store.flash.faults
  judged_rose idle is e = elim (is.status (judged_hardware idle.device.status e)) [ inl rose ↦ rose | inr none ↦ absurd none ]

  cut_low : (idle told : MachineState) (value : ℕ) → Grounded ⊥ first idle → (told ≡ idle) ⊎ (told ≡ with_value value idle) → first.device.store.flash.faults ≤ told.device.store.flash.faults
  cut_low idle told value is (inl same) = subst (λ (m : MachineState). first.device.store.flash.faults ≤ m.device.store.flash.faults) (sym same) is.never_falls
  cut_low idle told value is (inr same) = subst (λ (m : MachineState). first.device.store.flash.faults ≤ m.device.store.flash.faults) (sym same) is.never_falls

  pub sequence_cause : (action : Action) (operation : Operation) (rest : List Request) → BeginsWith action operation → (timings : Option (ℕ × ℕ)) (budget : ℕ)
      (result : Result (Unit {0}) ClientError) (left : ℕ) (last : MachineState)
      → Sequence (Allows tells) own_entries timings (record { action = action; given = 0 } ∷ rest) budget first result left last → HasItsCause first last result
  sequence_cause action operation rest begins timings budget result left last sequence =
      elim (sequence_ends tells own timings (record { action = action; given = 0 } ∷ rest) budget first result left last sequence) as (λ result left last ends. HasItsCause first last result) [
        | HasTold answers asked mid waited idle left asks waits spent ↦
            let is = waits_grounded ⊥ tells own first timings asked mid (opened action operation rest begins budget answers asked mid asks) (Ok tt) waited idle waits in
            record { never_falls = is.never_falls; hardware = λ e. judged_rose idle is e }
        | HasNotTold answers asked mid waited idle told asks waits short either ↦
            let is = waits_grounded ⊥ tells own first timings asked mid (opened action operation rest begins budget answers asked mid asks) (Ok tt) waited idle waits in
            record { never_falls = cut_low idle told (status_in idle) is either; hardware = λ e. absurd (not_stopped Budget e) }
        | HasNotWaited answers asked mid error left told asks waits ↦
            let is = waits_grounded ⊥ tells own first timings asked mid (opened action operation rest begins budget answers asked mid asks) (Err error) left told waits in
            record { never_falls = is.never_falls; hardware = λ e. absurd (waits_well tells timings asked mid (Err error) left told waits e) }
        | HasNotAsked stop left told asks ↦
            let is = asks_grounded (Unit {0}) tells own first (record { action = action; given = 0 } ∷ rest) budget first (Err stop) left told (grounded_itself first) asks in
            record { never_falls = is.never_falls; hardware = λ e. absurd (not_stopped stop e) }
      ]

-- A command of one program, by what its action makes

module _ {T : Type 0} (tells : Type 0) (own : OwnProgramsRun tells) (budget : ℕ) (first : MachineState) (action : Action) (judges : Result ℕ RunStop → Result T ClientError)
    (stopped : judges (Err Budget) ≡ Err Hardware → ⊥)
    (made : (last : MachineState) → ActsOn tells (given_to action 0 first) (code_of action) last → judges (Ok (answer_of action 0 last.device.value)) ≡ Err Hardware
    → Rose first.device.store.flash.faults last.device.store.flash.faults) where
  run_rose : (answer : Result ℕ RunStop) (left : ℕ) (last : MachineState) → OwnRun tells action 0 budget first answer left last → judges answer ≡ Err Hardware
      → Rose first.device.store.flash.faults last.device.store.flash.faults
  run_rose answer left last run = elim run as (λ answer left last run. judges answer ≡ Err Hardware → Rose first.device.store.flash.faults last.device.store.flash.faults) [
    | IsMade left last acted spent ↦ made last acted
    | StopsAtOnce none ↦ λ e. absurd (stopped e)
    | StopsBefore one takes ↦ λ e. absurd (stopped e)
    | StopsBehind last one shows acted ↦ λ e. absurd (stopped e)
  ]

  run_cause : (answer : Result ℕ RunStop) (result : Result T ClientError) (left : ℕ) (last : MachineState) → Performs (Allows tells) own_entries action 0 budget first answer left last
      → result ≡ judges answer → HasItsCause first last result
  run_cause answer result left last asks result_is =
      let is = run_grounded (Unit {0}) tells own first action 0 budget first answer left last (grounded_itself first) asks in
      record { never_falls = is.never_falls; hardware = λ e. run_rose answer left last (own action 0 budget first answer left last asks) (sym result_is ∙ e) }

-- A count

count_hardware : (n : ℕ) → count_answer (Ok n) ≡ Err Hardware → n ≡ 2 ^ 32 - 1
count_hardware n e = elim (cases_eq n (2 ^ 32 - 1)) [
  | inl same ↦ same
  | inr apart ↦ absurd (not_ok n (sym (ap (λ (b : Bool). cond {A = Result ℕ ClientError} b (Err Hardware) (Ok n)) (ne_eqb n (2 ^ 32 - 1) apart)) ∙ e))
]

module _ (tells : Type 0) (own : OwnProgramsRun tells) (budget : ℕ) (first : MachineState) where
  count_by : (last : MachineState) (store : StoreView) (result : Result ℕ StoreError) → Counted tells (given_up first.device).store store result →
      last.device ≡ counted result store (given_up first.device)
      → ActsOn tells first 0xA last → last.device.value % 2 ^ 32 ≡ 2 ^ 32 - 1 → Rose first.device.store.flash.faults last.device.store.flash.faults
  count_by last store (Ok n) count is acted full =
      let most = first.device.store.layout.many_slots in
      let within : n ≤ first.device.store.layout.slots = count.within in
      let value : last.device.value ≡ n = ap (λ (d : DeviceState). d.value) is in
      let here : n % 2 ^ 32 ≡ 2 ^ 32 - 1 = ap (λ (k : ℕ). k % 2 ^ 32) (sym value) ∙ full in
      absurd (omega arith)
  count_by last store (Err error) count is acted full = acted.effect.count refl (ap (λ (d : DeviceState). d.value) is)

  pub count_cause : (result : Result ℕ ClientError) (left : ℕ) (last : MachineState) → Counts (Allows tells) own_entries budget first result left last → HasItsCause first last result
  count_cause result left last asked =
      run_cause tells own budget first GetRecordCount count_answer (λ e. not_stopped Budget e) (λ last acted e.
      let made = counts tells first.device first.memory.range last.device last.memory.range acted.acts in
      count_by last made.store made.result made.count made.new_is acted (count_hardware (last.device.value % 2 ^ 32) e))
      asked.answer result left last asked.asks asked.result_is

-- Next

next_hardware : (n : ℕ) → next_answer (Ok n) ≡ Err Hardware → n ≡ 0
next_hardware n e = elim (cases_eq n 0) [
  | inl same ↦ same
  | inr apart ↦ absurd (no_id (nat_eq n (2 ^ 64 - 1))
      (sym (ap (λ (b : Bool). cond {A = Result (Option ℕ) ClientError} b (Err Hardware) (cond (nat_eq n (2 ^ 64 - 1)) (Ok None) (Ok (Some n)))) (ne_eqb n 0 apart)) ∙ e))
]
  where
    no_id : (last : Bool) → cond {A = Result (Option ℕ) ClientError} last (Ok None) (Ok (Some n)) ≡ Err Hardware → ⊥
    no_id true e = not_ok None e
    no_id false e = not_ok (Some n) e

module _ (tells : Type 0) (own : OwnProgramsRun tells) (budget : ℕ) (first : MachineState) where
  next_by : (last : MachineState) (store : StoreView) (result : Result (Option ℕ) StoreError) → IsAllowed result → last.device ≡ found result store (given_up first.device)
      → ActsOn tells first 0x8 last → last.device.value % 2 ^ 64 ≡ 0 → Rose first.device.store.flash.faults last.device.store.flash.faults
  next_by last store (Ok (Some id)) allowed is acted zero_value =
      let value : last.device.value ≡ id = ap (λ (d : DeviceState). d.value) is in
      let here : id % 2 ^ 64 ≡ 0 = ap (λ (k : ℕ). k % 2 ^ 64) (sym value) ∙ zero_value in
      let small : id < 2 ^ 64 = allowed.1 in
      absurd (allowed_not_zero id allowed.0 (omega arith))
  next_by last store (Ok None) allowed is acted zero_value =
      let value : last.device.value ≡ 2 ^ 64 - 1 = ap (λ (d : DeviceState). d.value) is in
      absurd (omega arith)
  next_by last store (Err error) allowed is acted zero_value = acted.effect.next refl (ap (λ (d : DeviceState). d.value) is)

  pub next_cause : (result : Result (Option ℕ) ClientError) (left : ℕ) (last : MachineState) → Names (Allows tells) own_entries budget first result left last → HasItsCause first last result
  next_cause result left last asked =
      run_cause tells own budget first GetRecordIdentifier next_answer (λ e. not_stopped Budget e) (λ last acted e.
      let made = finds_next tells first.device first.memory.range last.device last.memory.range acted.acts in
      next_by last made.store made.result made.allowed made.new_is acted (next_hardware (last.device.value % 2 ^ 64) e))
      asked.answer result left last asked.asks asked.result_is
