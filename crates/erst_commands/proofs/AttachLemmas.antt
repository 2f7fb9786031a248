-- Attaching to the machine's own table never fails.
use Rattle.std.proofs.Common.{◌≡◌, ℕ, ◌+◌, ◌*◌, ◌/◌, ◌%◌, ◌^◌, ◌≤◌, Bool, List, [], ◌∷◌, Option, Some, Result, Ok, Err, refl, sym, ap, subst, ◌∙◌, arith, cond}
use Rattle.std.proofs.lemmas.Bool.{le-ltb}
use Rattle.base_model.specs.Layout.{room_of, reach_of}
use Rattle.erst_entries.specs.declared.actions.Action.{Action}
use Rattle.erst_entries.specs.declared.actions.Action.TheVariants.{GetErrorLogAddressRange, GetErrorLogAddressRangeLength, GetErrorLogAddressRangeAttributes, GetExecuteOperationTimings}
use Rattle.erst_entries.specs.Actions.{action_of, code_of}
use Rattle.erst_entries.specs.Programs.{entries_of}
use Rattle.erst_interp.specs.declared.stops.RunStop.{RunStop}
use Rattle.erst_client.specs.declared.errors.AttachError.{AttachError}
use Rattle.erst_client.specs.declared.errors.AttachError.TheVariants.{NoRange}
use Rattle.erst_client.specs.declared.requests.Request.{Request}
use Rattle.erst_client.specs.Requests.{Asks, Performs}
use Rattle.erst_client.specs.Steps.{steps_of}
use Rattle.erst_client.specs.Commands.{ClientState}
use Rattle.erst_client.specs.Attaching.{Attaches, attach_requests}
use Rattle.erst_device.specs.Actions.{log_range_at}
use Rattle.erst_device.specs.Timings.{most_changes, timings_of}
use Rattle.erst_device.specs.DeviceState.{DeviceState}
use Rattle.erst_device.specs.Actions.{told_by, Acts}
use Rattle.erst_machine.specs.MachineState.{MachineState}
use Rattle.erst_machine.specs.Allowed.{Allows, ActsOn}
use Rattle.erst_machine.specs.OwnTables.{own_entries, own_erst}
use Rattle.erst_commands.specs.OwnPrograms.{with_value, given_to, answer_of, OwnProgramsRun}
use Rattle.erst_commands.specs.Attached.{own_client, AttachesOwn}
use Rattle.erst_commands.proofs.ActionCases.{tells_number}
use Rattle.erst_commands.proofs.MachineSteps.{acted_is}
use Rattle.erst_commands.proofs.OwnProgramLemmas.{has_steps}
use Rattle.erst_commands.proofs.AskLemmas.{with_answer, FirstAsked, Went, Halted, first_asked, none_asked}
use Rattle.erst_commands.proofs.LimitLemmas.{reach-few, reach-least, timings-halves}
use Rattle.erst_client.proofs.Terms.{client_of, attached}

steps_two : (steps_of own_entries GetErrorLogAddressRange ≡ 2) × (steps_of own_entries GetErrorLogAddressRangeLength ≡ 2) × (steps_of own_entries GetErrorLogAddressRangeAttributes ≡ 2)
    × (steps_of own_entries GetExecuteOperationTimings ≡ 2)
unfolding own_entries entries_of
steps_two = (refl, refl, refl, refl)

abbrev request_of : Action → Request
request_of action = record { action = action; given = 0 }

requests-own : attach_requests own_entries
    ≡ request_of GetErrorLogAddressRange ∷ request_of GetErrorLogAddressRangeLength ∷ request_of GetErrorLogAddressRangeAttributes ∷ request_of GetExecuteOperationTimings ∷ []
unfolding own_entries entries_of
requests-own = refl

same_answer : (x y : ℕ) → ◌≡◌ {A = Result ℕ RunStop} (Ok x) (Ok y) → x ≡ y
same_answer x y e = cc

-- the action tells this of whatever device
abbrev Says : Action → (DeviceState → ℕ) → Type 0
Says action value = (device : DeviceState) → told_by action device.status device.store.layout ≡ Some (value device)

module _ (tells : Type 0) (own : OwnProgramsRun tells) (action : Action) (value : DeviceState → ℕ) (says : Says action value)
    (code : action_of (code_of action) ≡ Some action) (two : steps_of own_entries action ≡ 2) (takes : (given : ℕ) (m : MachineState) → given_to action given m
    ≡ m)
    (shows : (given v : ℕ) → answer_of action given v ≡ v % 2 ^ 64) where
  is_told : (budget before : ℕ) (base old : MachineState) (result : Result ℕ RunStop) (left : ℕ) (last : MachineState) → 2 ≤ budget →
      old ≡ with_value before base → value old.device ≡ value base.device
      → Performs (Allows tells) own_entries action 0 budget old result left last → (result ≡ Ok (value base.device % 2 ^ 64)) × (left + 2 ≡ budget) × (last ≡ with_value (value base.device) base)
  is_told budget before base old result left last enough old_is same run =
      let made = has_steps tells action 0 budget old result left last enough (own action 0 budget old result left last run) in
      let acted : ActsOn tells old (code_of action) last = subst (λ (m : MachineState). ActsOn tells m (code_of action) last) (takes 0 old) made.acted in
      let acts = subst (λ (a : Option Action). Acts tells old.device old.memory.range a last.device last.memory.range) code acted.acts in
      let told = tells_number tells action (value old.device) old.device old.memory.range last.device last.memory.range (says old.device) acts in
      let there : last ≡ record old { device = record old.device { value = value old.device } } =
      acted_is tells old (code_of action) last (record old.device { value = value old.device }) acted told.new_is told.range_is in
      let last_is : last ≡ with_value (value base.device) base = there ∙ ap (λ (n : ℕ). with_value n old) same ∙ ap (λ (m : MachineState). with_value (value base.device) m) old_is in
      let shown : last.device.value ≡ value base.device = ap (λ (m : MachineState). m.device.value) last_is in
      (made.answer ∙ ap (λ (n : ℕ). Ok n) (shows 0 last.device.value ∙ ap (λ (n : ℕ). n % 2 ^ 64) shown), ap (λ (n : ℕ). left + n) (sym two) ∙ made.spent, last_is)

stop_no : (answer : ℕ) (stop : RunStop) → Err stop ≡ Ok answer → ⊥
stop_no answer stop e = absurd (cc)

-- the client of the four answers
judged_own : (first : MachineState) (a b c d : ℕ) → a ≡ log_range_at % 2 ^ 64 → b ≡ reach_of (room_of first.device.store.layout) % 2 ^ 64 → c ≡ 0 % 2 ^ 64 →
    d ≡ timings_of first.device.store.layout % 2 ^ 64
    → attached own_erst (Ok (a ∷ b ∷ c ∷ d ∷ [])) ≡ Ok (own_client first)
judged_own first a b c d a_is b_is c_is d_is =
    let layout = first.device.store.layout in
    let few = reach-few first.device.store.layout in
    let least = reach-least first.device.store.layout in
    let range : b ≡ reach_of (room_of first.device.store.layout) = b_is ∙ (omega (arith, few)) in
    let times = timings-halves first.device.store.layout in
    let greatest : d / 2 ^ 32 ≡ 10 * most_changes first.device.store.layout = ap (λ (n : ℕ). n / 2 ^ 32) d_is ∙ times.0 in
    let nominal : d % 2 ^ 32 ≡ 10 * (first.device.store.layout.per_slot + 4) = ap (λ (n : ℕ). n % 2 ^ 32) d_is ∙ times.1 in
    ap (λ (n : ℕ). attached own_erst (Ok (a ∷ b ∷ n ∷ d ∷ []))) c_is
    ∙ ap (λ (t : Bool). cond {A = Result ClientState AttachError} t (Err (NoRange b)) (Ok (client_of own_erst (a ∷ b ∷ 0 ∷ d ∷ [])))) (le-ltb b 128 (omega (arith, range, least)))
    ∙ ap (λ (n : ℕ). Ok (record { table = own_erst; address = n; range = b; timings = Some (d / 2 ^ 32, d % 2 ^ 32) })) a_is
    ∙ ap (λ (n : ℕ). Ok (record { table = own_erst; address = log_range_at; range = n; timings = Some (d / 2 ^ 32, d % 2 ^ 32) })) range
    ∙ ap (λ (n : ℕ). Ok (record { table = own_erst; address = log_range_at; range = reach_of (room_of first.device.store.layout); timings = Some (n, d % 2 ^ 32) })) greatest
    ∙ ap (λ (n : ℕ). Ok (record {
      table = own_erst;
      address = log_range_at;
      range = reach_of (room_of first.device.store.layout);
      timings =
          Some (10 * most_changes first.device.store.layout, n);
    })) nominal

pub attach_own : (tells : Type 0) → OwnProgramsRun tells → (budget : ℕ) (first : MachineState) (result : Result ClientState AttachError) (left : ℕ) (last : MachineState) → 8 ≤ budget
    → Attaches (Allows tells) own_erst budget first result left last → AttachesOwn budget first result left last
attach_own tells own budget first result left last enough attaches =
    by_first (first_asked (Allows tells) own_entries _ _ budget first attaches.answers left last
    (subst (λ (rs : List Request). Asks (Allows tells) own_entries rs budget first attaches.answers left last) requests-own attaches.asks))
  where
    told_address : (budget before : ℕ) (base old : MachineState) (result : Result ℕ RunStop) (left : ℕ) (last : MachineState) → 2 ≤ budget → old ≡ with_value before base
        → Performs (Allows tells) own_entries GetErrorLogAddressRange 0 budget old result left last → (result ≡ Ok (log_range_at % 2 ^ 64)) ×
        (left + 2 ≡ budget) × (last ≡ with_value log_range_at base)
    told_address budget before base old result left last more is run =
        is_told tells own GetErrorLogAddressRange (λ d. log_range_at) (λ d. refl) refl steps_two.0 (λ given m. refl) (λ given v. refl) budget before base old result left last more is refl run

    told_length : (budget before : ℕ) (base old : MachineState) (result : Result ℕ RunStop) (left : ℕ) (last : MachineState) → 2 ≤ budget → old ≡ with_value before base
        → Performs (Allows tells) own_entries GetErrorLogAddressRangeLength 0 budget old result left last
        → (result ≡ Ok (reach_of (room_of base.device.store.layout) % 2 ^ 64)) × (left + 2 ≡ budget) × (last ≡ with_value (reach_of (room_of base.device.store.layout)) base)
    told_length budget before base old result left last more is run =
        is_told tells own GetErrorLogAddressRangeLength (λ d. reach_of (room_of d.store.layout)) (λ d. refl) refl steps_two.1 (λ given m. refl)
        (λ given v. refl) budget before base old result left last more is
        (ap (λ (m : MachineState). reach_of (room_of m.device.store.layout)) is) run

    told_attributes : (budget before : ℕ) (base old : MachineState) (result : Result ℕ RunStop) (left : ℕ) (last : MachineState) → 2 ≤ budget → old ≡ with_value before base
        → Performs (Allows tells) own_entries GetErrorLogAddressRangeAttributes 0 budget old result left last → (result ≡ Ok (0 % 2 ^ 64)) × (left + 2 ≡ budget) × (last ≡ with_value 0 base)
    told_attributes budget before base old result left last more is run =
        is_told tells own GetErrorLogAddressRangeAttributes (λ d. 0) (λ d. refl) refl steps_two.2 (λ given m. refl) (λ given v. refl) budget before base old result left last more is refl run

    told_timings : (budget before : ℕ) (base old : MachineState) (result : Result ℕ RunStop) (left : ℕ) (last : MachineState) → 2 ≤ budget → old ≡ with_value before base
        → Performs (Allows tells) own_entries GetExecuteOperationTimings 0 budget old result left last
        → (result ≡ Ok (timings_of base.device.store.layout % 2 ^ 64)) × (left + 2 ≡ budget) × (last ≡ with_value (timings_of base.device.store.layout) base)
    told_timings budget before base old result left last more is run =
        is_told tells own GetExecuteOperationTimings (λ d. timings_of d.store.layout) (λ d. refl) refl steps_two.3 (λ given m. refl) (λ given v. refl) budget before base old result left last more is
        (ap (λ (m : MachineState). timings_of m.device.store.layout) is) run

    by_fourth : (a b c left3 : ℕ) (w3 : MachineState) (others : Result (List ℕ) RunStop) → w3 ≡ with_value 0 first → a ≡ log_range_at % 2 ^ 64 →
        b ≡ reach_of (room_of first.device.store.layout) % 2 ^ 64 → c ≡ 0 % 2 ^ 64
        → left3 + 6 ≡ budget → attaches.answers ≡ with_answer a (with_answer b (with_answer c others))
        → FirstAsked (Allows tells) own_entries (request_of GetExecuteOperationTimings) [] left3 w3 others left last → AttachesOwn budget first result left last
    by_fourth a b c left3 w3 others is a_is b_is c_is spent answers_are asked = elim asked [
      | Went d left4 w4 none run more joined ↦
          let told = told_timings left3 0 first w3 (Ok d) left4 w4 (omega (arith, spent, enough)) is run in
          let end = none_asked (Allows tells) own_entries left4 w4 none left last more in
          let answers : attaches.answers ≡ Ok (a ∷ b ∷ c ∷ d ∷ []) =
          answers_are ∙ ap (λ (r : Result (List ℕ) RunStop). with_answer a (with_answer b (with_answer c r))) (joined ∙ ap (with_answer d) end.result_is) in
          record {
            result_is = attaches.result_is ∙ ap (attached own_erst) answers ∙ judged_own first a b c d a_is b_is c_is (same_answer d _ told.0);
            left_is = omega (arith, end.left_is, told.1, spent);
            last_is = end.last_is ∙ told.2;
          }
      | Halted stop run is_stop ↦
          let told = told_timings left3 0 first w3 (Err stop) left last (omega (arith, spent, enough)) is run in
          absurd (stop_no _ stop told.0)
    ]

    by_third : (a b left2 : ℕ) (w2 : MachineState) (others : Result (List ℕ) RunStop) → w2 ≡ with_value (reach_of (room_of first.device.store.layout)) first → a ≡ log_range_at % 2 ^ 64
        → b ≡ reach_of (room_of first.device.store.layout) % 2 ^ 64 → left2 + 4 ≡ budget → attaches.answers ≡ with_answer a (with_answer b others)
        → FirstAsked (Allows tells) own_entries (request_of GetErrorLogAddressRangeAttributes) (request_of GetExecuteOperationTimings ∷ []) left2 w2 others left
        last → AttachesOwn budget first result left last
    by_third a b left2 w2 others is a_is b_is spent answers_are asked = elim asked [
      | Went c left3 w3 more_others run more joined ↦
          let told = told_attributes left2 _ first w2 (Ok c) left3 w3 (omega (arith, spent, enough)) is run in
          by_fourth a b c left3 w3 more_others told.2 a_is b_is (same_answer c _ told.0) (omega (arith, told.1, spent))
          (answers_are ∙ ap (λ (r : Result (List ℕ) RunStop). with_answer a (with_answer b r)) joined) (first_asked (Allows tells) own_entries _ _ left3 w3 more_others left last more)
      | Halted stop run is_stop ↦
          let told = told_attributes left2 _ first w2 (Err stop) left last (omega (arith, spent, enough)) is run in
          absurd (stop_no _ stop told.0)
    ]

    by_second : (a left1 : ℕ) (w1 : MachineState) (others : Result (List ℕ) RunStop) → w1 ≡ with_value log_range_at first → a ≡ log_range_at % 2 ^ 64 →
        left1 + 2 ≡ budget → attaches.answers ≡ with_answer a others
        → FirstAsked (Allows tells) own_entries (request_of GetErrorLogAddressRangeLength) (request_of GetErrorLogAddressRangeAttributes ∷ request_of
        GetExecuteOperationTimings ∷ []) left1 w1 others left last
        → AttachesOwn budget first result left last
    by_second a left1 w1 others is a_is spent answers_are asked = elim asked [
      | Went b left2 w2 more_others run more joined ↦
          let told = told_length left1 _ first w1 (Ok b) left2 w2 (omega (arith, spent, enough)) is run in
          by_third a b left2 w2 more_others told.2 a_is (same_answer b _ told.0) (omega (arith, told.1, spent))
          (answers_are ∙ ap (with_answer a) joined) (first_asked (Allows tells) own_entries _ _ left2 w2 more_others left last more)
      | Halted stop run is_stop ↦
          let told = told_length left1 _ first w1 (Err stop) left last (omega (arith, spent, enough)) is run in
          absurd (stop_no _ stop told.0)
    ]

    by_first : FirstAsked (Allows tells) own_entries (request_of GetErrorLogAddressRange)
        (request_of GetErrorLogAddressRangeLength ∷ request_of GetErrorLogAddressRangeAttributes ∷ request_of GetExecuteOperationTimings ∷ []) budget first
        attaches.answers left last → AttachesOwn budget first result left last
    by_first asked = elim asked [
      | Went a left1 w1 others run more joined ↦
          let told = told_address budget first.device.value first first (Ok a) left1 w1 (omega (arith, enough)) refl run in
          by_second a left1 w1 others told.2 (same_answer a _ told.0) told.1 joined (first_asked (Allows tells) own_entries _ _ left1 w1 others left last more)
      | Halted stop run is_stop ↦
          let told = told_address budget first.device.value first first (Err stop) left last (omega (arith, enough)) refl run in
          absurd (stop_no _ stop told.0)
    ]
