-- Count and next by the machine's own table are the map's.
use Rattle.std.proofs.Common.{◌≡◌, ◌≢◌, ℕ, ◌+◌, ◌-◌, ◌%◌, ◌^◌, ◌<◌, ◌≤◌, Bool, true, false, cond, Option, Some, None, Result, Ok, Err, refl, sym, ap, subst, ◌∙◌, arith}
use Rattle.std.specs.Prelude.{◌==◌, if◌then◌else◌}
use Rattle.std.specs.FinMap.{len}
use Rattle.std.proofs.lemmas.Bool.{ne_eqb}
use Rattle.base_model.specs.Faults.{Rose}
use Rattle.record_model.specs.Records.{is_reserved}
use Rattle.record_model.proofs.RefusalLemmas.{allowed_not_zero}
use Rattle.record_store.specs.Store.{StoreView, DividesAlike, abandoned}
use Rattle.record_store.specs.Answers.{HasFaultsOf}
use Rattle.record_store.specs.Calls.{OnlyLooks}
use Rattle.record_store.specs.declared.errors.StoreError.{StoreError}
use Rattle.record_store.specs.declared.errors.StoreError.TheVariants as errors
use Rattle.erst_entries.specs.declared.actions.Action.{Action}
use Rattle.erst_entries.specs.declared.actions.Action.TheVariants.{GetRecordIdentifier, GetRecordCount}
use Rattle.erst_entries.specs.Actions.{code_of}
use Rattle.erst_interp.specs.declared.stops.RunStop.{RunStop}
use Rattle.erst_interp.specs.declared.stops.RunStop.TheVariants.{Budget}
use Rattle.erst_client.specs.declared.errors.ClientError.{ClientError}
use Rattle.erst_client.specs.declared.errors.ClientError.TheVariants.{Hardware, Stopped}
use Rattle.erst_client.specs.Requests.{Performs}
use Rattle.erst_client.specs.Commands.{Counts, Names}
use Rattle.erst_client.specs.Steps.{steps_of}
use Rattle.erst_device.specs.StoreCalls.{FoundNext, Counted}
use Rattle.erst_device.specs.DeviceState.{DeviceState, given_up}
use Rattle.erst_device.specs.Actions.{found, counted}
use Rattle.erst_device.proofs.EffectLemmas.{faults_rise}
use Rattle.erst_machine.specs.MachineState.{MachineState, records_of}
use Rattle.erst_machine.specs.Allowed.{Allows, ActsOn}
use Rattle.erst_machine.specs.OwnTables.{own_entries}
use Rattle.erst_commands.specs.OwnPrograms.{takes_value, given_to, answer_of, OwnRun, IsMade, StopsAtOnce as none_made, StopsBefore, StopsBehind as one_made, OwnProgramsRun}
use Rattle.erst_commands.specs.Looks.{OnlyLooked, HasAsked, HasFailed, CountMade, IsCounted, IsNotCounted, NextMade, IsFound, IsAtEnd, IsNotFound, AsksOnce, Answers, StopsBehind, StopsAtOnce}
use Rattle.erst_commands.proofs.ActionCases.{finds_next, counts}
use Rattle.erst_commands.proofs.OwnProgramLemmas.{steps-count, steps-next}
use Rattle.erst_commands.proofs.MachineSteps.{acted_is}
use Rattle.erst_commands.proofs.SharedLemmas.{differ}
use Rattle.erst_device.proofs.Words.{IsAllowed}
use Rattle.erst_client.proofs.Terms.{counted as count_answer, named as next_answer}

-- what the store says of a call that only looks, from the store with its execution given up
equivalent_from : (old new : StoreView) → DividesAlike (abandoned old) new → DividesAlike old new
equivalent_from old new equivalent = record { layout = equivalent.layout; size = equivalent.size; sector_size = equivalent.sector_size }

pub only_looked : {T : Type 0} (tells : Type 0) (told : tells) (first last : MachineState) (store : StoreView) (result : Result T StoreError) →
    OnlyLooks tells (abandoned first.device.store) store result
    → last.device.store ≡ store → last ≡ record first { device = last.device } → OnlyLooked first last
only_looked tells told first last store result leaves there elsewhere = subst (λ (s : StoreView). OnlyLooked first (record last { device = record last.device { store = s } })) (sym there)
    (record {
      kept = leaves.kept told;
      few = leaves.few told;
      idle = leaves.idle;
      equivalent = equivalent_from first.device.store store leaves.equivalent;
      never_falls = faults_rise first.device.store.flash.faults store.flash.faults result leaves.cause;
      elsewhere = ap (λ (m : MachineState). record m { device = record last.device { store = store } }) elsewhere;
    })

pub has_asked : {T : Type 0} (tells : Type 0) (told : tells) (first last : MachineState) (store : StoreView) (answer : T) → OnlyLooks tells (abandoned first.device.store) store (Ok answer)
    → last.device.store ≡ store → last ≡ record first { device = last.device } → HasAsked first last
has_asked {T = T} tells told first last store answer leaves there elsewhere =
    let looked = only_looked tells told first last store (Ok answer) leaves there elsewhere in
    record {
      looked = looked;
      steps = ap (λ (s : StoreView). s.flash.steps) there ∙ leaves.ended told;
      certain = ap (λ (s : StoreView). s.in_doubt) there ∙ leaves.doubt.certain;
      faults = ap (λ (s : StoreView). s.flash.faults) there ∙ leaves.cause;
    }

pub has_failed : {T : Type 0} (tells : Type 0) (told : tells) (first last : MachineState) (store : StoreView) (error : StoreError) →
    OnlyLooks {T = T} tells (abandoned first.device.store) store (Err error)
    → error ≡ errors.Flash → last.device.store ≡ store → last ≡ record first { device = last.device } → last.device.cursor ≡ first.device.cursor → HasFailed first last
has_failed {T = T} tells told first last store error leaves flash there elsewhere cursor =
    let cause = subst (λ (e : StoreError). HasFaultsOf {T = T} first.device.store.flash.faults store.flash.faults (Err e)) flash leaves.cause in
    record {
      looked = only_looked tells told first last store (Err error) leaves there elsewhere;
      rose = subst (λ (s : StoreView). Rose first.device.store.flash.faults s.flash.faults) (sym there) cause.1;
      cursor = cursor;
    }

-- A command of one program of two steps, by what its action makes

module _ {T : Type 0} (tells : Type 0) (own : OwnProgramsRun tells) (budget : ℕ) (first : MachineState) (action : Action) (judges : Result ℕ RunStop → Result T ClientError)
    (Made : MachineState → Result T ClientError → Type 0) (given : given_to action 0 first ≡ first) (takes : takes_value action ≡ false) (two : steps_of own_entries action ≡ 2)
    (stops : judges (Err Budget) ≡ Err (Stopped Budget)) (made : (last : MachineState) → ActsOn tells first (code_of action) last →
    Made last (judges (Ok (answer_of action 0 last.device.value)))) where
  has_stopped : (last : MachineState) → AsksOnce (Made last) budget first last (Err (Stopped Budget)) 0 → AsksOnce (Made last) budget first last (judges (Err Budget)) 0
  has_stopped last = subst (λ (r : Result T ClientError). AsksOnce (Made last) budget first last r 0) (sym stops)

  by_run : (answer : Result ℕ RunStop) (left : ℕ) (last : MachineState) → OwnRun tells action 0 budget first answer left last → AsksOnce (Made last) budget first last (judges answer) left
  by_run answer left last run = elim run as (λ answer left last run. AsksOnce (Made last) budget first last (judges answer) left) [
    | IsMade left last acted spent ↦
        Answers _ left (made last (subst (λ (w : MachineState). ActsOn tells w (code_of action) last) given acted)) (ap (λ (n : ℕ). left + n) (sym two) ∙ spent)
    | none_made none ↦ has_stopped first (StopsAtOnce none refl)
    | StopsBefore one also ↦ differ (sym also ∙ takes)
    | one_made last one shows acted ↦ has_stopped last (StopsBehind _ (made last acted) one)
  ]

  asks_once : (answer : Result ℕ RunStop) (result : Result T ClientError) (left : ℕ) (last : MachineState) → Performs (Allows tells) own_entries action 0 budget first answer left last
      → result ≡ judges answer → AsksOnce (Made last) budget first last result left
  asks_once answer result left last asks is =
      subst (λ (r : Result T ClientError). AsksOnce (Made last) budget first last r left) (sym is) (by_run answer left last (own action 0 budget first answer left last asks))

-- Count

count_says : (n : ℕ) → n ≤ 1024 → count_answer (Ok (n % 2 ^ 32)) ≡ Ok n
count_says n few =
    let small : n % 2 ^ 32 ≡ n = omega arith in
    ap (λ (k : ℕ). count_answer (Ok k)) small ∙ ap (λ (b : Bool). cond {A = Result ℕ ClientError} b (Err Hardware) (Ok n)) (ne_eqb n (2 ^ 32 - 1) (λ e. absurd (omega arith)))

module _ (tells : Type 0) (told : tells) (first last : MachineState) where
  count_by : (store : StoreView) (result : Result ℕ StoreError) → Counted tells (given_up first.device).store store result → last.device ≡ counted result store (given_up first.device)
      → last ≡ record first { device = last.device } → CountMade first last (count_answer (Ok (last.device.value % 2 ^ 32)))
  count_by store (Ok n) count is elsewhere =
      let there : last.device.store ≡ store = ap (λ (d : DeviceState). d.store) is in
      let n_is : n ≡ len (records_of first) = count.answer told in
      let most = first.device.store.layout.many_slots in
      let within : n ≤ first.device.store.layout.slots = count.within in
      let few : len (records_of first) ≤ 1024 = omega arith in
      let value : last.device.value ≡ len (records_of first) = ap (λ (d : DeviceState). d.value) is ∙ n_is in
      subst (λ (r : Result ℕ ClientError). CountMade first last r) (sym (ap (λ (k : ℕ). count_answer (Ok (k % 2 ^ 32))) value ∙ count_says (len (records_of first)) few))
      (IsCounted (has_asked tells told first last store n count.leaves there elsewhere) (ap (λ (d : DeviceState). d.cursor) is))
  count_by store (Err error) count is elsewhere =
      let there : last.device.store ≡ store = ap (λ (d : DeviceState). d.store) is in
      let value : last.device.value ≡ 2 ^ 32 - 1 = ap (λ (d : DeviceState). d.value) is in
      subst (λ (k : ℕ). CountMade first last (count_answer (Ok (k % 2 ^ 32)))) (sym value)
      (IsNotCounted (has_failed {T = ℕ} tells told first last store error count.leaves count.error there elsewhere (ap (λ (d : DeviceState). d.cursor) is)))

  count_made : ActsOn tells first 0xA last → CountMade first last (count_answer (Ok (last.device.value % 2 ^ 32)))
  count_made acted =
      let made = counts tells first.device first.memory.range last.device last.memory.range acted.acts in
      count_by made.store made.result made.count made.new_is (acted_is tells first 0xA last last.device acted refl made.range_is)

pub count_command : (tells : Type 0) → OwnProgramsRun tells → tells → (budget : ℕ) (first : MachineState) (result : Result ℕ ClientError) (left : ℕ) (last : MachineState)
    → Counts (Allows tells) own_entries budget first result left last → AsksOnce (CountMade first last) budget first last result left
count_command tells own told budget first result left last asked =
    asks_once tells own budget first GetRecordCount count_answer (CountMade first) refl refl steps-count refl (λ last acted. count_made tells told first last acted)
    asked.answer result left last asked.asks asked.result_is

-- Next

allowed_not_last : (id : ℕ) → is_reserved id ≡ false → id ≢ 2 ^ 64 - 1
unfolding is_reserved
allowed_not_last id allowed last = differ (sym (ap (λ (n : ℕ). if n == 0 then true else (n == 2 ^ 64 - 1)) last) ∙ allowed)
  where
    differ : true ≡ false → ⊥
    differ e = cc

next_says : (id : ℕ) → id < 2 ^ 64 → is_reserved id ≡ false → next_answer (Ok (id % 2 ^ 64)) ≡ Ok (Some id)
next_says id small allowed =
    let same : id % 2 ^ 64 ≡ id = omega arith in
    ap (λ (k : ℕ). next_answer (Ok k)) same
    ∙ ap (λ (b : Bool). cond {A = Result (Option ℕ) ClientError} b (Err Hardware) (if id == 2 ^ 64 - 1 then Ok None else Ok (Some id))) (ne_eqb id 0 (allowed_not_zero id allowed))
    ∙ ap (λ (b : Bool). cond {A = Result (Option ℕ) ClientError} b (Ok None) (Ok (Some id))) (ne_eqb id (2 ^ 64 - 1) (allowed_not_last id allowed))

module _ (tells : Type 0) (told : tells) (first last : MachineState) where
  next_by : (store : StoreView) (result : Result (Option ℕ) StoreError) → FoundNext tells (given_up first.device).store store first.device.cursor result → IsAllowed result
      → last.device ≡ found result store (given_up first.device) → last ≡ record first { device = last.device } → NextMade first last (next_answer (Ok (last.device.value % 2 ^ 64)))
  next_by store (Ok (Some id)) next allowed is elsewhere =
      let there : last.device.store ≡ store = ap (λ (d : DeviceState). d.store) is in
      let least = next.answer told in
      let value : last.device.value ≡ id = ap (λ (d : DeviceState). d.value) is in
      subst (λ (r : Result (Option ℕ) ClientError). NextMade first last r) (sym (ap (λ (k : ℕ). next_answer (Ok (k % 2 ^ 64))) value ∙ next_says id allowed.1 allowed.0))
      (IsFound id (has_asked tells told first last store (Some id) next.leaves there elsewhere) least (ap (λ (d : DeviceState). d.cursor) is))
  next_by store (Ok None) next allowed is elsewhere =
      let there : last.device.store ≡ store = ap (λ (d : DeviceState). d.store) is in
      let value : last.device.value ≡ 2 ^ 64 - 1 = ap (λ (d : DeviceState). d.value) is in
      subst (λ (k : ℕ). NextMade first last (next_answer (Ok (k % 2 ^ 64)))) (sym value)
      (IsAtEnd (has_asked tells told first last store None next.leaves there elsewhere) (next.answer told) (ap (λ (d : DeviceState). d.cursor) is))
  next_by store (Err error) next allowed is elsewhere =
      let there : last.device.store ≡ store = ap (λ (d : DeviceState). d.store) is in
      let value : last.device.value ≡ 0 = ap (λ (d : DeviceState). d.value) is in
      subst (λ (k : ℕ). NextMade first last (next_answer (Ok (k % 2 ^ 64)))) (sym value)
      (IsNotFound (has_failed {T = Option ℕ} tells told first last store error next.leaves next.error there elsewhere (ap (λ (d : DeviceState). d.cursor) is)))

  next_made : ActsOn tells first 0x8 last → NextMade first last (next_answer (Ok (last.device.value % 2 ^ 64)))
  next_made acted =
      let made = finds_next tells first.device first.memory.range last.device last.memory.range acted.acts in
      next_by made.store made.result made.next made.allowed made.new_is (acted_is tells first 0x8 last last.device acted refl made.range_is)

pub next_command : (tells : Type 0) → OwnProgramsRun tells → tells → (budget : ℕ) (first : MachineState) (result : Result (Option ℕ) ClientError) (left : ℕ) (last : MachineState)
    → Names (Allows tells) own_entries budget first result left last → AsksOnce (NextMade first last) budget first last result left
next_command tells own told budget first result left last asked =
    asks_once tells own budget first GetRecordIdentifier next_answer (NextMade first) refl refl steps-next refl (λ last acted. next_made tells told first last acted)
    asked.answer result left last asked.asks asked.result_is
