-- The sequence of a command over the machine and its own table: its requests up to EXECUTE_OPERATION, the checks of a device in which
-- nothing runs, the status, and END_OPERATION.
use Rattle.std.proofs.Common.{◌≡◌, ◌⊎◌, ℕ, ◌+◌, ◌%◌, ◌^◌, ◌<◌, true, false, List, [], ◌∷◌, Option, Some, None, Result, Ok, Err, refl, sym, ap, subst, ◌∙◌, arith, inl, inr}
use Rattle.record_store.specs.Store.{abandoned}
use Rattle.erst_entries.specs.declared.actions.Action.{Action}
use Rattle.erst_entries.specs.declared.actions.Action.TheVariants.{EndOperation, SetRecordOffset, SetRecordIdentifier, ExecuteOperation, CheckBusyStatus, GetCommandStatus}
use Rattle.erst_entries.specs.Actions.{code_of, action_of}
use Rattle.erst_interp.specs.declared.stops.RunStop.{RunStop}
use Rattle.erst_interp.specs.declared.stops.RunStop.TheVariants.{Budget}
use Rattle.erst_client.specs.declared.errors.ClientError.{ClientError}
use Rattle.erst_client.specs.declared.errors.ClientError.TheVariants.{Stopped}
use Rattle.erst_client.specs.declared.requests.Request.{Request}
use Rattle.erst_client.specs.Requests.{Performs, Asks}
use Rattle.erst_client.specs.Sequences.{Busy, NotYet, Again, Waits, IsIdle, IsStopped, IsLate, judged, UntilStatus, NotAsked, NotWaited, NotTold, IsTold, Sequence}
use Rattle.erst_client.specs.Steps.{steps_of}
use Rattle.erst_device.specs.declared.registers.Operation.{Operation}
use Rattle.erst_device.specs.declared.status.CommandStatus.{CommandStatus}
use Rattle.erst_device.specs.declared.status.CommandStatus.TheVariants.{Success, NotEnoughSpace, HardwareNotAvailable, Failed, RecordStoreEmpty, RecordNotFound}
use Rattle.erst_device.specs.Statuses.{number_of}
use Rattle.erst_device.specs.DeviceState.{DeviceState, IsStill, given_up}
use Rattle.erst_device.specs.Starts.{Starts}
use Rattle.erst_device.specs.Actions.{begun_by, Acts}
use Rattle.erst_machine.specs.MachineState.{MachineState}
use Rattle.erst_machine.specs.Allowed.{Allows, ActsOn}
use Rattle.erst_machine.specs.OwnTables.{own_entries}
use Rattle.erst_commands.specs.OwnPrograms.{with_value, takes_value, tells_value, given_to, answer_of, IsMade, StopsAtOnce, StopsBefore, StopsBehind, OwnProgramsRun}
use Rattle.erst_commands.proofs.ActionCases.{begins, ends, sets_offset, sets_id, executes, checks_still, tells_number}
use Rattle.erst_commands.proofs.MachineSteps.{on_device, acted_is}
use Rattle.erst_commands.proofs.AskLemmas.{with_answer, Went, Halted, first_asked, none_asked}
use Rattle.erst_commands.proofs.OwnProgramLemmas.{has_steps, steps-offset, steps-identifier, steps-execute, steps-check, steps-status}
use Rattle.erst_commands.proofs.SharedLemmas.{no_answer, no_stop, same_stop, same_number}
use Rattle.erst_client.proofs.Terms.{closed, end_steps}

-- The flash, the layout and the cursor are as at first, and beside the device all is; at most an execution was given up
pub record Untouched (first : MachineState) (w : MachineState) : Type 0 where
  pub flash : w.device.store.flash ≡ first.device.store.flash
  pub layout : w.device.store.layout ≡ first.device.store.layout
  pub cursor : w.device.cursor ≡ first.device.cursor
  pub given_up : abandoned w.device.store ≡ abandoned first.device.store
  pub elsewhere : w ≡ on_device first w.device

pub untouched_itself : (first : MachineState) → Untouched first first
untouched_itself first = record { flash = refl; layout = refl; cursor = refl; given_up = refl; elsewhere = refl }

pub untouched_value : (first : MachineState) (device : DeviceState) (value : ℕ) → Untouched first (on_device first device) → Untouched first (on_device first (record device { value = value }))
untouched_value first device value is = record { flash = is.flash; layout = is.layout; cursor = is.cursor; given_up = is.given_up; elsewhere = refl }

-- A run from a machine reaches one in which P holds, by so many steps, or its budget runs out and nothing was touched
pub data RunTo (first : MachineState) (P : MachineState → Type 0) (cost budget : ℕ) : Result ℕ RunStop → ℕ → MachineState → Type 0 where
  Reaches : (answer left : ℕ) (w : MachineState) → P w → left + cost ≡ budget → RunTo first P cost budget (Ok answer) left w
  Falls : (w : MachineState) → Untouched first w → budget < cost → RunTo first P cost budget (Err Budget) 0 w

-- the same of requests
pub data Opened (first : MachineState) (P : MachineState → Type 0) (cost budget : ℕ) : Result (List ℕ) RunStop → ℕ → MachineState → Type 0 where
  Opens : (answers : List ℕ) (left : ℕ) (w : MachineState) → P w → left + cost ≡ budget → Opened first P cost budget (Ok answers) left w
  Halts : (w : MachineState) → Untouched first w → budget < cost → Opened first P cost budget (Err Budget) 0 w

pub record ReachedTo (P : MachineState → Type 0) (cost budget left : ℕ) (w : MachineState) : Type 0 where
  pub holds : P w
  pub spent : left + cost ≡ budget

record FallenTo (first : MachineState) (cost budget : ℕ) (stop : RunStop) (left : ℕ) (w : MachineState) : Type 0 where
  stop_is : stop ≡ Budget
  none_left : left ≡ 0
  untouched : Untouched first w
  short : budget < cost

pub ok_reaches : (first : MachineState) (P : MachineState → Type 0) (cost budget : ℕ) (result : Result ℕ RunStop) (left : ℕ) (w : MachineState) (answer : ℕ) →
    result ≡ Ok answer → RunTo first P cost budget result left w
    → ReachedTo P cost budget left w
ok_reaches first P cost budget result left w answer is run = (elim run as (λ result left w run. result ≡ Ok answer → ReachedTo P cost budget left w) [
  | Reaches other left w holds spent ↦ λ e. record { holds = holds; spent = spent }
  | Falls w untouched short ↦ λ e. absurd (no_stop answer Budget e)
]) is

err_falls : (first : MachineState) (P : MachineState → Type 0) (cost budget : ℕ) (result : Result ℕ RunStop) (left : ℕ) (w : MachineState) (stop : RunStop) →
    result ≡ Err stop → RunTo first P cost budget result left w
    → FallenTo first cost budget stop left w
err_falls first P cost budget result left w stop is run = (elim run as (λ result left w run. result ≡ Err stop → FallenTo first cost budget stop left w) [
  | Reaches other left w holds spent ↦ λ e. absurd (no_answer other stop e)
  | Falls w untouched short ↦ λ e. record { stop_is = sym (same_stop Budget stop e); none_left = refl; untouched = untouched; short = short }
]) is

pub opened_weaker : (first : MachineState) (P Q : MachineState → Type 0) (cost budget : ℕ) (result : Result (List ℕ) RunStop) (left : ℕ) (w : MachineState) →
    ((w : MachineState) → P w → Q w) → Opened first P cost budget result left w
    → Opened first Q cost budget result left w
opened_weaker first P Q cost budget result left w weaker opened = elim opened as (λ result left w opened. Opened first Q cost budget result left w) [
  | Opens answers left w holds sum ↦ Opens answers left w (weaker w holds) sum
  | Halts w untouched short ↦ Halts w untouched short
]

pub opened_ok : (first : MachineState) (P : MachineState → Type 0) (cost budget : ℕ) (answers : List ℕ) (result : Result (List ℕ) RunStop) (left : ℕ)
    (w : MachineState) → result ≡ Ok answers → Opened first P cost budget result left w
    → P w × (left + cost ≡ budget)
opened_ok first P cost budget answers result left w is opened = (elim opened as (λ result left w opened. result ≡ Ok answers → P w × (left + cost ≡ budget)) [
  | Opens others left w holds sum ↦ λ e. (holds, sum)
  | Halts w untouched short ↦ λ e. absurd (cc e)
]) is

pub opened_short : (first : MachineState) (P : MachineState → Type 0) (cost budget : ℕ) (Left : RunStop → ℕ → MachineState → Type 0) (stop : RunStop)
    (result : Result (List ℕ) RunStop) (left : ℕ) (w : MachineState)
    → ((w : MachineState) → Untouched first w → budget < cost → Left Budget 0 w) → result ≡ Err stop → Opened first P cost budget result left w → Left stop left w
opened_short first P cost budget Left stop result left w halted is opened = (elim opened as (λ result left w opened. result ≡ Err stop → Left stop left w) [
  | Opens others left w holds sum ↦ λ e. absurd (cc e)
  | Halts w untouched short ↦ λ e. subst (λ (s : RunStop). Left s 0 w) (same_end Budget stop e) (halted w untouched short)
]) is
  where
    same_end : (x y : RunStop) → ◌≡◌ {A = Result (List ℕ) RunStop} (Err x) (Err y) → x ≡ y
    same_end x y e = cc

module _ (tells : Type 0) (first : MachineState) where
  pub ask_none : (P : MachineState → Type 0) (budget : ℕ) (old : MachineState) (result : Result (List ℕ) RunStop) (left : ℕ) (last : MachineState) → P old →
      Asks (Allows tells) own_entries [] budget old result left last
      → Opened first P 0 budget result left last
  ask_none P budget old result left last holds asks =
      let end = none_asked (Allows tells) own_entries budget old result left last asks in
      subst (λ (r : Result (List ℕ) RunStop). Opened first P 0 budget r left last) (sym end.result_is)
      (Opens [] left last (subst P (sym end.last_is) holds) (omega (arith, end.left_is)))

  pub ask_more : (P Q : MachineState → Type 0) (cost more : ℕ) (request : Request) (rest : List Request) (budget : ℕ) (old : MachineState)
      (result : Result (List ℕ) RunStop) (left : ℕ) (last : MachineState)
      → ((result : Result ℕ RunStop) (left : ℕ) (last : MachineState) → Performs (Allows tells) own_entries request.action request.given budget old result left
      last → RunTo first P cost budget result left last)
      → ((budget : ℕ) (mid : MachineState) (result : Result (List ℕ) RunStop) (left : ℕ) (last : MachineState) → P mid → Asks (Allows tells) own_entries rest budget mid result left last
      → Opened first Q more budget result left last)
      → Asks (Allows tells) own_entries (request ∷ rest) budget old result left last → Opened first Q (cost + more) budget result left last
  ask_more P Q cost more request rest budget old result left last runs continues asks = elim (first_asked (Allows tells) own_entries request rest budget old result left last asks) [
    | Went answer asked mid others run behind joined ↦
        let reached = ok_reaches first P cost budget (Ok answer) asked mid answer refl (runs (Ok answer) asked mid run) in
        subst (λ (r : Result (List ℕ) RunStop). Opened first Q (cost + more) budget r left last) (sym joined)
        (longer answer asked others left last reached.spent (continues asked mid others left last reached.holds behind))
    | Halted stop run is ↦
        let fallen = err_falls first P cost budget (Err stop) left last stop refl (runs (Err stop) left last run) in
        subst (λ (r : Result (List ℕ) RunStop). Opened first Q (cost + more) budget r left last) (sym (is ∙ ap (λ (s : RunStop). Err s) fallen.stop_is))
        (subst (λ (n : ℕ). Opened first Q (cost + more) budget (Err Budget) n last) (sym fallen.none_left) (Halts last fallen.untouched (omega (arith, fallen.short))))
  ]
    where
      longer : (answer asked : ℕ) (others : Result (List ℕ) RunStop) (left : ℕ) (last : MachineState) → asked + cost ≡ budget → Opened first Q more asked others left last
          → Opened first Q (cost + more) budget (with_answer answer others) left last
      longer answer asked others left last spent opened = elim opened as (λ others left last opened. Opened first Q (cost + more) budget (with_answer answer others) left last) [
        | Opens answers left last holds sum ↦ Opens (answer ∷ answers) left last holds (omega (arith, spent, sum))
        | Halts last untouched short ↦ Halts last untouched (omega (arith, spent, short))
      ]

-- The requests

abbrev pub begun_device : Operation → DeviceState → DeviceState
begun_device operation old = record (given_up old) { operation = Some operation; offset = 0; id = 0; status = Success }

module _ (tells : Type 0) (own : OwnProgramsRun tells) (first : MachineState) where
  pub begin_run : (action : Action) (operation : Operation) → begun_by action ≡ Some operation → takes_value action ≡ false → tells_value action ≡ false →
      ((m : MachineState) → given_to action 0 m ≡ m)
      → steps_of own_entries action ≡ 1 → action_of (code_of action) ≡ Some action → (budget : ℕ) (result : Result ℕ RunStop) (left : ℕ) (last : MachineState)
      → Performs (Allows tells) own_entries action 0 budget first result left last → RunTo first (λ w. w ≡ on_device first (begun_device operation first.device)) 1 budget result left last
  begin_run action operation begun takes shows same one code budget result left last run =
      elim (own action 0 budget first result left last run) as (λ result left last made. RunTo first (λ w. w ≡ on_device first (begun_device operation first.device)) 1 budget result left last) [
        | IsMade left last acted spent ↦
            let here : ActsOn tells first (code_of action) last = subst (λ (m : MachineState). ActsOn tells m (code_of action) last) (same first) acted in
            let acts = subst (λ (a : Option Action). Acts tells first.device first.memory.range a last.device last.memory.range) code here.acts in
            let becomes = begins tells action operation first.device first.memory.range last.device last.memory.range begun acts in
            Reaches _ left last (acted_is tells first (code_of action) last (begun_device operation first.device) here becomes.new_is becomes.range_is) (ap (λ (n : ℕ). left + n) (sym one) ∙ spent)
        | StopsAtOnce none ↦ Falls first (untouched_itself first) (omega (arith, none))
        | StopsBefore few took ↦ differ (sym took ∙ takes)
        | StopsBehind last few told acted ↦ differ (sym told ∙ shows)
      ]
    where
      differ : {P : Type 0} → true ≡ false → P
      differ e = absurd (cc)

  pub offset_run : (device : DeviceState) → IsStill device → Untouched first (on_device first device) →
      (budget : ℕ) (old : MachineState) (result : Result ℕ RunStop) (left : ℕ) (last : MachineState) → old ≡ on_device first device
      → Performs (Allows tells) own_entries SetRecordOffset 0 budget old result left last → RunTo first (λ w. w ≡ on_device first (record device { value = 0; offset = 0 })) 2 budget result left last
  offset_run device still untouched budget old result left last old_is run =
      elim (own SetRecordOffset 0 budget (on_device first device) result left last
      (subst (λ (m : MachineState). Performs (Allows tells) own_entries SetRecordOffset 0 budget m result left last) old_is run))
      as (λ result left last made. RunTo first (λ w. w ≡ on_device first (record device { value = 0; offset = 0 })) 2 budget result left last) [
        | IsMade left last acted spent ↦
            let becomes = sets_offset tells (record device { value = 0 }) first.memory.range last.device last.memory.range
            (record { no_read = still.no_read; no_change = still.no_change }) acted.acts in
            Reaches _ left last (acted_is tells (on_device first (record device { value = 0 })) 0x4 last (record device { value = 0; offset = 0 }) acted becomes.new_is becomes.range_is)
            (ap (λ (n : ℕ). left + n) (sym steps-offset) ∙ spent)
        | StopsAtOnce none ↦ Falls (on_device first device) untouched (omega (arith, none))
        | StopsBefore few took ↦ Falls (on_device first (record device { value = 0 })) (untouched_value first device 0 untouched) (omega (arith, few))
        | StopsBehind last few told acted ↦ absurd (cc)
      ]

  pub identifier_run : (id : ℕ) → id < 2 ^ 64 → (device : DeviceState) → IsStill device → Untouched first (on_device first device) →
      (budget : ℕ) (old : MachineState) (result : Result ℕ RunStop) (left : ℕ) (last : MachineState)
      → old ≡ on_device first device → Performs (Allows tells) own_entries SetRecordIdentifier id budget old result left last
      → RunTo first (λ w. w ≡ on_device first (record device { value = id; id = id })) 2 budget result left last
  identifier_run id small device still untouched budget old result left last old_is run =
      elim (own SetRecordIdentifier id budget (on_device first device) result left last
      (subst (λ (m : MachineState). Performs (Allows tells) own_entries SetRecordIdentifier id budget m result left last) old_is run))
      as (λ result left last made. RunTo first (λ w. w ≡ on_device first (record device { value = id; id = id })) 2 budget result left last) [
        | IsMade left last acted spent ↦
            let low : id % 2 ^ 64 ≡ id = omega arith in
            let here = subst (λ (n : ℕ). ActsOn tells (on_device first (record device { value = n })) 0x9 last) low acted in
            let becomes = sets_id tells (record device { value = id }) first.memory.range last.device last.memory.range (record { no_read = still.no_read; no_change = still.no_change }) here.acts in
            Reaches _ left last (acted_is tells (on_device first (record device { value = id })) 0x9 last (record device { value = id; id = id }) here becomes.new_is becomes.range_is)
            (ap (λ (n : ℕ). left + n) (sym steps-identifier) ∙ spent)
        | StopsAtOnce none ↦ Falls (on_device first device) untouched (omega (arith, none))
        | StopsBefore few took ↦ Falls _ (untouched_value first device (id % 2 ^ 64) untouched) (omega (arith, few))
        | StopsBehind last few told acted ↦ absurd (cc)
      ]

  -- an execution is started
  pub execute_run : (device : DeviceState) → IsStill device → Untouched first (on_device first device) →
      (budget : ℕ) (old : MachineState) (result : Result ℕ RunStop) (left : ℕ) (last : MachineState) → old ≡ on_device first device
      → Performs (Allows tells) own_entries ExecuteOperation 0 budget old result left last →
      RunTo first (λ w. Starts tells device first.memory.range w.device × (w ≡ on_device first w.device)) 1 budget result left last
  execute_run device still untouched budget old result left last old_is run =
      elim (own ExecuteOperation 0 budget (on_device first device) result left last
      (subst (λ (m : MachineState). Performs (Allows tells) own_entries ExecuteOperation 0 budget m result left last) old_is run))
      as (λ result left last made. RunTo first (λ w. Starts tells device first.memory.range w.device × (w ≡ on_device first w.device)) 1 budget result left last) [
        | IsMade left last acted spent ↦
            let starts = executes tells device first.memory.range last.device last.memory.range still acted.acts in
            Reaches _ left last (starts.starts, acted_is tells (on_device first device) 0x5 last last.device acted refl starts.range_is) (ap (λ (n : ℕ). left + n) (sym steps-execute) ∙ spent)
        | StopsAtOnce none ↦ Falls (on_device first device) untouched (omega (arith, none))
        | StopsBefore few took ↦ absurd (cc)
        | StopsBehind last few told acted ↦ absurd (cc)
      ]

-- Checks of a device in which nothing runs

pub data StillChecked (w : MachineState) (budget : ℕ) : Result ℕ RunStop → ℕ → MachineState → Type 0 where
  AnswersZero : (left : ℕ) → left + 2 ≡ budget → StillChecked w budget (Ok 0) left (with_value 0 w)
  HasNoSteps : (last : MachineState) → (last ≡ w) ⊎ (last ≡ with_value 0 w) → budget < 2 → StillChecked w budget (Err Budget) 0 last

pub check_still : (tells : Type 0) → OwnProgramsRun tells → (w : MachineState) → IsStill w.device → (budget : ℕ) (result : Result ℕ RunStop) (left : ℕ) (last : MachineState)
    → Performs (Allows tells) own_entries CheckBusyStatus 0 budget w result left last → StillChecked w budget result left last
check_still tells own w still budget result left last run =
    elim (own CheckBusyStatus 0 budget w result left last run) as (λ result left last made. StillChecked w budget result left last) [
      | IsMade left last acted spent ↦
          let is = became last acted in
          subst (λ (m : MachineState). StillChecked w budget (Ok (answer_of CheckBusyStatus 0 m.device.value)) left m) (sym is) (AnswersZero left (ap (λ (n : ℕ). left + n) (sym steps-check) ∙ spent))
      | StopsAtOnce none ↦ HasNoSteps w (inl refl) (omega (arith, none))
      | StopsBefore few took ↦ absurd (cc)
      | StopsBehind last few told acted ↦ HasNoSteps last (inr (became last acted)) (omega (arith, few))
    ]
  where
    became : (last : MachineState) → ActsOn tells w 0x6 last → last ≡ with_value 0 w
    became last acted =
        let becomes = checks_still tells w.device w.memory.range last.device last.memory.range still acted.acts in
        acted_is tells w 0x6 last (record w.device { value = 0 }) acted becomes.new_is becomes.range_is

record NotBusy (w : MachineState) (budget busy left : ℕ) (mid : MachineState) : Type 0 where
  none : busy ≡ 0
  left_is : left ≡ budget
  mid_is : mid ≡ w

zero_answered : (w : MachineState) (budget : ℕ) (result : Result ℕ RunStop) (left : ℕ) (last : MachineState) (answer : ℕ) → result ≡ Ok answer → StillChecked w budget result left last
    → (answer ≡ 0) × (last ≡ with_value 0 w) × (left + 2 ≡ budget)
zero_answered w budget result left last answer is checked = (elim checked as (λ result left last checked. result ≡ Ok answer → (answer ≡ 0) × (last ≡ with_value 0 w) × (left + 2 ≡ budget)) [
  | AnswersZero left spent ↦ λ e. (sym (same_number 0 answer e), refl, spent)
  | HasNoSteps last either short ↦ λ e. absurd (no_stop answer Budget e)
]) is

not_busy : (tells : Type 0) → OwnProgramsRun tells → (timings : Option (ℕ × ℕ)) (w : MachineState) → IsStill w.device →
    (budget busy left : ℕ) (mid : MachineState) → Busy (Allows tells) own_entries timings budget w busy left mid
    → NotBusy w budget busy left mid
not_busy tells own timings w still budget busy left mid NotYet = record { none = refl; left_is = refl; mid_is = refl }
not_busy tells own timings w still budget busy left mid (Again before asked from answer behind next new earlier run more pause) =
    let is = not_busy tells own timings w still budget before asked from earlier in
    let here = check_still tells own w still asked (Ok answer) behind next
    (subst (λ (m : MachineState). Performs (Allows tells) own_entries CheckBusyStatus 0 asked m (Ok answer) behind next) is.mid_is run) in
    absurd (more (zero_answered w asked (Ok answer) behind next answer refl here).0)

pub data StillWaited (w : MachineState) (budget : ℕ) : Result (Unit {0}) ClientError → ℕ → MachineState → Type 0 where
  IsAtOnce : (left : ℕ) (last : MachineState) → last ≡ with_value 0 w → left + 2 ≡ budget → StillWaited w budget (Ok tt) left last
  IsShort : (last : MachineState) → (last ≡ w) ⊎ (last ≡ with_value 0 w) → budget < 2 → StillWaited w budget (Err (Stopped Budget)) 0 last

pub wait_still : (tells : Type 0) → OwnProgramsRun tells → (timings : Option (ℕ × ℕ)) (w : MachineState) → IsStill w.device →
    (budget : ℕ) (result : Result (Unit {0}) ClientError) (left : ℕ) (last : MachineState)
    → Waits (Allows tells) own_entries timings budget w result left last → StillWaited w budget result left last
wait_still tells own timings w still budget result left last waits =
    elim waits as (λ result left last waits. StillWaited w budget result left last) [
      | IsIdle busy asked mid left last earlier run ↦
          let zero_is = zero_answered w budget (Ok 0) left last 0 refl (checked busy asked mid (Ok 0) left last earlier run) in
          IsAtOnce left last zero_is.1 zero_is.2
      | IsStopped busy asked mid stop left last earlier run ↦ short stop left last (Err stop) refl (checked busy asked mid (Err stop) left last earlier run)
      | IsLate busy asked mid answer behind next error last earlier run more pause ↦
          absurd (more (zero_answered w budget (Ok answer) behind next answer refl (checked busy asked mid (Ok answer) behind next earlier run)).0)
    ]
  where
    checked : (busy asked : ℕ) (mid : MachineState) (result : Result ℕ RunStop) (left : ℕ) (last : MachineState) → Busy (Allows tells) own_entries timings budget w busy asked mid
        → Performs (Allows tells) own_entries CheckBusyStatus 0 asked mid result left last → StillChecked w budget result left last
    checked busy asked mid result left last earlier run =
        let is = not_busy tells own timings w still budget busy asked mid earlier in
        check_still tells own w still budget result left last
        (subst (λ (n : ℕ). Performs (Allows tells) own_entries CheckBusyStatus 0 n w result left last) is.left_is
        (subst (λ (m : MachineState). Performs (Allows tells) own_entries CheckBusyStatus 0 asked m result left last) is.mid_is run))

    short : (stop : RunStop) (left : ℕ) (last : MachineState) (result : Result ℕ RunStop) → result ≡ Err stop → StillChecked w budget result left last →
        StillWaited w budget (Err (Stopped stop)) left last
    short stop left last result is checked = (elim checked as (λ result left last checked. result ≡ Err stop → StillWaited w budget (Err (Stopped stop)) left last) [
      | AnswersZero left spent ↦ λ e. absurd (no_answer 0 stop e)
      | HasNoSteps last either few ↦ λ e. subst (λ (s : RunStop). StillWaited w budget (Err (Stopped s)) 0 last) (same_stop Budget stop e) (IsShort last either few)
    ]) is

-- The status, and END_OPERATION

abbrev pub ended_from : MachineState → MachineState
ended_from told = on_device told (record (given_up told.device) { operation = None })

abbrev pub status_in : MachineState → ℕ
status_in w = number_of w.device.status

pub data SequenceEnds (tells : Type 0) (timings : Option (ℕ × ℕ)) (requests : List Request) (budget : ℕ) (first : MachineState) : Result (Unit {0}) ClientError → ℕ → MachineState → Type 0 where
  HasTold : (answers : List ℕ) (asked : ℕ) (mid : MachineState) (waited : ℕ) (idle : MachineState) (left : ℕ) → Asks (Allows tells) own_entries requests budget first (Ok answers) asked mid
      → Waits (Allows tells) own_entries timings asked mid (Ok tt) waited idle → left + 2 ≡ waited
      → SequenceEnds tells timings requests budget first (judged (status_in idle)) left (ended_from (with_value (status_in idle) idle))
  HasNotTold : (answers : List ℕ) (asked : ℕ) (mid : MachineState) (waited : ℕ) (idle told : MachineState) → Asks (Allows tells) own_entries requests budget first (Ok answers) asked mid
      → Waits (Allows tells) own_entries timings asked mid (Ok tt) waited idle → waited < 2 → (told ≡ idle) ⊎ (told ≡ with_value (status_in idle) idle)
      → SequenceEnds tells timings requests budget first (Err (Stopped Budget)) 0 (ended_from told)
  HasNotWaited : (answers : List ℕ) (asked : ℕ) (mid : MachineState) (error : ClientError) (left : ℕ) (told : MachineState) →
      Asks (Allows tells) own_entries requests budget first (Ok answers) asked mid
      → Waits (Allows tells) own_entries timings asked mid (Err error) left told → SequenceEnds tells timings requests budget first (Err error) left (ended_from told)
  HasNotAsked : (stop : RunStop) (left : ℕ) (told : MachineState) → Asks (Allows tells) own_entries requests budget first (Err stop) left told
      → SequenceEnds tells timings requests budget first (Err (Stopped stop)) left (ended_from told)

low_status : (status : CommandStatus) → number_of status % 2 ^ 8 ≡ number_of status
low_status Success = refl
low_status NotEnoughSpace = refl
low_status HardwareNotAvailable = refl
low_status Failed = refl
low_status RecordStoreEmpty = refl
low_status RecordNotFound = refl

data StatusAsked (idle : MachineState) (budget : ℕ) : Result ℕ RunStop → ℕ → MachineState → Type 0 where
  Tells : (left : ℕ) → left + 2 ≡ budget → StatusAsked idle budget (Ok (status_in idle)) left (with_value (status_in idle) idle)
  TellsNot : (last : MachineState) → (last ≡ idle) ⊎ (last ≡ with_value (status_in idle) idle) → budget < 2 → StatusAsked idle budget (Err Budget) 0 last

closed_well : (outcome : Result (Unit {0}) ClientError) (answer : ℕ) → closed outcome (Ok answer) ≡ outcome
closed_well (Ok done) answer = refl
closed_well (Err error) answer = refl

module _ (tells : Type 0) (own : OwnProgramsRun tells) where
  ask_status : (idle : MachineState) (budget : ℕ) (result : Result ℕ RunStop) (left : ℕ) (last : MachineState) → Performs (Allows tells) own_entries GetCommandStatus 0 budget idle result left last
      → StatusAsked idle budget result left last
  ask_status idle budget result left last run = elim (own GetCommandStatus 0 budget idle result left last run) as (λ result left last made. StatusAsked idle budget result left last) [
    | IsMade left last acted spent ↦
        subst (λ (m : MachineState). StatusAsked idle budget (Ok (answer_of GetCommandStatus 0 m.device.value)) left m) (sym (became last acted))
        (subst (λ (n : ℕ). StatusAsked idle budget (Ok n) left (with_value (status_in idle) idle)) (sym (low_status idle.device.status))
        (Tells left (ap (λ (n : ℕ). left + n) (sym steps-status) ∙ spent)))
    | StopsAtOnce none ↦ TellsNot idle (inl refl) (omega (arith, none))
    | StopsBefore few took ↦ absurd (cc)
    | StopsBehind last few told acted ↦ TellsNot last (inr (became last acted)) (omega (arith, few))
  ]
    where
      became : (last : MachineState) → ActsOn tells idle 0x7 last → last ≡ with_value (status_in idle) idle
      became last acted =
          let becomes = tells_number tells GetCommandStatus (status_in idle) idle.device idle.memory.range last.device last.memory.range refl acted.acts in
          acted_is tells idle 0x7 last (record idle.device { value = status_in idle }) acted becomes.new_is becomes.range_is

  pub end_run : (told : MachineState) (result : Result ℕ RunStop) (left : ℕ) (last : MachineState) → Performs (Allows tells) own_entries EndOperation 0 end_steps told result left last
      → (result ≡ Ok 0) × (last ≡ ended_from told)
  end_run told result left last run =
      let made = has_steps tells EndOperation 0 end_steps told result left last (omega arith) (own EndOperation 0 end_steps told result left last run) in
      let becomes = ends tells told.device told.memory.range last.device last.memory.range made.acted.acts in
      (made.answer, acted_is tells told 0x3 last (record (given_up told.device) { operation = None }) made.acted becomes.new_is becomes.range_is)

  pub sequence_ends : (timings : Option (ℕ × ℕ)) (requests : List Request) (budget : ℕ) (first : MachineState) (result : Result (Unit {0}) ClientError) (left : ℕ) (last : MachineState)
      → Sequence (Allows tells) own_entries timings requests budget first result left last → SequenceEnds tells timings requests budget first result left last
  sequence_ends timings requests budget first result left last sequence =
      let ended = end_run sequence.told sequence.ended sequence.spare last sequence.ends in
      let result_is : result ≡ sequence.outcome = sequence.result_is ∙ ap (closed sequence.outcome) ended.0 ∙ closed_well sequence.outcome 0 in
      subst (λ (r : Result (Unit {0}) ClientError). SequenceEnds tells timings requests budget first r left last) (sym result_is)
      (subst (λ (m : MachineState). SequenceEnds tells timings requests budget first sequence.outcome left m) (sym ended.1) (until_status sequence.outcome left sequence.told sequence.until_status))
    where
      told_by : (answers : List ℕ) (asked : ℕ) (mid : MachineState) (waited : ℕ) (idle : MachineState) (run : Result ℕ RunStop) (left : ℕ) (last : MachineState) (status : ℕ) → run ≡ Ok status
          → Asks (Allows tells) own_entries requests budget first (Ok answers) asked mid → Waits (Allows tells) own_entries timings asked mid (Ok tt) waited
          idle → StatusAsked idle waited run left last
          → SequenceEnds tells timings requests budget first (judged status) left (ended_from last)
      told_by answers asked mid waited idle run left last status is asks waits says =
          (elim says as (λ run left last says. run ≡ Ok status → SequenceEnds tells timings requests budget first (judged status) left (ended_from last)) [
            | Tells left spent ↦ λ e.
                subst (λ (n : ℕ). SequenceEnds tells timings requests budget first (judged n) left (ended_from (with_value (status_in idle) idle))) (same_number (status_in idle) status e)
                (HasTold answers asked mid waited idle left asks waits spent)
            | TellsNot last either short ↦ λ e. absurd (no_stop status Budget e)
          ]) is

      not_told_by : (answers : List ℕ) (asked : ℕ) (mid : MachineState) (waited : ℕ) (idle : MachineState) (run : Result ℕ RunStop) (left : ℕ) (last : MachineState) (stop : RunStop) → run ≡ Err stop
          → Asks (Allows tells) own_entries requests budget first (Ok answers) asked mid → Waits (Allows tells) own_entries timings asked mid (Ok tt) waited
          idle → StatusAsked idle waited run left last
          → SequenceEnds tells timings requests budget first (Err (Stopped stop)) left (ended_from last)
      not_told_by answers asked mid waited idle run left last stop is asks waits says =
          (elim says as (λ run left last says. run ≡ Err stop → SequenceEnds tells timings requests budget first (Err (Stopped stop)) left (ended_from last)) [
            | Tells left spent ↦ λ e. absurd (no_answer (status_in idle) stop e)
            | TellsNot last either short ↦ λ e.
                subst (λ (s : RunStop). SequenceEnds tells timings requests budget first (Err (Stopped s)) 0 (ended_from last)) (same_stop Budget stop e)
                (HasNotTold answers asked mid waited idle last asks waits short either)
          ]) is

      until_status : (outcome : Result (Unit {0}) ClientError) (left : ℕ) (told : MachineState) → UntilStatus (Allows tells) own_entries timings requests budget first outcome left told
          → SequenceEnds tells timings requests budget first outcome left (ended_from told)
      until_status outcome left told until = elim until as (λ outcome left told until. SequenceEnds tells timings requests budget first outcome left (ended_from told)) [
        | NotAsked stop left told asks ↦ HasNotAsked stop left told asks
        | NotWaited answers asked mid error left told asks waits ↦ HasNotWaited answers asked mid error left told asks waits
        | NotTold answers asked mid waited idle stop left told asks waits run ↦ not_told_by answers asked mid waited idle (Err stop) left told stop refl asks
            waits (ask_status idle waited (Err stop) left told run)
        | IsTold answers asked mid waited idle status left told asks waits run ↦ told_by answers asked mid waited idle (Ok status) left told status refl asks
            waits (ask_status idle waited (Ok status) left told run)
      ]
