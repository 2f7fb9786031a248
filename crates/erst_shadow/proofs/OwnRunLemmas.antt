-- What a run of a program of the machine's own table does is a run of it.
use Rattle.std.proofs.Common.{◌≡◌, ◌∙◌, ℕ, ◌+◌, ◌-◌, ◌*◌, ◌/◌, ◌%◌, ◌^◌, Bool, true, false, [], ◌∷◌, Some, Result, Ok, Err, refl, sym, ap, subst, arith}
use Rattle.std.specs.Prelude.{◌==◌, if◌then◌else◌}
use Rattle.std.proofs.lemmas.Nat.{and_mask}
use Rattle.apei_tables.specs.Fields.{field, stored}
use Rattle.erst_entries.specs.declared.actions.Action.{Action}
use Rattle.erst_entries.specs.declared.actions.Action.TheVariants.{BeginWriteOperation, BeginReadOperation, BeginClearOperation, EndOperation, SetRecordOffset}
use Rattle.erst_entries.specs.declared.actions.Action.TheVariants.{ExecuteOperation, CheckBusyStatus, GetCommandStatus, SetRecordIdentifier}
use Rattle.erst_entries.specs.declared.actions.Action.TheVariants.{BeginDummyWriteOperation}
use Rattle.erst_entries.specs.declared.entries.Entry.{Entry}
use Rattle.erst_entries.specs.declared.instructions.Instruction.TheVariants.{ReadRegister, ReadRegisterValue, WriteRegister, WriteRegisterValue}
use Rattle.erst_entries.specs.Actions.{code_of}
use Rattle.erst_entries.specs.Programs.{Listed, entries_of}
use Rattle.erst_interp.specs.declared.configurations.Configuration.{Configuration}
use Rattle.erst_interp.specs.declared.stops.RunStop.{RunStop}
use Rattle.erst_interp.specs.declared.stops.RunStop.TheVariants.{Budget}
use Rattle.erst_interp.specs.Configurations.{begin, next}
use Rattle.erst_interp.specs.Instructions.{TakeField, StoreValue, HasWork}
use Rattle.erst_interp.specs.Accesses.{Got, Whole}
use Rattle.erst_interp.specs.Steps.{Step, Takes, Stores}
use Rattle.erst_interp.specs.Runs.{Walk, Begun, Then, Run, Finishes, Exhausted, HasEntry, task_of}
use Rattle.erst_client.specs.Requests.{Performs}
use Rattle.erst_client.specs.Steps.{steps_of}
use Rattle.erst_machine.specs.MachineState.{MachineState}
use Rattle.erst_machine.specs.Allowed.{Allows, ActsOn}
use Rattle.erst_machine.specs.OwnTables.{own_entries, act, give, is_one, answer}
use Rattle.erst_commands.specs.OwnPrograms.{with_value, takes_value, tells_value, answer_of, OwnRun, IsMade, StopsAtOnce, StopsBefore, StopsBehind}
use Rattle.erst_machine.proofs.Words.{action_at, value_at}

low_all : (n : ℕ) → stored n 0 (2 ^ 64 - 1) ≡ n % 2 ^ 64
low_all n = ap (λ (x : ℕ). x * 2 ^ 0 % 2 ^ 64) (and_mask n 64) ∙ (omega arith)

low_bits : (n k : ℕ) → field n 0 (2 ^ k - 1) ≡ n % 2 ^ k
low_bits n k = and_mask (n / 2 ^ 0) k ∙ ap (λ (x : ℕ). x % 2 ^ k) (omega arith)

-- the step of each entry

act_step : (tells : Type 0) (program : Listed) (given : ℕ) (action : Action) (c : Configuration) (w v : MachineState) → stored (code_of action) 0 (2 ^ 32 - 1) %
    2 ^ 32 ≡ code_of action → ActsOn tells w (code_of action) v
    → Step (Allows tells) (task_of program given (act action) c) w (next c) 0 v
act_step tells program given action c w v code acted =
    let has : HasWork (task_of program given (act action) c) (StoreValue (code_of action)) = record { instruction = WriteRegisterValue; code = refl; work_is = refl } in
    Stores (code_of action) action_at v has refl (Whole (Ok tt) v refl (refl, subst (λ (n : ℕ). ActsOn tells w n v) (sym code) acted))

give_step : (tells : Type 0) (program : Listed) (given : ℕ) (action : Action) (c : Configuration) (w : MachineState) →
    Step (Allows tells) (task_of program given (give action) c) w (next c) 0 (with_value (given % 2 ^ 64) w)
give_step tells program given action c w =
    let has : HasWork (task_of program given (give action) c) (StoreValue given) = record { instruction = WriteRegister; code = refl; work_is = refl } in
    Stores given value_at (with_value (given % 2 ^ 64) w) has refl (Whole (Ok tt) (with_value (given % 2 ^ 64) w) refl (refl, ap (λ (n : ℕ). with_value n w) (sym (low_all given))))

answer_step : (tells : Type 0) (program : Listed) (given : ℕ) (action : Action) (mask : ℕ) (c : Configuration) (w : MachineState)
    → Step (Allows tells) (task_of program given (answer action mask) c) w (record (next c) { result = Some (field w.device.value 0 mask) }) 0 w
answer_step tells program given action mask c w =
    let has : HasWork (task_of program given (answer action mask) c) (TakeField (λ x. record (next c) { result = Some x })) = record { instruction = ReadRegister; code = refl; work_is = refl } in
    Takes (λ x. record (next c) { result = Some x }) value_at (field w.device.value 0 mask) w has refl (Got w.device.value w (refl, refl))

one_step : (tells : Type 0) (program : Listed) (given : ℕ) (action : Action) (c : Configuration) (w : MachineState)
    → Step (Allows tells) (task_of program given (is_one action) c) w (record (next c) { result = Some (if field w.device.value 0 (2 ^ 64 - 1) == 1 then 1 else 0) }) 0 w
one_step tells program given action c w =
    let has : HasWork (task_of program given (is_one action) c) (TakeField (λ x. record (next c) { result = Some (if x == 1 then 1 else 0) })) =
    record { instruction = ReadRegisterValue; code = refl; work_is = refl } in
    Takes (λ x. record (next c) { result = Some (if x == 1 then 1 else 0) }) value_at (field w.device.value 0 (2 ^ 64 - 1)) w has refl (Got w.device.value w (refl, refl))

-- from where an action is carried out: a value that it takes stands in VALUE then
starts : (action : Action) (given : ℕ) (first : MachineState) (takes : Bool) → takes_value action ≡ takes
    → (if takes_value action then with_value (given % 2 ^ 64) first else first) ≡ (if takes then with_value (given % 2 ^ 64) first else first)
starts action given first takes is = ap (λ (b : Bool). if b then with_value (given % 2 ^ 64) first else first) is

-- programs of one entry

abbrev one_entry : Action → Listed
one_entry action = record { action = code_of action; entries = act action ∷ [] }

one_back : (tells : Type 0) (action : Action) (given budget : ℕ) (first : MachineState) (result : Result ℕ RunStop) (left : ℕ) (last : MachineState) →
    takes_value action ≡ false → tells_value action ≡ false
    → ((value : ℕ) → answer_of action given value ≡ given) → steps_of own_entries action ≡ 1 → stored (code_of action) 0 (2 ^ 32 - 1) % 2 ^ 32 ≡ code_of action
    → OwnRun tells action given budget first result left last → Run (Allows tells) (one_entry action) given budget first result left last
one_back tells action given budget first result left last takes_none tells_none says steps code run =
    elim run as (λ result left last run. Run (Allows tells) (one_entry action) given budget first result left last) [
      | IsMade left last acted spent ↦
          let done = act_step tells (one_entry action) given action begin first last code (subst (λ (w : MachineState). ActsOn tells w (code_of action) last)
          (starts action given first false takes_none) acted) in
          subst (λ (n : ℕ). Run (Allows tells) (one_entry action) given budget first (Ok n) left last) (sym (says last.device.value))
          (Finishes left (next begin) last (HasEntry (omega arith)) (Then budget begin first (act action) (next begin) 0 left last Begun refl done (omega (arith, spent, steps))) (omega arith))
      | StopsAtOnce none ↦ Exhausted begin first (HasEntry (omega arith)) (subst (λ (n : ℕ). Walk (Allows tells) (one_entry action) given budget first n begin first) none Begun) (omega arith)
      | StopsBefore one takes ↦ absurd (cc (sym takes ∙ takes_none))
      | StopsBehind last one shows acted ↦ absurd (cc (sym shows ∙ tells_none))
    ]

-- programs that give a value first

abbrev give_entries : Action → Listed
give_entries action = record { action = code_of action; entries = give action ∷ act action ∷ [] }

give_back : (tells : Type 0) (action : Action) (given budget : ℕ) (first : MachineState) (result : Result ℕ RunStop) (left : ℕ) (last : MachineState) →
    takes_value action ≡ true → tells_value action ≡ false
    → ((value : ℕ) → answer_of action given value ≡ given) → steps_of own_entries action ≡ 2 → stored (code_of action) 0 (2 ^ 32 - 1) % 2 ^ 32 ≡ code_of action
    → OwnRun tells action given budget first result left last → Run (Allows tells) (give_entries action) given budget first result left last
give_back tells action given budget first result left last takes tells_none says steps code run =
    elim run as (λ result left last run. Run (Allows tells) (give_entries action) given budget first result left last) [
      | IsMade left last acted spent ↦
          let mid = with_value (given % 2 ^ 64) first in
          let done = act_step tells (give_entries action) given action (next begin) mid last code
          (subst (λ (w : MachineState). ActsOn tells w (code_of action) last) (starts action given first true takes) acted) in
          let gave : Walk (Allows tells) (give_entries action) given budget first (left + 1) (next begin) mid =
          Then budget begin first (give action) (next begin) 0 (left + 1) mid Begun refl (give_step tells (give_entries action) given action begin first) (omega (arith, spent, steps)) in
          subst (λ (n : ℕ). Run (Allows tells) (give_entries action) given budget first (Ok n) left last) (sym (says last.device.value))
          (Finishes left (next (next begin)) last (HasEntry (omega arith)) (Then (left + 1) (next begin) mid (act action) (next (next begin)) 0 left last gave refl done (omega arith)) (omega arith))
      | StopsAtOnce none ↦ Exhausted begin first (HasEntry (omega arith)) (subst (λ (n : ℕ). Walk (Allows tells) (give_entries action) given budget first n begin first) none Begun) (omega arith)
      | StopsBefore one taken ↦
          let mid = with_value (given % 2 ^ 64) first in
          let gave : Walk (Allows tells) (give_entries action) given budget first 0 (next begin) mid =
          Then budget begin first (give action) (next begin) 0 0 mid Begun refl (give_step tells (give_entries action) given action begin first) (omega (arith, one)) in
          subst (λ (w : MachineState). Run (Allows tells) (give_entries action) given budget first (Err Budget) 0 w) (sym (starts action given first true takes))
          (Exhausted (next begin) mid (HasEntry (omega arith)) gave (omega arith))
      | StopsBehind last one shows acted ↦ absurd (cc (sym shows ∙ tells_none))
    ]

-- programs that read VALUE behind the action

abbrev tell_entries : Action → Entry → Listed
tell_entries action reader = record { action = code_of action; entries = act action ∷ reader ∷ [] }

tell_back : (tells : Type 0) (action : Action) (given budget : ℕ) (first : MachineState) (reader : Entry) (taken : MachineState → ℕ) (result : Result ℕ RunStop) (left : ℕ) (last : MachineState)
    → ((c : Configuration) (w : MachineState) → Step (Allows tells) (task_of (tell_entries action reader) given reader c) w (record (next c) { result = Some (taken w) }) 0 w)
    → takes_value action ≡ false → ((w : MachineState) → answer_of action given w.device.value ≡ taken w) → steps_of own_entries action ≡ 2 →
    stored (code_of action) 0 (2 ^ 32 - 1) % 2 ^ 32 ≡ code_of action
    → OwnRun tells action given budget first result left last → Run (Allows tells) (tell_entries action reader) given budget first result left last
tell_back tells action given budget first reader taken result left last reads takes_none says steps code run =
    elim run as (λ result left last run. Run (Allows tells) (tell_entries action reader) given budget first result left last) [
      | IsMade left last acted spent ↦
          let done = act_step tells (tell_entries action reader) given action begin first last code
          (subst (λ (w : MachineState). ActsOn tells w (code_of action) last) (starts action given first false takes_none) acted) in
          let walk : Walk (Allows tells) (tell_entries action reader) given budget first (left + 1) (next begin) last =
          Then budget begin first (act action) (next begin) 0 (left + 1) last Begun refl done (omega (arith, spent, steps)) in
          subst (λ (n : ℕ). Run (Allows tells) (tell_entries action reader) given budget first (Ok n) left last) (sym (says last))
          (Finishes left (record (next (next begin)) { result = Some (taken last) }) last (HasEntry (omega arith))
          (Then (left + 1) (next begin) last reader (record (next (next begin)) { result = Some (taken last) }) 0 left last walk refl (reads (next begin) last) (omega arith)) (omega arith))
      | StopsAtOnce none ↦ Exhausted begin first (HasEntry (omega arith))
          (subst (λ (n : ℕ). Walk (Allows tells) (tell_entries action reader) given budget first n begin first) none Begun) (omega arith)
      | StopsBefore one takes ↦ absurd (cc (sym takes ∙ takes_none))
      | StopsBehind last one shows acted ↦
          let done = act_step tells (tell_entries action reader) given action begin first last code acted in
          let walk : Walk (Allows tells) (tell_entries action reader) given budget first 0 (next begin) last =
          Then budget begin first (act action) (next begin) 0 0 last Begun refl done (omega (arith, one)) in
          Exhausted (next begin) last (HasEntry (omega arith)) walk (omega arith)
    ]

-- the actions of a client's sequences
abbrev pub IsOfSequence : Action → Type 0
IsOfSequence BeginWriteOperation = Unit {0}
IsOfSequence BeginReadOperation = Unit {0}
IsOfSequence BeginClearOperation = Unit {0}
IsOfSequence BeginDummyWriteOperation = Unit {0}
IsOfSequence EndOperation = Unit {0}
IsOfSequence SetRecordOffset = Unit {0}
IsOfSequence SetRecordIdentifier = Unit {0}
IsOfSequence ExecuteOperation = Unit {0}
IsOfSequence CheckBusyStatus = Unit {0}
IsOfSequence GetCommandStatus = Unit {0}
IsOfSequence action = ⊥

pub run_of_own : (tells : Type 0) (action : Action) → IsOfSequence action → (given budget : ℕ) (first : MachineState) (result : Result ℕ RunStop) (left : ℕ) (last : MachineState)
    → OwnRun tells action given budget first result left last → Performs (Allows tells) own_entries action given budget first result left last
unfolding own_entries entries_of
run_of_own tells BeginWriteOperation is given budget first result left last run = one_back tells BeginWriteOperation given budget first result left last refl refl (λ value. refl) refl refl run
run_of_own tells BeginReadOperation is given budget first result left last run = one_back tells BeginReadOperation given budget first result left last refl refl (λ value. refl) refl refl run
run_of_own tells BeginClearOperation is given budget first result left last run = one_back tells BeginClearOperation given budget first result left last refl refl (λ value. refl) refl refl run
run_of_own tells BeginDummyWriteOperation is given budget first result left last run = one_back tells BeginDummyWriteOperation given budget first result left
    last refl refl (λ value. refl) refl refl run
run_of_own tells EndOperation is given budget first result left last run = one_back tells EndOperation given budget first result left last refl refl (λ value. refl) refl refl run
run_of_own tells ExecuteOperation is given budget first result left last run = one_back tells ExecuteOperation given budget first result left last refl refl (λ value. refl) refl refl run
run_of_own tells SetRecordOffset is given budget first result left last run = give_back tells SetRecordOffset given budget first result left last refl refl (λ value. refl) refl refl run
run_of_own tells SetRecordIdentifier is given budget first result left last run = give_back tells SetRecordIdentifier given budget first result left last refl refl (λ value. refl) refl refl run
run_of_own tells CheckBusyStatus is given budget first result left last run =
    tell_back tells CheckBusyStatus given budget first (is_one CheckBusyStatus) (λ w. if field w.device.value 0 (2 ^ 64 - 1) == 1 then 1 else 0) result left
    last (λ c w. one_step tells (tell_entries CheckBusyStatus (is_one CheckBusyStatus)) given CheckBusyStatus c w) refl
    (λ w. ap (λ (n : ℕ). if n == 1 then 1 else 0) (sym (low_bits w.device.value 64))) refl refl run
run_of_own tells GetCommandStatus is given budget first result left last run =
    tell_back tells GetCommandStatus given budget first (answer GetCommandStatus 0xFF) (λ w. field w.device.value 0 0xFF) result left last
    (λ c w. answer_step tells (tell_entries GetCommandStatus (answer GetCommandStatus 0xFF)) given GetCommandStatus 0xFF c w) refl
    (λ w. sym (low_bits w.device.value 8)) refl refl run
run_of_own tells action is given budget first result left last run = absurd is
